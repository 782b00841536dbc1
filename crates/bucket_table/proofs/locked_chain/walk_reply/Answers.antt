use Rattle.std.proofs.Common.{◌≡◌, ℕ, ◌<◌, List, get_or, ap, arith, subst, sym, ◌∙◌, Some}
use Rattle.history_book.specs.declared.sizes.Sizes.{Sizes}
use Rattle.tuple_core.specs.Words.{address_word, flow_word}
use Rattle.track_rule.specs.Chains.{chain_in, shuts_of}
use Rattle.track_rule.specs.Layout.{next_word}
use Rattle.track_rule.specs.Sights.{PassSight, sizes_of}
use Rattle.bucket_table.specs.Following.{bucket_in}
use Rattle.bucket_table.specs.LockedChain.{link_with, place_in}
use Rattle.track_rule.specs.ChangesOnly.{no_word}
use Rattle.track_rule.specs.ChangeLaws.{joined}
use Rattle.bucket_table.proofs.Chaining.{only_words}
use Rattle.bucket_table.proofs.Pairs.{bucket_shut}
use Rattle.bucket_table.proofs.Passing.{load_only, loads_join}
use Rattle.bucket_table.proofs.Seeking.{look_end, look_found, look_on, look_some, look_start}
use Rattle.bucket_table.proofs.locked_chain.walk_reply.Goals as goal

pub seek-init : goal.seek-init
seek-init c =
    let bucket : c.bucket_of-bucket.result ≡ bucket_in (sizes_of c.args.pass.now) c.args.t.now =
    c.bucket_of-bucket.ensures.exact ∙ ap (λ (z : Sizes). bucket_in z c.args.t.now) c.sizes-sizes.ensures.sizes in
    record {
      loads = load_only c.args.pass.now c.link_load-link.new.self c.head_word.result c.link_load-link.result c.link_load-link.ensures.kept c.link_load-link.ensures.loads;
      looks = look_start c.sizes-sizes.result c.bucket_of-bucket.result 1 c.link_load-link.result c.head_word.result (get_or c.words-goal.result 0 0)
          (get_or c.words-goal.result 1 0) c.args.pass.now c.link_load-link.new.self c.sizes-sizes.ensures.sizes c.head_word.ensures.word
          (subst (λ (z : Sizes). c.bucket_of-bucket.result < z.buckets) c.sizes-sizes.ensures.sizes c.bucket_of-bucket.ensures.below)
          (subst (λ (b : ℕ). 0 < shuts_of b c.args.pass.now.view) (sym bucket) (bucket_shut c.args.locked.now (bucket_in (sizes_of c.args.pass.now) c.args.t.now) c.args.pass.now.view c.requires.shut c.requires.bucket))
          c.link_load-link.ensures.loads c.link_load-link.ensures.kept;
    }

pub seek-preserved : goal.seek-preserved
seek-preserved c =
    let same : sizes_of c.seek.pass ≡ sizes_of c.args.pass.now = ap sizes_of c.seek.invariant.loads.same in
    let below : c.bucket_of-bucket.result < (sizes_of c.seek.pass).buckets =
    subst (λ (z : Sizes). c.bucket_of-bucket.result < z.buckets) (c.sizes-sizes.ensures.sizes ∙ sym same) c.bucket_of-bucket.ensures.below in
    record {
      loads = loads_join c.args.pass.now c.has_words-has.new.pass c.link_load-link-in-seek.new.self
          (loads_join c.args.pass.now c.seek.pass c.has_words-has.new.pass c.seek.invariant.loads c.has_words-has.ensures.loads)
          (load_only c.has_words-has.new.pass c.link_load-link-in-seek.new.self c.next_word.result c.link_load-link-in-seek.result
          c.link_load-link-in-seek.ensures.kept c.link_load-link-in-seek.ensures.loads);
      looks = look_on c.bucket_of-bucket.result 1 (get_or c.words-goal.result 0 0) (get_or c.words-goal.result 1 0) c.seek.link c.seek.left
          c.link_load-link-in-seek.result c.next_word.result c.has_words-has.result c.seek.pass c.has_words-has.new.pass c.link_load-link-in-seek.new.self below
          c.seek.invariant.looks c.seek-test.true c.has_words-has.ensures.loads
          (λ passed e rest there is. c.has_words-has.ensures.exact c.bucket_of-bucket.result passed e rest below there is)
          (sym c.is_reply.ensures ∙ c.if-is_reply.false)
          (c.next_word.ensures.word ∙ ap (λ (z : Sizes). next_word z c.seek.link) (c.sizes-sizes.ensures.sizes ∙ sym same))
          c.link_load-link-in-seek.ensures.loads c.link_load-link-in-seek.ensures.kept;
    }

pub overflow_sub-left : goal.overflow_sub-left
overflow_sub-left c =
    (look_some c.bucket_of-bucket.result 1 (get_or c.words-goal.result 0 0) (get_or c.words-goal.result 1 0) c.seek.link c.seek.left c.seek.pass
    c.seek.invariant.looks c.seek-test.true).1

pub seek-smaller : goal.seek-smaller
seek-smaller c =
    omega (
      arith,
      (look_some c.bucket_of-bucket.result 1 (get_or c.words-goal.result 0 0) (get_or c.words-goal.result 1 0) c.seek.link c.seek.left c.seek.pass
          c.seek.invariant.looks c.seek-test.true).1,
    )

pub returns-then-is_reply-clause-finds : goal.returns-then-is_reply-clause-finds
returns-then-is_reply-clause-finds c =
    let bucket : c.bucket_of-bucket.result ≡ bucket_in (sizes_of c.args.pass.now) c.args.t.now =
    c.bucket_of-bucket.ensures.exact ∙ ap (λ (z : Sizes). bucket_in z c.args.t.now) c.sizes-sizes.ensures.sizes in
    let first : get_or c.words-goal.result 0 0 ≡ address_word c.args.t.now = ap (λ (xs : List ℕ). get_or xs 0 0) c.words-goal.ensures in
    let second : get_or c.words-goal.result 1 0 ≡ flow_word c.args.t.now = ap (λ (xs : List ℕ). get_or xs 1 0) c.words-goal.ensures in
    let same : sizes_of c.seek.pass ≡ sizes_of c.args.pass.now = ap sizes_of c.seek.invariant.loads.same in
    ap (λ (p : ℕ). Some p) c.place_of.ensures
    ∙ ap place_in (sym (look_found c.bucket_of-bucket.result 1 (get_or c.words-goal.result 0 0) (get_or c.words-goal.result 1 0) c.seek.link c.seek.left c.has_words-has.result c.seek.pass
    c.seek.invariant.looks c.seek-test.true
    (λ passed e rest there is. c.has_words-has.ensures.exact c.bucket_of-bucket.result passed e rest
    (subst (λ (z : Sizes). c.bucket_of-bucket.result < z.buckets) (c.sizes-sizes.ensures.sizes ∙ sym same) c.bucket_of-bucket.ensures.below) there is)
    (sym c.is_reply.ensures ∙ c.if-is_reply.true)))
    ∙ (λ i. place_in (link_with 1 (first i) (second i) (chain_in (bucket i) (ap (λ (k : PassSight). k.view.buckets.shut) c.seek.invariant.loads.same i))))

pub returns-clause-finds : goal.returns-clause-finds
returns-clause-finds c =
    let bucket : c.bucket_of-bucket.result ≡ bucket_in (sizes_of c.args.pass.now) c.args.t.now =
    c.bucket_of-bucket.ensures.exact ∙ ap (λ (z : Sizes). bucket_in z c.args.t.now) c.sizes-sizes.ensures.sizes in
    let first : get_or c.words-goal.result 0 0 ≡ address_word c.args.t.now = ap (λ (xs : List ℕ). get_or xs 0 0) c.words-goal.ensures in
    let second : get_or c.words-goal.result 1 0 ≡ flow_word c.args.t.now = ap (λ (xs : List ℕ). get_or xs 1 0) c.words-goal.ensures in
    ap place_in (sym (look_end c.bucket_of-bucket.result 1 (get_or c.words-goal.result 0 0) (get_or c.words-goal.result 1 0) c.seek.link c.seek.left c.seek.pass
    c.seek.invariant.looks c.seek-test.false))
    ∙ (λ i. place_in (link_with 1 (first i) (second i) (chain_in (bucket i) (ap (λ (k : PassSight). k.view.buckets.shut) c.seek.invariant.loads.same i))))

pub returns-then-is_reply-clause-words : goal.returns-then-is_reply-clause-words
returns-then-is_reply-clause-words c =
    joined no_word c.args.pass.now.view c.seek.pass.view c.has_words-has.new.pass.view (only_words no_word c.args.pass.now c.seek.pass c.seek.invariant.loads)
    (only_words no_word c.seek.pass c.has_words-has.new.pass c.has_words-has.ensures.loads)

pub returns-clause-words : goal.returns-clause-words
returns-clause-words c = only_words no_word c.args.pass.now c.seek.pass c.seek.invariant.loads
