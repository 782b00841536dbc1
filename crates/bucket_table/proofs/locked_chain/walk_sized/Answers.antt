use Rattle.std.proofs.Common.{◌≡◌, ◌≢◌, ℕ, ◌-◌, ◌<◌, Bool, true, false, List, get_or, ap, arith, subst, sym, ◌∙◌, Some, None}
use Rattle.std.specs.Prelude.{◌==◌, ◌&&◌, if◌then◌else◌}
use Rattle.std.proofs.lemmas.Bool.{and_parts, eq-eqb, eqb-true, false≢true, ne_eqb}
use Rattle.history_book.specs.declared.sizes.Sizes.{Sizes}
use Rattle.tuple_core.specs.Words.{address_word, flow_word}
use Rattle.tuple_core.specs.declared.Direction.TheVariants.{Original, Reply}
use Rattle.track_rule.specs.Chains.{chain_in, shuts_of}
use Rattle.track_rule.specs.Layout.{next_word, place_of, side_of}
use Rattle.track_rule.specs.Sights.{sizes_of}
use Rattle.bucket_table.specs.Following.{bucket_in}
use Rattle.bucket_table.specs.LockedChain.{IsWalking, found_in}
use Rattle.track_rule.specs.ChangesOnly.{no_word}
use Rattle.track_rule.specs.ChangeLaws.{joined}
use Rattle.bucket_table.proofs.Chaining.{only_words}
use Rattle.bucket_table.proofs.Pairs.{bucket_shut, walk_end, walk_finds, walk_found, walk_on, walk_some, walk_start}
use Rattle.bucket_table.proofs.Passing.{load_only, loads_join}
use Rattle.bucket_table.proofs.locked_chain.walk_sized.Goals as goal

pub links-init : goal.links-init
links-init c =
    let bucket : c.bucket_of-bucket.result ≡ bucket_in (sizes_of c.args.pass.now) c.args.t.now =
    c.bucket_of-bucket.ensures.exact ∙ ap (λ (z : Sizes). bucket_in z c.args.t.now) c.requires.sizes in
    record {
      loads = load_only c.args.pass.now c.link_load-link.new.self c.head_word.result c.link_load-link.result c.link_load-link.ensures.kept c.link_load-link.ensures.loads;
      walks = walk_start c.args.sizes.now c.bucket_of-bucket.result c.link_load-link.result c.head_word.result (get_or c.words-goal.result 0 0)
          (get_or c.words-goal.result 1 0) c.args.pass.now c.link_load-link.new.self c.requires.sizes c.head_word.ensures.word
          (subst (λ (z : Sizes). c.bucket_of-bucket.result < z.buckets) c.requires.sizes c.bucket_of-bucket.ensures.below)
          (subst (λ (b : ℕ). 0 < shuts_of b c.args.pass.now.view) (sym bucket) (bucket_shut c.args.locked.now (bucket_in (sizes_of c.args.pass.now) c.args.t.now) c.args.pass.now.view c.requires.shut c.requires.bucket))
          c.link_load-link.ensures.loads c.link_load-link.ensures.kept;
    }

not_first : (has : Bool) (link : ℕ) → (has && side_of link == 0) ≡ false → has ≡ true → side_of link ≢ 0
not_first has link e is zero = false≢true (sym e ∙ (λ i. is i && eq-eqb (side_of link) 0 zero i))

pub links-preserved : goal.links-preserved
links-preserved c =
    let same : sizes_of c.links.pass ≡ sizes_of c.args.pass.now = ap sizes_of c.links.invariant.loads.same in
    let below : c.bucket_of-bucket.result < (sizes_of c.links.pass).buckets =
    subst (λ (z : Sizes). c.bucket_of-bucket.result < z.buckets) (c.requires.sizes ∙ sym same) c.bucket_of-bucket.ensures.below in
    record {
      loads = loads_join c.args.pass.now c.has_words-has.new.pass c.link_load-link-in-links.new.self
          (loads_join c.args.pass.now c.links.pass c.has_words-has.new.pass c.links.invariant.loads c.has_words-has.ensures.loads)
          (load_only c.has_words-has.new.pass c.link_load-link-in-links.new.self c.next_word.result c.link_load-link-in-links.result
          c.link_load-link-in-links.ensures.kept c.link_load-link-in-links.ensures.loads);
      walks = subst (λ (k : ℕ). IsWalking c.bucket_of-bucket.result (get_or c.words-goal.result 0 0) (get_or c.words-goal.result 1 0) c.link_load-link-in-links.new.self
          c.link_load-link-in-links.result (c.links.left - 1) k) (sym c.first_reply-reply.ensures)
          (walk_on c.bucket_of-bucket.result (get_or c.words-goal.result 0 0) (get_or c.words-goal.result 1 0) c.links.link c.links.left c.links.reply
          c.link_load-link-in-links.result c.next_word.result c.has_words-has.result c.links.pass c.has_words-has.new.pass c.link_load-link-in-links.new.self below
          c.links.invariant.walks c.links-test.true c.has_words-has.ensures.loads
          (λ passed e rest there is. c.has_words-has.ensures.exact c.bucket_of-bucket.result passed e rest below there is)
          (not_first c.has_words-has.result c.links.link (sym c.is_answer.ensures ∙ c.if-is_answer.false))
          (c.next_word.ensures.word ∙ ap (λ (z : Sizes). next_word z c.links.link) (c.requires.sizes ∙ sym same))
          c.link_load-link-in-links.ensures.loads c.link_load-link-in-links.ensures.kept);
    }

pub overflow_sub-left : goal.overflow_sub-left
overflow_sub-left c =
    (walk_some c.bucket_of-bucket.result (get_or c.words-goal.result 0 0) (get_or c.words-goal.result 1 0) c.links.link c.links.left c.links.reply c.links.pass
    c.links.invariant.walks c.links-test.true).1

pub links-smaller : goal.links-smaller
links-smaller c =
    omega (
      arith,
      (walk_some c.bucket_of-bucket.result (get_or c.words-goal.result 0 0) (get_or c.words-goal.result 1 0) c.links.link c.links.left c.links.reply c.links.pass
          c.links.invariant.walks c.links-test.true).1,
    )

pub returns-then-is_answer-clause-finds : goal.returns-then-is_answer-clause-finds
returns-then-is_answer-clause-finds c =
    let bucket : c.bucket_of-bucket.result ≡ bucket_in (sizes_of c.args.pass.now) c.args.t.now =
    c.bucket_of-bucket.ensures.exact ∙ ap (λ (z : Sizes). bucket_in z c.args.t.now) c.requires.sizes in
    let first : get_or c.words-goal.result 0 0 ≡ address_word c.args.t.now = ap (λ (xs : List ℕ). get_or xs 0 0) c.words-goal.ensures in
    let second : get_or c.words-goal.result 1 0 ≡ flow_word c.args.t.now = ap (λ (xs : List ℕ). get_or xs 1 0) c.words-goal.ensures in
    let finds = walk_finds c.bucket_of-bucket.result (get_or c.words-goal.result 0 0) (get_or c.words-goal.result 1 0) c.links.link c.links.left c.links.reply
    c.args.pass.now c.links.pass c.links.invariant.walks c.links.invariant.loads
    ∙ (λ i. found_in (first i) (second i) (chain_in (bucket i) c.args.pass.now.view.buckets.shut)) in
    let parts = and_parts c.has_words-has.result (side_of c.links.link == 0) (sym c.is_answer.ensures ∙ c.if-is_answer.true) in
    ap (λ (p : ℕ). Some (p, Original)) c.place_of.ensures
    ∙ sym (walk_found c.bucket_of-bucket.result (get_or c.words-goal.result 0 0) (get_or c.words-goal.result 1 0) c.links.link c.links.left c.links.reply
    c.links.pass c.links.invariant.walks c.links-test.true
    (λ passed e rest there is.
    sym parts.0 ∙ c.has_words-has.ensures.exact c.bucket_of-bucket.result passed e rest
    (subst (λ (z : Sizes). c.bucket_of-bucket.result < z.buckets) (c.requires.sizes ∙ sym (ap sizes_of c.links.invariant.loads.same)) c.bucket_of-bucket.ensures.below)
    there is)
    (eqb-true (side_of c.links.link) 0 parts.1))
    ∙ finds

pub returns-then-reply-eq0-clause-finds : goal.returns-then-reply-eq0-clause-finds
returns-then-reply-eq0-clause-finds c =
    let bucket : c.bucket_of-bucket.result ≡ bucket_in (sizes_of c.args.pass.now) c.args.t.now =
    c.bucket_of-bucket.ensures.exact ∙ ap (λ (z : Sizes). bucket_in z c.args.t.now) c.requires.sizes in
    let first : get_or c.words-goal.result 0 0 ≡ address_word c.args.t.now = ap (λ (xs : List ℕ). get_or xs 0 0) c.words-goal.ensures in
    let second : get_or c.words-goal.result 1 0 ≡ flow_word c.args.t.now = ap (λ (xs : List ℕ). get_or xs 1 0) c.words-goal.ensures in
    let finds = walk_finds c.bucket_of-bucket.result (get_or c.words-goal.result 0 0) (get_or c.words-goal.result 1 0) c.links.link c.links.left c.links.reply
    c.args.pass.now c.links.pass c.links.invariant.walks c.links.invariant.loads
    ∙ (λ i. found_in (first i) (second i) (chain_in (bucket i) c.args.pass.now.view.buckets.shut)) in
    sym (ap (λ (b : Bool). if b then None else Some (place_of c.links.reply, Reply)) (eq-eqb c.links.reply 0 c.if-reply-eq0.true))
    ∙ sym (walk_end c.bucket_of-bucket.result (get_or c.words-goal.result 0 0) (get_or c.words-goal.result 1 0) c.links.link c.links.left c.links.reply
    c.links.pass c.links.invariant.walks c.links-test.false)
    ∙ finds

pub returns-clause-finds : goal.returns-clause-finds
returns-clause-finds c =
    let bucket : c.bucket_of-bucket.result ≡ bucket_in (sizes_of c.args.pass.now) c.args.t.now =
    c.bucket_of-bucket.ensures.exact ∙ ap (λ (z : Sizes). bucket_in z c.args.t.now) c.requires.sizes in
    let first : get_or c.words-goal.result 0 0 ≡ address_word c.args.t.now = ap (λ (xs : List ℕ). get_or xs 0 0) c.words-goal.ensures in
    let second : get_or c.words-goal.result 1 0 ≡ flow_word c.args.t.now = ap (λ (xs : List ℕ). get_or xs 1 0) c.words-goal.ensures in
    let finds = walk_finds c.bucket_of-bucket.result (get_or c.words-goal.result 0 0) (get_or c.words-goal.result 1 0) c.links.link c.links.left c.links.reply
    c.args.pass.now c.links.pass c.links.invariant.walks c.links.invariant.loads
    ∙ (λ i. found_in (first i) (second i) (chain_in (bucket i) c.args.pass.now.view.buckets.shut)) in
    ap (λ (p : ℕ). Some (p, Reply)) c.place_of-2.ensures
    ∙ sym (ap (λ (b : Bool). if b then None else Some (place_of c.links.reply, Reply)) (ne_eqb c.links.reply 0 c.if-reply-eq0.false))
    ∙ sym (walk_end c.bucket_of-bucket.result (get_or c.words-goal.result 0 0) (get_or c.words-goal.result 1 0) c.links.link c.links.left c.links.reply
    c.links.pass c.links.invariant.walks c.links-test.false)
    ∙ finds

pub returns-then-is_answer-clause-words : goal.returns-then-is_answer-clause-words
returns-then-is_answer-clause-words c =
    joined no_word c.args.pass.now.view c.links.pass.view c.has_words-has.new.pass.view (only_words no_word c.args.pass.now c.links.pass c.links.invariant.loads)
    (only_words no_word c.links.pass c.has_words-has.new.pass c.has_words-has.ensures.loads)

pub returns-then-reply-eq0-clause-words : goal.returns-then-reply-eq0-clause-words
returns-then-reply-eq0-clause-words c = only_words no_word c.args.pass.now c.links.pass c.links.invariant.loads

pub returns-clause-words : goal.returns-clause-words
returns-clause-words c = only_words no_word c.args.pass.now c.links.pass c.links.invariant.loads
