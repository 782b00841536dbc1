use Rattle.std.proofs.Common.{◌≡◌, ℕ, true, ◌<◌, ap, arith, subst, sym, ◌∙◌}
use Rattle.std.specs.Prelude.{not}
use Rattle.history_book.specs.declared.sizes.Sizes.{Sizes}
use Rattle.track_rule.specs.BucketSteps.{put_in}
use Rattle.track_rule.specs.Chains.{shuts_of}
use Rattle.track_rule.specs.Free.{is_among}
use Rattle.track_rule.specs.Layout.{place_of}
use Rattle.track_rule.specs.Links.{hooks_of, is_down, is_up}
use Rattle.track_rule.specs.Sights.{PassSight, sizes_of}
use Rattle.track_rule.specs.declared.view.Hook.{Hook}
use Rattle.bucket_table.specs.LockedChain.{hook_bucket, original_link, reply_link}
use Rattle.bucket_table.specs.LockedChain.{link_words}
use Rattle.track_rule.specs.ChangeLaws.{joined}
use Rattle.bucket_table.proofs.Chaining.{only_words, put_one, put_other}
use Rattle.bucket_table.proofs.Pairs.{bucket_shut, put_keeps, second_of}
use Rattle.bucket_table.proofs.Passing.{changes_join, no_loads}
use Rattle.bucket_table.proofs.Stringing.{raised_alone, some_there}
use Rattle.bucket_table.proofs.locked_chain.link_in.Goals as goal

of_original : (p : ℕ) → place_of (original_link p) ≡ p
of_original p = omega arith

of_reply : (p : ℕ) → place_of (reply_link p) ≡ p
of_reply p = omega arith

pub put_link-requires-2-clause-mine : goal.put_link-requires-2-clause-mine
put_link-requires-2-clause-mine c =
    let keeps = second_of (sizes_of c.args.pass.now) (original_link c.args.place) is_down (put_in c.args.second (reply_link c.args.place)) c.args.pass.now c.args.pass.now c.put_link.new.pass
    (no_loads c.args.pass.now)
    c.put_link.ensures.puts (put_keeps (sizes_of c.args.pass.now) c.args.second (reply_link c.args.place) (original_link c.args.place) c.args.pass.now.view.buckets (λ e. omega (arith, e))) in
    let here : c.args.first ≡ hook_bucket (sizes_of c.args.pass.now) (original_link c.args.place) c.args.pass.now.view.buckets.hooks = c.requires.first in
    omega (
      arith,
      keeps.0.shuts c.args.first,
      subst (λ (b : ℕ). 0 < shuts_of b c.args.pass.now.view) (sym here)
          (bucket_shut c.args.locked.now (hook_bucket (sizes_of c.args.pass.now) (original_link c.args.place) c.args.pass.now.view.buckets.hooks) c.args.pass.now.view c.requires.shut c.requires.original_ready.its_bucket),
    )

pub put_link-requires-2-clause-down : goal.put_link-requires-2-clause-down
put_link-requires-2-clause-down c =
    let keeps = second_of (sizes_of c.args.pass.now) (original_link c.args.place) is_down (put_in c.args.second (reply_link c.args.place)) c.args.pass.now c.args.pass.now c.put_link.new.pass
    (no_loads c.args.pass.now)
    c.put_link.ensures.puts (put_keeps (sizes_of c.args.pass.now) c.args.second (reply_link c.args.place) (original_link c.args.place) c.args.pass.now.view.buckets (λ e. omega (arith, e))) in
    keeps.0.passes ∙ c.requires.original

pub put_link-requires-2-clause-placed : goal.put_link-requires-2-clause-placed
put_link-requires-2-clause-placed c =
    let keeps = second_of (sizes_of c.args.pass.now) (original_link c.args.place) is_down (put_in c.args.second (reply_link c.args.place)) c.args.pass.now c.args.pass.now c.put_link.new.pass
    (no_loads c.args.pass.now)
    c.put_link.ensures.puts (put_keeps (sizes_of c.args.pass.now) c.args.second (reply_link c.args.place) (original_link c.args.place) c.args.pass.now.view.buckets (λ e. omega (arith, e))) in
    let here : c.args.first ≡ hook_bucket (sizes_of c.args.pass.now) (original_link c.args.place) c.args.pass.now.view.buckets.hooks = c.requires.first in
    ap (λ (z : Sizes). hook_bucket z (original_link c.args.place) c.put_link.new.pass.view.buckets.hooks) keeps.1 ∙ keeps.0.bucket ∙ sym here

pub returns-clause-links : goal.returns-clause-links
returns-clause-links c =
    let loads = no_loads c.args.pass.now in
    let second : c.args.second ≡ hook_bucket (sizes_of c.args.pass.now) (reply_link c.args.place) c.args.pass.now.view.buckets.hooks =
    c.requires.second in
    let between : c.put_link.new.pass.view.buckets
    ≡ put_in (hook_bucket (sizes_of c.args.pass.now) (reply_link c.args.place) c.args.pass.now.view.buckets.hooks) (reply_link c.args.place) c.args.pass.now.view.buckets =
    ap (λ (k : PassSight). k.view.buckets) c.put_link.ensures.puts.same
    ∙ (λ i. put_in (second i) (reply_link c.args.place) (ap (λ (k : PassSight). k.view.buckets) loads.same i)) in
    changes_join _ _ _ c.args.pass.now c.args.pass.now c.put_link.new.pass c.put_link-2.new.pass loads c.put_link.ensures.puts c.put_link-2.ensures.puts
    (λ i. put_in (c.requires.first i) (original_link c.args.place) (between i))

pub put_link-requires-clause-owned : goal.put_link-requires-clause-owned
put_link-requires-clause-owned c =
    let loads = no_loads c.args.pass.now in
    ap (λ (x : PassSight). is_among (place_of (reply_link c.args.place)) x.view.places.owned) loads.same
    ∙ ap (λ (p : ℕ). is_among p c.args.pass.now.view.places.owned) (of_reply c.args.place) ∙ c.requires.owned

pub put_link-requires-2-clause-owned : goal.put_link-requires-2-clause-owned
put_link-requires-2-clause-owned c =
    let loads = no_loads c.args.pass.now in
    ap (λ (x : PassSight). is_among (place_of (original_link c.args.place)) x.view.places.owned) c.put_link.ensures.puts.same
    ∙ ap (λ (x : PassSight). is_among (place_of (original_link c.args.place)) x.view.places.owned) loads.same
    ∙ ap (λ (p : ℕ). is_among p c.args.pass.now.view.places.owned) (of_original c.args.place) ∙ c.requires.owned

pub put_link-requires-clause-alone : goal.put_link-requires-clause-alone
put_link-requires-clause-alone c =
    let loads = no_loads c.args.pass.now in
    λ q up. c.requires.alone q (subst (λ (x : PassSight). is_up q x.view.buckets.hooks ≡ true) loads.same up) ∙ sym (of_reply c.args.place)

pub put_link-requires-2-clause-alone : goal.put_link-requires-2-clause-alone
put_link-requires-2-clause-alone c =
    let loads = no_loads c.args.pass.now in
    λ q up.
    raised_alone (reply_link c.args.place) c.args.place q c.args.pass.now.view.buckets.hooks (of_reply c.args.place)
    (λ was. c.requires.alone q (subst (λ (x : PassSight). is_up q x.view.buckets.hooks ≡ true) loads.same was))
    (subst (λ (x : PassSight). is_up q x.view.buckets.hooks ≡ true) c.put_link.ensures.puts.same up) ∙ sym (of_original c.args.place)

pub returns-clause-words : goal.returns-clause-words
returns-clause-words c =
    let loads = no_loads c.args.pass.now in
    let a : ℕ = hook_bucket (sizes_of c.args.pass.now) (original_link c.args.place) c.args.pass.now.view.buckets.hooks in
    let b : ℕ = hook_bucket (sizes_of c.args.pass.now) (reply_link c.args.place) c.args.pass.now.view.buckets.hooks in
    let second : c.args.second ≡ b =
    c.requires.second in
    joined (link_words a b c.args.place) c.args.pass.now.view c.args.pass.now.view c.put_link-2.new.pass.view
    (only_words (link_words a b c.args.place) c.args.pass.now c.args.pass.now loads)
    (joined (link_words a b c.args.place) c.args.pass.now.view c.put_link.new.pass.view c.put_link-2.new.pass.view
    (put_other a b c.args.place _ _ c.args.pass.now.view c.put_link.new.pass.view second (of_reply c.args.place) c.put_link.ensures.words)
    (put_one a b c.args.place _ _ c.put_link.new.pass.view c.put_link-2.new.pass.view c.requires.first (of_original c.args.place) c.put_link-2.ensures.words))
