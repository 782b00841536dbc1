use Rattle.std.proofs.Common.{subst}
use Rattle.track_rule.specs.ChangeLaws.{joined}
use Rattle.track_rule.specs.ChangesOnly.{ChangesWords, is_tuple_of}
use Rattle.std.proofs.Common.{◌≡◌, ℕ, ◌+◌, ◌*◌, ap, arith, ◌∙◌}
use Rattle.track_rule.specs.Layout.{place_of}
use Rattle.track_rule.specs.Links.{is_up}
use Rattle.shared_desk.proofs.Hooks.{same_count, same_up}
use Rattle.shared_desk.proofs.tuples.store_tuples.Goals as goal

pub store_tuple-requires-2-clause-there : goal.store_tuple-requires-2-clause-there
store_tuple-requires-2-clause-there c =
    omega (
      arith,
      c.requires.fresh.reply,
      same_count (2 + 2 * c.args.place) c.store_tuple.new.pass.view.buckets.hooks c.args.pass.now.view.buckets.hooks c.store_tuple.ensures.stores.stands,
    )

of_reply : (p : ℕ) → place_of (2 + 2 * p) ≡ p
of_reply p = omega arith

pub store_tuple-requires-2-clause-low : goal.store_tuple-requires-2-clause-low
store_tuple-requires-2-clause-low c =
    ap (λ (p : ℕ). is_up p c.store_tuple.new.pass.view.buckets.hooks) (of_reply c.args.place)
    ∙ same_up c.args.place c.store_tuple.new.pass.view.buckets.hooks c.args.pass.now.view.buckets.hooks c.store_tuple.ensures.stores.stands ∙ c.requires.fresh.low

of_original : (p : ℕ) → place_of (1 + 2 * p) ≡ p
of_original p = omega arith

pub returns-clause-words : goal.returns-clause-words
returns-clause-words c =
    joined (is_tuple_of c.args.place) c.args.pass.now.view c.store_tuple.new.pass.view c.store_tuple-2.new.pass.view
    (subst (λ (p : ℕ). ChangesWords (is_tuple_of p) c.args.pass.now.view c.store_tuple.new.pass.view) (of_original c.args.place) c.store_tuple.ensures.words)
    (subst (λ (p : ℕ). ChangesWords (is_tuple_of p) c.store_tuple.new.pass.view c.store_tuple-2.new.pass.view) (of_reply c.args.place) c.store_tuple-2.ensures.words)
