use Rattle.std.proofs.Common.{◌≡◌, ℕ, List, ap, subst, sym, ◌∙◌}
use Rattle.std.specs.Prelude.{replicate}
use Rattle.atomic_table.specs.Table.{opening}
use Rattle.track_rule.specs.declared.slot.Slot.{Slot}
use Rattle.track_rule.specs.Layout.{word_count}
use Rattle.track_rule.specs.Rule.{RuleHolds, first_view}
use Rattle.track_rule.proofs.Start.{starts}
use Rattle.track_rule.proofs.pass.Pass.first.Goals as goal

pub new-requires-2 : goal.new-requires-2
new-requires-2 c =
    let z = c.args.sizes in
    let words : c.as_slice.result.now ≡ replicate (word_count z) 0 =
    c.as_slice.ensures.value ∙ c.in_ok-words.ensures.items_if_clones_equal (λ y e. e) ∙ ap (λ (n : ℕ). replicate n 0) c.word_count.ensures in
    subst (λ (ws : List ℕ). RuleHolds z (opening ws c.in_ok-slots.slots.items (first_view z))) (sym words)
    (subst (λ (xs : List Slot). RuleHolds z (opening (replicate (word_count z) 0) xs (first_view z))) (sym c.in_ok-slots.ensures)
    (starts z c.in_ok-free.free c.in_ok-expects.expects c.requires c.in_ok-free.ensures c.in_ok-expects.ensures.empty c.in_ok-expects.ensures.room))
