use Rattle.std.proofs.Common.{◌≡◌, ℕ, ◌<◌, None, ap, arith, subst, sym, ◌∙◌}
use Rattle.atomic_table.specs.Table.{Allows, rest, step}
use mathlib.Core.Option.{none}
use Rattle.history_book.specs.declared.sizes.Sizes.{Sizes}
use Rattle.track_rule.specs.Layout.{turn_word}
use Rattle.track_rule.specs.declared.view.Middle.TheVariants.{Calm}
use Rattle.track_rule.specs.Records.{has_hand}
use Rattle.track_rule.specs.Rule.{RuleHolds}
use Rattle.track_rule.specs.Sights.{PassSight, sizes_of}
use Rattle.track_rule.specs.declared.slot.Slot.{Slot}
use Rattle.std.proofs.Common.{List}
use Rattle.track_rule.specs.TurnSteps.{CanGiveTurn, GiveTurnStep}
use Rattle.track_rule.proofs.RecordTurns.{giving_turn}
use Rattle.track_rule.proofs.Seats.{allowed, hand_out, turned_back}
use Rattle.track_rule.proofs.pass.Pass.turn_give.Goals as goal

pub store-requires : goal.store-requires
store-requires c =
    let p = c.self.inside in
    let h = c.self.invariant in
    let place : ℕ = c.args.place in
    let z : Sizes = p.seat.me.0.passes.sizes in
    let slots = p.shared.now.table_id.slots in
    let word : c.turn_word-word.result ≡ turn_word z place = c.turn_word-word.ensures.word ∙ ap (λ (y : Sizes). turn_word y place) h.sizes_are in
    let below : place < z.entries = subst (λ (x : PassSight). place < (sizes_of x).entries) (sym c.self.view_is) c.requires.place in
    let free : p.seat.me.0.free ≡ None = subst (λ (x : PassSight). x.view.free ≡ None) (sym c.self.view_is) c.requires.free in
    let turn : has_hand place p.seat.me.0 ≡ 1 = subst (λ (x : PassSight). has_hand place x.view ≡ 1) (sym c.self.view_is) c.requires.turn in
    let whole : CanGiveTurn p.seat.me.0 p.seat.me.1 = subst (λ (x : PassSight). CanGiveTurn x.view x.slots) (sym c.self.view_is) c.requires.whole in
    let out = hand_out place p.seat.me free turn h.right.carries h.right.suit in (
      h.same,
      omega (arith, h.right.counts.words, ap (λ t. t.words) h.same, word, below),
      allowed z p.shared.now.key slots p.seat.id p.seat.me (turn_word z place) c.turn_word-word.result (λ _. 0)
          (λ w _. GiveTurnStep (step slots w 0 0 none) p.seat.me 0) h.key_is word
          (subst (λ (d : List (ℕ × Slot)). Allows (RuleHolds z) slots p.seat.id (p.seat.me.0, d) (turn_word z place) (λ _. 0)
          (λ _. GiveTurnStep (step slots (turn_word z place) 0 0 none) (p.seat.me.0, d) 0)) (sym out.1)
          (giving_turn slots p.seat.id place p.seat.me.0 out.0 (rest p.seat.me.1) below (omega (arith, h.right.counts.slots, ap (λ t. t.slots) h.same)) h.right.some turn
          (subst (λ (x : PassSight). x.view.commit.middle ≡ Calm) (sym c.self.view_is) c.requires.calm) out.2 (subst (λ (d : List (ℕ × Slot)). CanGiveTurn p.seat.me.0 d) out.1 whole))),
    )

pub invariant_of-self : goal.invariant_of-self
invariant_of-self c =
    let p = c.self.inside in
    let h = c.self.invariant in
    let word : c.turn_word-word.result ≡ turn_word p.seat.me.0.passes.sizes c.args.place =
    c.turn_word-word.ensures.word ∙ ap (λ (y : Sizes). turn_word y c.args.place) h.sizes_are in
    let told = c.store.ensures.2 c.args.place word in
    turned_back c.args.place p.seat.table_id p.shared.now.table_id p.shared.now.key p.sizes c.store.new.seat.table_id p.seat.me c.store.new.seat.me h c.store.ensures.0
    (subst (λ (x : PassSight). x.view.free ≡ None) (sym c.self.view_is) c.requires.free)
    (subst (λ (x : PassSight). has_hand c.args.place x.view ≡ 1) (sym c.self.view_is) c.requires.turn) told.0 told.1
