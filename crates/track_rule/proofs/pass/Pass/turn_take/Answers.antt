use Rattle.std.proofs.Common.{◌≡◌, ℕ, ◌<◌, None, ap, arith, eqb, subst, sym, ◌∙◌}
use Rattle.std.specs.Prelude.{◌==◌}
use Rattle.atomic_table.specs.Table.{step}
use mathlib.Core.Option.{none}
use prog.Atomic.{either}
use Rattle.history_book.specs.declared.sizes.Sizes.{Sizes}
use Rattle.track_rule.specs.Layout.{turn_word}
use Rattle.track_rule.specs.Sights.{PassSight, sizes_of}
use Rattle.track_rule.specs.TurnSteps.{TakeTurnStep}
use Rattle.track_rule.proofs.RecordTurns.{taking_turn}
use Rattle.track_rule.proofs.Seats.{allowed, turned_at}
use Rattle.track_rule.proofs.pass.Pass.turn_take.Goals as goal

pub compare_exchange-requires : goal.compare_exchange-requires
compare_exchange-requires c =
    let p = c.self.inside in
    let h = c.self.invariant in
    let place : ℕ = c.args.place in
    let z : Sizes = p.seat.me.0.passes.sizes in
    let slots = p.shared.now.table_id.slots in
    let word : c.turn_word-word.result ≡ turn_word z place = c.turn_word-word.ensures.word ∙ ap (λ (y : Sizes). turn_word y place) h.sizes_are in
    let below : place < z.entries = subst (λ (x : PassSight). place < (sizes_of x).entries) (sym c.self.view_is) c.requires.place in
    let hand : p.seat.me.0.commit.hand ≡ None = subst (λ (x : PassSight). x.view.commit.hand ≡ None) (sym c.self.view_is) c.requires.hand in (
      h.same,
      omega (arith, h.right.counts.words, ap (λ t. t.words) h.same, word, below),
      allowed z p.shared.now.key slots p.seat.id p.seat.me (turn_word z place) c.turn_word-word.result (λ n. either (eqb n 0) 1 n)
          (λ w. TakeTurnStep (step slots w 0 1 none) p.seat.me) h.key_is word
          (taking_turn slots p.seat.id place p.seat.me.0 p.seat.me.1 below h.right.some hand),
    )

pub invariant_of-self : goal.invariant_of-self
invariant_of-self c =
    let p = c.self.inside in
    let h = c.self.invariant in
    let word : c.turn_word-word.result ≡ turn_word p.seat.me.0.passes.sizes c.args.place =
    c.turn_word-word.ensures.word ∙ ap (λ (y : Sizes). turn_word y c.args.place) h.sizes_are in
    turned_at (c.compare_exchange.result == 0) c.args.place p.seat.table_id p.shared.now.table_id p.shared.now.key p.sizes c.compare_exchange.new.seat.table_id p.seat.me
    c.compare_exchange.new.seat.me h c.compare_exchange.ensures.0 (subst (λ (x : PassSight). x.view.free ≡ None) (sym c.self.view_is) c.requires.free)
    (subst (λ (x : PassSight). x.view.commit.hand ≡ None) (sym c.self.view_is) c.requires.hand) (c.compare_exchange.ensures.2 c.args.place word)
