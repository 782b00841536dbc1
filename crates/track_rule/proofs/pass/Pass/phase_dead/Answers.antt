use Rattle.std.proofs.Common.{◌≡◌, ℕ, ◌<◌, true, Some, ap, arith, subst, sym, ◌∙◌}
use Rattle.atomic_table.specs.Table.{step}
use mathlib.Core.Option.{none}
use Rattle.history_book.specs.declared.sizes.Sizes.{Sizes}
use Rattle.track_rule.specs.KillSteps.{DeadStep, MayDie, ShowsDead}
use Rattle.track_rule.specs.Layout.{phase_word}
use Rattle.track_rule.specs.Records.{has_hand}
use Rattle.track_rule.specs.References.{is_held}
use Rattle.track_rule.specs.Sights.{PassSight}
use Rattle.track_rule.specs.TouchSteps.{known_record}
use Rattle.track_rule.proofs.Dying.{AsksDead, dying, stays_dead}
use Rattle.track_rule.proofs.Seats.{allowed, held_below, kept_at, stays_at}
use Rattle.track_rule.proofs.pass.Pass.phase_dead.Goals as goal

pub phase_word-word-requires-clause-place : goal.phase_word-word-requires-clause-place
phase_word-word-requires-clause-place c =
    let p = c.self.inside in
    let h = c.self.invariant in
    let held : is_held c.args.place p.seat.me.0.places.held ≡ true = subst (λ (x : PassSight). is_held c.args.place x.view.places.held ≡ true) (sym c.self.view_is) c.requires.held in
    subst (λ (z : Sizes). c.args.place < z.entries) (sym h.sizes_are)
    (held_below p.seat.me.0.passes.sizes.entries c.args.place p.seat.me.0.places.held h.right.pool.held held)

pub store-requires : goal.store-requires
store-requires c =
    let p = c.self.inside in
    let h = c.self.invariant in
    let place : ℕ = c.args.place in
    let z : Sizes = p.seat.me.0.passes.sizes in
    let slots = p.shared.now.table_id.slots in
    let word : c.phase_word-word.result ≡ phase_word z place = c.phase_word-word.ensures.word ∙ ap (λ (y : Sizes). phase_word y place) h.sizes_are in
    let asks : AsksDead place p.seat.me.0 = subst (λ (x : PassSight). AsksDead place x.view) (sym c.self.view_is) (record {
      held = c.requires.held;
      turn = c.requires.turn;
      live = c.requires.live;
      calm = c.requires.calm;
      ready = c.requires.ready;
    }) in
    let below : place < z.entries = held_below z.entries place p.seat.me.0.places.held h.right.pool.held asks.held in (
      h.same,
      omega (arith, h.right.counts.words, ap (λ t. t.words) h.same, word, below),
      allowed z p.shared.now.key slots p.seat.id p.seat.me (phase_word z place) c.phase_word-word.result (λ _. 2)
          (λ w _. DeadStep (step slots w 2 0 none) p.seat.me 2) h.key_is word
          (dying slots p.seat.id place p.seat.me.0 p.seat.me.1 h.right.some asks c.live_records_are_confirmed.ensures),
    )

pub invariant_of-self : goal.invariant_of-self
invariant_of-self c =
    let p = c.self.inside in
    let h = c.self.invariant in
    let word : c.phase_word-word.result ≡ phase_word p.seat.me.0.passes.sizes c.args.place =
    c.phase_word-word.ensures.word ∙ ap (λ (y : Sizes). phase_word y c.args.place) h.sizes_are in
    let turn : has_hand c.args.place p.seat.me.0 ≡ 1 = subst (λ (x : PassSight). has_hand c.args.place x.view ≡ 1) (sym c.self.view_is) c.requires.turn in
    let ready : MayDie p.seat.me.0 (known_record p.seat.me.0.commit.hand) =
    subst (λ (x : PassSight). MayDie x.view (known_record x.view.commit.hand)) (sym c.self.view_is) c.requires.ready in
    let told = stays_dead c.args.place (step p.shared.now.table_id.slots c.phase_word-word.result 2 0 none) p.seat.me c.store.new.seat.me turn ready c.store.ensures.2 word in
    stays_at p.seat.table_id p.shared.now.table_id p.shared.now.key p.sizes c.store.new.seat.table_id p.seat.me c.store.new.seat.me h
    c.store.ensures.0 told.0 told.1

pub returns-clause-shows : goal.returns-clause-shows
returns-clause-shows c r known =
    let p = c.self.inside in
    let h = c.self.invariant in
    let word : c.phase_word-word.result ≡ phase_word p.seat.me.0.passes.sizes c.args.place =
    c.phase_word-word.ensures.word ∙ ap (λ (y : Sizes). phase_word y c.args.place) h.sizes_are in
    let mine : known_record p.seat.me.0.commit.hand ≡ Some r = subst (λ (x : PassSight). known_record x.view.commit.hand ≡ Some r) (sym c.self.view_is) known in
    let told = c.store.ensures.2 c.args.place r word mine in
    subst (λ (x : PassSight). ShowsDead c.args.place r x.view c.store.new.seat.me.0) c.self.view_is told.0

pub returns-clause-kept : goal.returns-clause-kept
returns-clause-kept c =
    let p = c.self.inside in
    let h = c.self.invariant in
    let word : c.phase_word-word.result ≡ phase_word p.seat.me.0.passes.sizes c.args.place =
    c.phase_word-word.ensures.word ∙ ap (λ (y : Sizes). phase_word y c.args.place) h.sizes_are in
    let turn : has_hand c.args.place p.seat.me.0 ≡ 1 = subst (λ (x : PassSight). has_hand c.args.place x.view ≡ 1) (sym c.self.view_is) c.requires.turn in
    let ready : MayDie p.seat.me.0 (known_record p.seat.me.0.commit.hand) =
    subst (λ (x : PassSight). MayDie x.view (known_record x.view.commit.hand)) (sym c.self.view_is) c.requires.ready in
    let told = stays_dead c.args.place (step p.shared.now.table_id.slots c.phase_word-word.result 2 0 none) p.seat.me c.store.new.seat.me turn ready c.store.ensures.2 word in
    kept_at c.args.self.now p.seat.table_id c.store.new.seat.table_id p.seat.me c.store.new.seat.me c.self.view_is c.store.ensures.0 told.1
