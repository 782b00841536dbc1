use Rattle.std.proofs.Common.{◌≡◌, ◌∷◌, ap, sym, ◌∙◌, ℕ, List}
use Rattle.atomic_table.specs.Table.{Me, rest}
use Rattle.track_rule.specs.declared.slot.Slot.{Slot}
use Rattle.track_rule.specs.declared.view.View.{View}
use Rattle.track_rule.specs.ExpectTurns.{before_expects, expects_at, with_expects}
use Rattle.track_rule.specs.TurnSteps.{subject_in}
use Rattle.track_rule.specs.Sights.{PassSight}
use Rattle.track_rule.proofs.ExpectSeats.{put_there, seen_out, subject_stays, swapped, swapped_at}
use Rattle.track_rule.proofs.pass.Pass.expects_swap.Goals as goal

pub exchange-found-requires : goal.exchange-found-requires
exchange-found-requires c =
    let p = c.self.inside in
    let me = p.seat.me in
    let out = seen_out p.seat.table_id p.shared.now.table_id p.shared.now.key p.sizes me c.args.self.now c.self.invariant c.self.view_is c.requires.free c.requires.expected in
    let first : c.turn.new.self.me.1 ≡ (1, out.inside) ∷ before_expects me.1 = ap (λ (m : Me Slot View). m.1) c.turn.ensures.2 ∙ out.first in (
      c.turn.ensures.0 ∙ c.self.invariant.same,
      (out.inside, first ∙ ap (λ (d : List (ℕ × Slot)). (1, out.inside) ∷ rest d) (sym first)),
    )

pub invariant_of-self : goal.invariant_of-self
invariant_of-self c =
    let p = c.self.inside in
    let me = p.seat.me in
    let out = seen_out p.seat.table_id p.shared.now.table_id p.shared.now.key p.sizes me c.args.self.now c.self.invariant c.self.view_is c.requires.free c.requires.expected in
    let now = swapped me c.turn.new.self.me c.exchange-found.new.seat.me c.turn-2.new.self.me c.with_expects.result c.args.table out c.with_expects.ensures c.turn.ensures.2
    c.exchange-found.ensures.3 c.turn-2.ensures.2 in
    swapped_at c.args.table p.seat.table_id p.shared.now.table_id p.shared.now.key p.sizes c.turn-2.new.self.table_id me c.turn-2.new.self.me c.self.invariant
    (c.turn-2.ensures.0 ∙ c.exchange-found.ensures.0 ∙ c.turn.ensures.0) out now

pub returns-clause-there : goal.returns-clause-there
returns-clause-there c =
    let p = c.self.inside in
    let me = p.seat.me in
    let out = seen_out p.seat.table_id p.shared.now.table_id p.shared.now.key p.sizes me c.args.self.now c.self.invariant c.self.view_is c.requires.free c.requires.expected in
    let now = swapped me c.turn.new.self.me c.exchange-found.new.seat.me c.turn-2.new.self.me c.with_expects.result c.args.table out c.with_expects.ensures c.turn.ensures.2
    c.exchange-found.ensures.3 c.turn-2.ensures.2 in
    ap (λ (m : Me Slot View). expects_at m.1) now ∙ put_there me.1 c.args.table

pub returns-clause-subject : goal.returns-clause-subject
returns-clause-subject c =
    let p = c.self.inside in
    let me = p.seat.me in
    let out = seen_out p.seat.table_id p.shared.now.table_id p.shared.now.key p.sizes me c.args.self.now c.self.invariant c.self.view_is c.requires.free c.requires.expected in
    let now = swapped me c.turn.new.self.me c.exchange-found.new.seat.me c.turn-2.new.self.me c.with_expects.result c.args.table out c.with_expects.ensures c.turn.ensures.2
    c.exchange-found.ensures.3 c.turn-2.ensures.2 in
    ap (λ (m : Me Slot View). subject_in m.1) now ∙ subject_stays me.1 c.args.table out ∙ ap (λ (x : PassSight). subject_in x.slots) c.self.view_is

pub returns-clause-kept : goal.returns-clause-kept
returns-clause-kept c =
    let p = c.self.inside in
    let me = p.seat.me in
    let out = seen_out p.seat.table_id p.shared.now.table_id p.shared.now.key p.sizes me c.args.self.now c.self.invariant c.self.view_is c.requires.free c.requires.expected in
    let now = swapped me c.turn.new.self.me c.exchange-found.new.seat.me c.turn-2.new.self.me c.with_expects.result c.args.table out c.with_expects.ensures c.turn.ensures.2
    c.exchange-found.ensures.3 c.turn-2.ensures.2 in
    λ k. record {
      table = ((c.turn-2.ensures.0 ∙ c.exchange-found.ensures.0 ∙ c.turn.ensures.0) ∙ ap (λ (x : PassSight). x.table) c.self.view_is) k;
      view = (ap (λ (m : Me Slot View). m.0) now ∙ ap (λ (x : PassSight). x.view) c.self.view_is) k;
      slots = (ap (λ (m : Me Slot View). m.1) now ∙ ap (λ (x : PassSight). with_expects c.args.table x.slots) c.self.view_is) k;
    }
