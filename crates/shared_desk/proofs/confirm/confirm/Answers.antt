use Rattle.track_rule.specs.ChangeLaws.{in_one, in_other, joined, weaker}
use Rattle.track_rule.specs.ChangesOnly.{either, is_tuple_of, is_turn_of}
use Rattle.shared_desk.specs.Changed.{confirm_words, enter_words}
use Rattle.shared_desk.proofs.Wording.{around, gave_words}
use Rattle.shared_desk.proofs.Confirmed.{answered, can_enter}
use Rattle.shared_desk.proofs.confirm.confirm.Goals as goal

pub confirm_locked-outcome-requires-clause-can : goal.confirm_locked-outcome-requires-clause-can
confirm_locked-outcome-requires-clause-can g c =
    can_enter c.args.place c.args.flow.now c.args.pass.now c.store_tuples.new.pass c.take_turn.new.pass c.requires c.store_tuples.ensures.stores c.take_turn.ensures.has

pub returns-clause-confirms : goal.returns-clause-confirms
returns-clause-confirms g c =
    answered c.confirm_locked-outcome.result c.args.place c.args.flow.now c.args.pass.now c.store_tuples.new.pass c.take_turn.new.pass c.confirm_locked-outcome.new.pass c.turn_give.new.self
    c.requires c.store_tuples.ensures.stores c.take_turn.ensures.has c.confirm_locked-outcome.ensures.answers c.turn_give.ensures

pub returns-clause-words : goal.returns-clause-words
returns-clause-words g c =
    let f = confirm_words c.args.flow.now c.args.place c.confirm_locked-outcome.result in
    let inner = enter_words c.args.flow.now c.args.place c.confirm_locked-outcome.result in
    joined f c.args.pass.now.view c.store_tuples.new.pass.view c.turn_give.new.self.view
    (weaker (is_tuple_of c.args.place) f c.args.pass.now.view c.store_tuples.new.pass.view (in_one (is_tuple_of c.args.place) (either (is_turn_of c.args.place) inner)) c.store_tuples.ensures.words)
    (weaker (either (is_turn_of c.args.place) inner) f c.store_tuples.new.pass.view c.turn_give.new.self.view (in_other (is_tuple_of c.args.place) (either (is_turn_of c.args.place) inner))
    (around (is_turn_of c.args.place) inner c.store_tuples.new.pass.view c.take_turn.new.pass.view c.confirm_locked-outcome.new.pass.view c.turn_give.new.self.view
    c.take_turn.ensures.words c.confirm_locked-outcome.ensures.words
    (gave_words c.args.place c.confirm_locked-outcome.new.pass c.turn_give.new.self _ c.turn_give.ensures)))
