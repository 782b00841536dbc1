use Rattle.track_rule.specs.ChangesOnly.{is_turn_of}
use Rattle.track_rule.specs.ChangeLaws.{joined}
use Rattle.shared_desk.proofs.Wording.{gave_words, then_none}
use Rattle.shared_desk.proofs.HoldingEmpty.{empty_back, has_found, looks_back}
use Rattle.shared_desk.proofs.Looking.{has_record, record_whole}
use Rattle.shared_desk.proofs.holding.find_empty.Goals as goal

pub look_empty-point-requires : goal.look_empty-point-requires
look_empty-point-requires g c = has_record c.args.place c.args.pass.now c.take_turn.new.pass c.requires.free c.take_turn.ensures.has

pub turn_give-requires-clause-whole : goal.turn_give-requires-clause-whole
turn_give-requires-clause-whole g c =
    record_whole c.args.place c.look_empty-point.new.pass
    (has_found c.args.place c.look_empty-point.result c.take_turn.new.pass c.look_empty-point.new.pass
    (has_record c.args.place c.args.pass.now c.take_turn.new.pass c.requires.free c.take_turn.ensures.has) c.look_empty-point.ensures.finds)

pub returns-in-Some-clause-tries : goal.returns-in-Some-clause-tries
returns-in-Some-clause-tries g c =
    empty_back c.args.place c.args.pass.now c.take_turn.new.pass c.look_empty-point.new.pass c.turn_give.new.self c.requires.free c.take_turn.ensures.has c.turn_give.ensures
    c.in-Some.at c.in-Some.ensures.finds

pub returns-in-None-clause-tries : goal.returns-in-None-clause-tries
returns-in-None-clause-tries g c =
    looks_back c.args.place c.args.pass.now c.take_turn.new.pass c.look_empty-point.new.pass c.turn_give.new.self c.requires.free c.take_turn.ensures.has c.turn_give.ensures
    c.in-None.ensures.finds

pub returns-in-Some-clause-words : goal.returns-in-Some-clause-words
returns-in-Some-clause-words g c =
    joined (is_turn_of c.args.place) c.args.pass.now.view c.look_empty-point.new.pass.view c.turn_give.new.self.view
    (then_none (is_turn_of c.args.place) c.args.pass.now.view c.take_turn.new.pass.view c.look_empty-point.new.pass.view c.take_turn.ensures.words c.look_empty-point.ensures.words)
    (gave_words c.args.place c.look_empty-point.new.pass c.turn_give.new.self _ c.turn_give.ensures)

pub returns-in-None-clause-words : goal.returns-in-None-clause-words
returns-in-None-clause-words g c =
    joined (is_turn_of c.args.place) c.args.pass.now.view c.look_empty-point.new.pass.view c.turn_give.new.self.view
    (then_none (is_turn_of c.args.place) c.args.pass.now.view c.take_turn.new.pass.view c.look_empty-point.new.pass.view c.take_turn.ensures.words c.look_empty-point.ensures.words)
    (gave_words c.args.place c.look_empty-point.new.pass c.turn_give.new.self _ c.turn_give.ensures)
