use Rattle.std.proofs.Common.{refl}
use Rattle.track_rule.specs.ChangeLaws.{by_pass, in_one, in_other, joined, weaker}
use Rattle.track_rule.specs.ChangesOnly.{either, is_expect_turn, where_so}
use Rattle.track_rule.specs.Readings.{stored}
use Rattle.shared_desk.specs.Changed.{end_words}
use Rattle.shared_desk.proofs.Wording.{where_in}
use Rattle.shared_desk.proofs.ExpectTurn.{in_hand}
use Rattle.shared_desk.proofs.UnderExpects.{end_given}
use Rattle.shared_desk.proofs.killing.end_with_expected.Goals as goal

pub returns-clause-ends : goal.returns-clause-ends
returns-clause-ends g c =
    end_given c.args.pass.now c.take_expects-table.new.pass c.end_entry-number.new.pass c.give_expects.new.pass
    (in_hand c.take_expects-table.result c.args.pass.now c.take_expects-table.new.pass c.requires.free.expected c.take_expects-table.ensures.has) c.give_expects.ensures c.requires.free.expected
    c.args.place c.args.subject.now c.args.why c.end_entry-number.result c.end_entry-number.ensures.ends

pub returns-clause-words : goal.returns-clause-words
returns-clause-words g c =
    let turn = where_so c.args.subject.now.helper is_expect_turn in
    let f = either turn (end_words c.args.place c.args.subject.now) in
    joined f c.args.pass.now.view c.take_expects-table.new.pass.view c.give_expects.new.pass.view
    (weaker _ f c.args.pass.now.view c.take_expects-table.new.pass.view (λ z r e. in_one turn (end_words c.args.place c.args.subject.now) z r (where_in c.args.subject.now.helper is_expect_turn c.if-not-subject.false z r e))
    c.take_expects-table.ensures.words)
    (joined f c.take_expects-table.new.pass.view c.end_entry-number.new.pass.view c.give_expects.new.pass.view
    (weaker _ f c.take_expects-table.new.pass.view c.end_entry-number.new.pass.view (in_other turn (end_words c.args.place c.args.subject.now)) c.end_entry-number.ensures.words)
    (weaker _ f c.end_entry-number.new.pass.view c.give_expects.new.pass.view (λ z r e. in_one turn (end_words c.args.place c.args.subject.now) z r (where_in c.args.subject.now.helper is_expect_turn c.if-not-subject.false z r e))
    (by_pass is_expect_turn (stored 2 0) c.end_entry-number.new.pass c.give_expects.new.pass _ c.give_expects.ensures refl refl refl)))

pub returns-then-not-subject-clause-words : goal.returns-then-not-subject-clause-words
returns-then-not-subject-clause-words g c =
    weaker _ _ c.args.pass.now.view c.end_entry.new.pass.view (in_other (where_so c.args.subject.now.helper is_expect_turn) (end_words c.args.place c.args.subject.now)) c.end_entry.ensures.words
