use Rattle.nat_setup.proofs.Translating.{chooses_first, chooses_free, chooses_other, is_first, no_port}
use Rattle.nat_setup.proofs.translate.translate_by.Goals as goal

pub returns-in-Free-clause-says : goal.returns-in-Free-clause-says
returns-in-Free-clause-says g c =
    chooses_first c.args.rule.now c.args.t.now c.reply_with-reply.result (g.D.Desk.sight c.args.desk.now)
    (g.D.Desk.sight c.look.new.desk) c.choice_for-choice.result c.first_number-tried.result c.in-Free.at c.has_own-has_own.result
    c.choice_for-choice.ensures.exact
    (is_first c.args.rule.now c.args.t.now c.choice_for-choice.result c.own_number-own.result c.first_number-tried.result c.has_own-has_own.result
    c.own_number-own.ensures c.has_own-has_own.ensures c.first_number-tried.ensures.own c.first_number-tried.ensures.above c.first_number-tried.ensures.below)
    c.reply_with-reply.ensures.exact c.in-Free.ensures.says

pub returns-then-has_own-clause-says : goal.returns-then-has_own-clause-says
returns-then-has_own-clause-says g c =
    chooses_other c.desks_go_on.ensures.states c.args.rule.now c.args.t.now c.reply_with-reply.result (g.D.Desk.sight c.args.desk.now) (g.D.Desk.sight c.look.new.desk) (g.D.Desk.sight c.search_choice.new.desk)
    c.choice_for-choice.result c.first_number-tried.result c.in-Taken.at c.in-Found.reply c.in-Found.at c.has_own-has_own.result c.choice_for-choice.ensures.exact
    (is_first c.args.rule.now c.args.t.now c.choice_for-choice.result c.own_number-own.result c.first_number-tried.result c.has_own-has_own.result
    c.own_number-own.ensures c.has_own-has_own.ensures c.first_number-tried.ensures.own c.first_number-tried.ensures.above c.first_number-tried.ensures.below)
    c.if-has_own.true c.reply_with-reply.ensures.exact c.in-Taken.ensures.says c.search_choice.ensures.saw c.in-Found.ensures.says

pub returns-else-has_own-clause-says : goal.returns-else-has_own-clause-says
returns-else-has_own-clause-says g c =
    chooses_free c.args.rule.now c.args.t.now (g.D.Desk.sight c.args.desk.now) (g.D.Desk.sight c.look.new.desk) (g.D.Desk.sight c.search_choice.new.desk)
    c.choice_for-choice.result c.first_number-tried.result c.in-Taken.at c.in-Found.reply c.in-Found.at c.has_own-has_own.result c.choice_for-choice.ensures.exact
    (is_first c.args.rule.now c.args.t.now c.choice_for-choice.result c.own_number-own.result c.first_number-tried.result c.has_own-has_own.result
    c.own_number-own.ensures c.has_own-has_own.ensures c.first_number-tried.ensures.own c.first_number-tried.ensures.above c.first_number-tried.ensures.below)
    c.if-has_own.false c.in-Taken.ensures.says.saw c.in-Found.ensures.says

pub returns-in-AllTaken-clause-says : goal.returns-in-AllTaken-clause-says
returns-in-AllTaken-clause-says g c =
    no_port c.desks_go_on.ensures.states c.args.rule.now c.args.t.now c.reply_with-reply.result (g.D.Desk.sight c.args.desk.now) (g.D.Desk.sight c.look.new.desk) (g.D.Desk.sight c.search_choice.new.desk)
    c.choice_for-choice.result c.first_number-tried.result c.in-Taken.at c.in-AllTaken.to c.has_own-has_own.result c.choice_for-choice.ensures.exact
    (is_first c.args.rule.now c.args.t.now c.choice_for-choice.result c.own_number-own.result c.first_number-tried.result c.has_own-has_own.result
    c.own_number-own.ensures c.has_own-has_own.ensures c.first_number-tried.ensures.own c.first_number-tried.ensures.above c.first_number-tried.ensures.below)
    c.reply_with-reply.ensures.exact c.in-Taken.ensures.says c.in-AllTaken.ensures.says
