-- Without rules one capture has one text: no rule chose.
use Rattle.std.proofs.Common.{List, [], sym, subst}
use Rattle.history_book.specs.declared.event.Event.{Event}
use Rattle.history_book.specs.Numbered.{events_of}
use Rattle.nat_setup.specs.declared.rule.Rule.{Rule}
use Rattle.replay_laws.specs.OneAnswer.{ChoseTheSame, OneCaptureOneText, OnePacketOneAnswer, SameReportsPrintTheSame}

no_rule_chose : (log other : List Event) → ChoseTheSame [] log other
no_rule_chose log other n r q here there some = absurd (cc)

pub one_text : OnePacketOneAnswer → SameReportsPrintTheSame → OneCaptureOneText
one_text answer print tracker twin frames wait report other alike ruleless formed formed_other never undropped =
    let log : List Event = events_of report.history.items in
    let logged : List Event = events_of other.history.items in
    print report other
    (answer tracker twin frames wait report other alike formed formed_other never undropped
    (subst (λ (rules : List Rule). ChoseTheSame rules log logged) (sym ruleless) (no_rule_chose log logged)))
