use Rattle.std.proofs.Common.{◌≡◌, rules}
use Rattle.history_book.specs.State.{State}
use Rattle.shared_desk.specs.Claiming.{HasLooked}
use Rattle.shared_desk.specs.ExpectTurn.{aside}
use Rattle.shared_desk.proofs.ExpectTurn.{in_hand}
use Rattle.shared_desk.proofs.UnderExpects.{looked_given}
use Rattle.shared_desk.proofs.claiming.list_expects.Goals as goal

pub returns-clause-lists : goal.returns-clause-lists
returns-clause-lists g c =
    let looked : HasLooked c.events_in-at.result (λ (s : State). c.list.new.listed.items ≡ s.expects) (aside c.take_expects-table.new.pass) (aside c.history_load.new.self) =
    search rules in
    looked_given c.args.pass.now c.take_expects-table.new.pass c.history_load.new.self c.give_expects.new.pass
    (in_hand c.take_expects-table.result c.args.pass.now c.take_expects-table.new.pass c.requires.free.expected c.take_expects-table.ensures.has) c.give_expects.ensures
    c.events_in-at.result (λ (s : State). c.list.new.listed.items ≡ s.expects) looked
