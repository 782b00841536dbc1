use Rattle.history_book.proofs.HeldPlaces.{nothing_left}
use Rattle.history_book.proofs.places.give_up.Goals as goal

pub returns-clause-empty : goal.returns-clause-empty
returns-clause-empty g c =
    nothing_left c.args.place (g.D.Desk.sight c.args.desk.now) (g.D.Desk.sight c.give_back.new.desk) c.requires.held
    c.requires.only c.requires.nothing_owed c.give_back.ensures.held c.give_back.ensures.owed
