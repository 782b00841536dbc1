use Rattle.history_book.specs.Sight.{IsKnown}
use Rattle.nat_setup.specs.Internal.Search.{IsSearching}
use Rattle.nat_setup.proofs.search.search_stretch.Given as goal

abbrev pub invariant-loop-number : goal.invariant-loop-number
invariant-loop-number g l =
    IsSearching l.rule l.t (record l.stretch { end = l.number }) (g.D.Desk.sight l.fn.desk) (g.D.Desk.sight l.desk) l.to
    × IsKnown (g.D.Desk.sight l.desk)
