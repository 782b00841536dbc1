use Rattle.std.proofs.Common.{sym, ap, ◌∙◌, arith, length}
use Rattle.std.specs.Option.{option_map}
use Rattle.std.specs.Prelude.{slice_get}
use Rattle.std.proofs.lemmas.Option.{slice_get-map}
use Rattle.history_book.specs.Sight.{Sight}
use Rattle.shared_tests.specs.Told.{note_of}
use Rattle.shared_tests.proofs.Told.{length-own, told_knows}
use Rattle.shared_tests.proofs.listen.told.ToldDesk.own.Goals as goal

pub at-item-requires : goal.at-item-requires
at-item-requires c = omega (arith, c.requires, length-own c.self.inside.history.items, ap (λ (s : Sight). length s.own) c.self.view_is)

pub returns-clause-exact : goal.returns-clause-exact
returns-clause-exact c = ap (λ (s : Sight). slice_get s.own c.args.index) (sym c.self.view_is) ∙ slice_get-map note_of c.self.inside.history.items c.args.index ∙ ap (option_map note_of) c.at-item.ensures

pub returns-clause-knows : goal.returns-clause-knows
returns-clause-knows c = rw (← c.self.view_is) (told_knows _ c.self.invariant.0 c.self.invariant.1)
