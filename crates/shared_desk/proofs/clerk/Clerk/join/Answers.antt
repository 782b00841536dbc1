use Rattle.std.proofs.Common.{refl, subst, sym}
use Rattle.track_rule.specs.ChangesOnly.{no_word}
use Rattle.track_rule.specs.ChangeLaws.{joined, look_words}
use Rattle.shared_desk.proofs.Wording.{readings_stay}
use Rattle.history_book.specs.Places.{HoldsNothing}
use Rattle.shared_desk.specs.Sights.{ClerkSight, sight_of}
use Rattle.shared_desk.proofs.Joining.{clerks_joined, rest_joined, rest_nothing}
use Rattle.shared_desk.proofs.clerk.Clerk.join.Goals as goal

pub join-requires-clause-nothing : goal.join-requires-clause-nothing
join-requires-clause-nothing g c =
    rest_nothing c.other.inside.pass c.other.inside.notes c.other.inside.spare c.other.invariant
    (subst (λ (s : ClerkSight). HoldsNothing (sight_of s)) (sym c.other.view_is) c.requires.other_empty)

pub invariant_of-self : goal.invariant_of-self
invariant_of-self g c =
    rest_joined c.self.inside.pass c.other.inside.pass c.self.inside.notes c.other.inside.notes c.self.inside.spare c.other.inside.spare c.self.invariant c.other.invariant
    c.history_load.result c.join.new.self c.history_load.new.self c.join.ensures c.history_load.ensures.looks c.history_load.ensures.kept

pub returns-clause-joins : goal.returns-clause-joins
returns-clause-joins g c =
    rw (← c.self.view_is, ← c.other.view_is) (clerks_joined c.self.inside.pass c.other.inside.pass c.self.inside.notes c.other.inside.notes c.self.inside.spare c.other.inside.spare c.self.invariant c.other.invariant
    c.history_load.result c.join.new.self c.history_load.new.self c.join.ensures c.history_load.ensures.looks c.history_load.ensures.kept)

pub returns-clause-knows : goal.returns-clause-knows
returns-clause-knows g c = (invariant_of-self g c).knows

pub returns-clause-own : goal.returns-clause-own
returns-clause-own g c =
    rw (← c.self.view_is) (joined no_word c.self.inside.pass.view c.join.new.self.view c.history_load.new.self.view
    (readings_stay c.self.inside.pass c.join.new.self _ c.join.ensures refl refl)
    (look_words no_word c.history_load.result c.join.new.self.view c.history_load.new.self.view c.history_load.ensures.looks))
