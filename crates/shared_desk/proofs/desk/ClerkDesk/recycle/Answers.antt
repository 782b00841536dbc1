use Rattle.shared_desk.specs.Sights.{sight_of}
use Rattle.shared_desk.proofs.Counting.{no_recycle, still_taken}
use Rattle.history_book.specs.Desk.{RecycleSays}
use Rattle.entry_pool.specs.Take.{recycle_words}
use Rattle.history_book.specs.Sight.{Sight}
use Rattle.shared_desk.proofs.Resting.{clerk_at, now_of}
use Rattle.std.proofs.Common.{ap, ◌∙◌}
use Rattle.history_book.specs.Held.{is_owed}
use Rattle.shared_desk.specs.Sights.{ClerkSight}
use Rattle.shared_desk.proofs.GivingUp.{recycle_says, rest_recycled}
use Rattle.shared_desk.proofs.desk.ClerkDesk.recycle.Goals as goal

pub invariant_of-self : goal.invariant_of-self
invariant_of-self g c =
    rest_recycled c.args.place c.self.inside.pass c.self.inside.notes c.self.inside.spare c.self.invariant c.recycle.new.pass c.recycle.ensures.recycles
    (ap (λ (s : ClerkSight). is_owed c.args.place s.pass.view.places.owed) c.self.view_is ∙ c.requires)

pub returns-clause-says : goal.returns-clause-says
returns-clause-says g c =
    rw (← c.self.view_is) (now_of (λ (s : Sight). RecycleSays c.args.place (sight_of (clerk_at c.self.inside.pass c.self.inside.spare)) s) c.self.inside.pass (clerk_at c.recycle.new.pass c.self.inside.spare)
    (still_taken (recycle_words c.args.place) c.self.inside.pass c.recycle.new.pass (no_recycle c.args.place) c.recycle.ensures.words)
    (recycle_says c.args.place c.self.inside.pass c.self.inside.notes c.self.inside.spare c.self.invariant c.recycle.new.pass c.recycle.ensures.recycles
    (ap (λ (s : ClerkSight). is_owed c.args.place s.pass.view.places.owed) c.self.view_is ∙ c.requires)))

pub returns-clause-knows : goal.returns-clause-knows
returns-clause-knows g c = (invariant_of-self g c).knows

pub returns-clause-own : goal.returns-clause-own
returns-clause-own g c = rw (← c.self.view_is) c.recycle.ensures.words
