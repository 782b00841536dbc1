use Rattle.std.proofs.Common.{◌≡◌, ℕ, List, ◌∷◌, Option, refl, ap, subst, ◌∙◌}
use Rattle.std.specs.Prelude.{if◌then◌else◌}
use Rattle.std.proofs.lemmas.Bool.{eq-eqb}
use Rattle.history_book.specs.Held.{paid}
use Rattle.bucket_table.specs.Finding.{owed_more}
use Rattle.shared_desk.specs.Sights.{sight_of}
use Rattle.track_rule.specs.Readings.{added}
use Rattle.track_rule.specs.Sights.{sizes_of}
use Rattle.bucket_table.specs.Finding.{IsLastGiven}
use Rattle.shared_desk.proofs.Wording.{find_refs, look_frees, once_refs}
use Rattle.shared_desk.proofs.clerk.Clerk.look.Goals as goal

pub returns-in-Found-clause-own : goal.returns-in-Found-clause-own
returns-in-Found-clause-own g c = find_refs c.args.self.now.pass.view c.find_once.new.self.pass.view (once_refs c.find_once.result c.args.self.now.pass.view c.find_once.new.self.pass.view c.find_once.ensures.own)

pub returns-in-Absent-clause-own : goal.returns-in-Absent-clause-own
returns-in-Absent-clause-own g c = find_refs c.args.self.now.pass.view c.find_once.new.self.pass.view (once_refs c.find_once.result c.args.self.now.pass.view c.find_once.new.self.pass.view c.find_once.ensures.own)

pub returns-in_default-clause-own : goal.returns-in_default-clause-own
returns-in_default-clause-own g c = find_refs c.args.self.now.pass.view c.find_once.new.self.pass.view (once_refs c.find_once.result c.args.self.now.pass.view c.find_once.new.self.pass.view c.find_once.ensures.own)

pub returns-in-Some-clause-own : goal.returns-in-Some-clause-own
returns-in-Some-clause-own g c =
    look_frees c.in-Some.place c.args.self.now.pass.view c.find_once.new.self.pass.view c.recycle.new.self.pass.view (once_refs c.find_once.result c.args.self.now.pass.view c.find_once.new.self.pass.view c.find_once.ensures.own)
    (subst (λ (o : Option ℕ). IsLastGiven o (sizes_of c.args.self.now.pass) (added c.args.self.now.pass.view c.find_once.new.self.pass.view)) c.in-Some.is c.in-Moved.ensures.says.last)
    c.recycle.ensures.own

paid_first : (place : ℕ) (owed : List ℕ) → paid place (place ∷ owed) ≡ owed
paid_first place owed = ap (λ b. if b then owed else place ∷ paid place owed) (eq-eqb place place refl)

pub returns-in-Some-clause-says : goal.returns-in-Some-clause-says
returns-in-Some-clause-says g c = (
  c.seeing_adds_up.ensures.twice (sight_of c.args.self.now) (sight_of c.find_once.new.self) (sight_of c.recycle.new.self) c.in-Moved.ensures.says.saw c.recycle.ensures.says.saw,
  record {
    held = c.recycle.ensures.says.held ∙ c.in-Moved.ensures.says.held;
    owed = c.recycle.ensures.says.owed ∙ ap (paid c.in-Some.place) (c.in-Moved.ensures.says.owed_is
        ∙ ap (λ (o : Option ℕ). owed_more o (sight_of c.args.self.now).owed) c.in-Some.is)
        ∙ paid_first c.in-Some.place (sight_of c.args.self.now).owed;
  },
)
