use Rattle.shared_desk.proofs.Counting.{no_none, still_taken}
use Rattle.history_book.specs.Desk.{CountSays}
use Rattle.track_rule.specs.ChangesOnly.{no_word}
use Rattle.track_rule.specs.ChangeLaws.{look_words}
use Rattle.shared_desk.specs.Sights.{sight_of}
use Rattle.history_book.specs.Sight.{Sight}
use Rattle.shared_desk.proofs.Resting.{clerk_at, now_of}
use Rattle.shared_desk.proofs.Taking.{count_says, rest_counted}
use Rattle.shared_desk.proofs.clerk.Clerk.count_now.Goals as goal

pub invariant_of-self : goal.invariant_of-self
invariant_of-self g c =
    rest_counted c.self.inside.pass c.self.inside.notes c.self.inside.spare c.self.invariant c.history_load-word.result c.history_load-word.new.self
    c.history_load-word.ensures.looks c.history_load-word.ensures.kept

pub returns-clause-says : goal.returns-clause-says
returns-clause-says g c =
    rw (← c.self.view_is) (now_of (λ (s : Sight). CountSays (sight_of (clerk_at c.self.inside.pass c.self.inside.spare)) s (record { live = c.live_in.result; at = c.events_in.result })) c.self.inside.pass (clerk_at c.history_load-word.new.self c.self.inside.spare)
    (still_taken no_word c.self.inside.pass c.history_load-word.new.self no_none (look_words no_word c.history_load-word.result c.self.inside.pass.view c.history_load-word.new.self.view c.history_load-word.ensures.looks))
    (count_says c.self.inside.pass c.self.inside.notes c.self.inside.spare c.self.invariant c.history_load-word.result
    c.history_load-word.new.self c.history_load-word.ensures.looks c.history_load-word.ensures.kept
    (record { live = c.live_in.result; at = c.events_in.result }) c.live_in.ensures c.events_in.ensures))

pub returns-clause-knows : goal.returns-clause-knows
returns-clause-knows g c = (invariant_of-self g c).knows

pub returns-clause-own : goal.returns-clause-own
returns-clause-own g c = rw (← c.self.view_is) (look_words no_word c.history_load-word.result c.self.inside.pass.view c.history_load-word.new.self.view c.history_load-word.ensures.looks)
