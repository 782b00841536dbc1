-- How the steps of a desk add up. A, b and c are what it knows one after the other.
use Rattle.std.specs.Prelude.{ℕ, List, ◌++◌}
use Rattle.history_book.specs.declared.event.Event.{Event}
use Rattle.history_book.specs.declared.event.Note.{Note}
use Rattle.history_book.specs.Sight.{Sight}
use Rattle.history_book.specs.WentOn.{MadeEvent, Saw, WentOn}

-- it was not asked anything
abbrev pub RestingIsSeeing : Type 0
RestingIsSeeing = (s : Sight) → Saw s s

-- it made no event twice
abbrev pub SeeingAddsUp : Type 0
SeeingAddsUp = (a b c : Sight) → Saw a b → Saw b c → Saw a c

-- it made one event, and none before or after it
abbrev pub OneEventAddsUp : Type 0
OneEventAddsUp =
    (a b c : Sight) (number : ℕ) (event : Event)
    → (Saw a b → MadeEvent b c number event → MadeEvent a c number event)
    × (MadeEvent a b number event → Saw b c → MadeEvent a c number event)

-- all of these: it went on twice, or after it had made no event, or before it made none
pub record GoingOnAddsUp : Type 0 where
  pub twice : (a b c : Sight) (first then : List Note) → WentOn a b first → WentOn b c then → WentOn a c (first ++ then)
  pub after : (a b c : Sight) (made : List Note) → Saw a b → WentOn b c made → WentOn a c made
  pub before : (a b c : Sight) (made : List Note) → WentOn a b made → Saw b c → WentOn a c made
  pub seen : SeeingAddsUp
  pub resting : RestingIsSeeing
  pub event : OneEventAddsUp
