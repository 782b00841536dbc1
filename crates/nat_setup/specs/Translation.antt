-- Which translations are lawful, and what translating a flow answers.
use Rattle.std.specs.Prelude.{◌≡◌, ℕ, ◌≤◌, Bool, true, false, ◌==◌, ◌||◌, not, Option, Some, None, List, length, unwrap_or}
use Rattle.tuple_core.specs.Inverse.{inverse}
use Rattle.tuple_core.specs.Tuple.{is_valid}
use Rattle.tuple_core.specs.declared.Tuple.{Tuple}
use Rattle.history_book.specs.declared.event.Event.{Event}
use Rattle.history_book.specs.declared.verdict.Translated.{Translated}
use Rattle.history_book.specs.declared.verdict.Translated.TheVariants as translated
use Rattle.history_book.specs.Point.{At}
use Rattle.history_book.specs.Sight.{Sight}
use Rattle.history_book.specs.State.{State, is_free}
use Rattle.nat_setup.specs.declared.rule.Rule.{Rule}
use Rattle.nat_setup.specs.declared.translate.TranslateOutcome.{TranslateOutcome}
use Rattle.nat_setup.specs.declared.translate.TranslateOutcome.TheVariants.{Plain, Chosen, NoPort}
use Rattle.nat_setup.specs.Reply.{is_allowed, own_number, reply_with}

-- a live record has the tuple in one direction or the other
abbrev pub IsTaken : Tuple → State → Type 0
IsTaken t s = is_free t s ≡ false

-- this was so at some point from the one to the other, both included
pub record AtSomePoint (log : List Event) (from to : ℕ) (F : State → Type 0) : Type 0 where
  pub point : ℕ
  pub low : from ≤ point
  pub high : point ≤ to
  pub fact : At log point F

-- the number is the flow's own, or the rule does not allow the own one
abbrev pub is_own_or_barred : Rule → Tuple → ℕ → Bool
is_own_or_barred rule t number = number == own_number rule t || not (is_allowed rule t (own_number rule t))

-- A point is named exactly where the flow has another number though the rule allows its own, and at this point the
-- own one was taken.
abbrev pub AccountsForOwn : List Event → Rule → Tuple → ℕ → Option ℕ → Type 0
AccountsForOwn log rule t number None = is_own_or_barred rule t number ≡ true
AccountsForOwn log rule t number (Some p) =
    (is_own_or_barred rule t number ≡ false) × At log p (IsTaken (reply_with rule t (own_number rule t)))

-- the reply tuple is that of a number that the rule allows, which is the own one unless that was taken
pub record IsTranslation (log : List Event) (rule : Rule) (t reply : Tuple) (kept_taken_at : Option ℕ) : Type 0 where
  pub number : ℕ
  pub allowed : is_allowed rule t number ≡ true
  pub gives : reply ≡ reply_with rule t number
  pub own : AccountsForOwn log rule t number kept_taken_at

-- The rule gives the reply tuple. The flow's own number is told to be taken only at a point no earlier than the first;
-- and later, up to the last, the reply tuple was free.
pub record WasChosen (log : List Event) (rule : Rule) (t reply : Tuple) (kept_taken_at : Option ℕ) (from upto : ℕ) : Type 0 where
  pub lawful : IsTranslation log rule t reply kept_taken_at
  pub tried : from ≤ unwrap_or kept_taken_at from
  pub free : AtSomePoint log (unwrap_or kept_taken_at from) upto (λ s. is_free reply s ≡ true)

-- The reply tuple that was found at points from the one to the other, for a flow of which the rule, where there is
-- one, is the first that is for it. Without a rule it is the inverse of the original tuple.
abbrev pub WasTranslated : List Event → Option Rule → Tuple → ℕ → ℕ → Translated → Tuple → Type 0
WasTranslated log None t from upto translated.Plain reply = reply ≡ inverse t
WasTranslated log None t from upto (translated.Chosen chosen kept_taken_at) reply = ⊥
WasTranslated log (Some rule) t from upto translated.Plain reply = ⊥
WasTranslated log (Some rule) t from upto (translated.Chosen chosen kept_taken_at) reply =
    (reply ≡ chosen) × WasChosen log rule t chosen kept_taken_at from upto

-- each number that the rule allows was taken at a point between these two
abbrev pub AreAllTaken : List Event → Rule → Tuple → ℕ → ℕ → Type 0
AreAllTaken log rule t from to =
    (number : ℕ) → is_allowed rule t number ≡ true → AtSomePoint log from to (IsTaken (reply_with rule t number))

-- there is a rule, and no number was free
pub record HadNoNumber (log : List Event) (first : Option Rule) (t : Tuple) (from to : ℕ) : Type 0 where
  pub rule : Rule
  pub is_first : first ≡ Some rule
  pub ordered : from ≤ to
  pub within : to ≤ length log
  pub taken : AreAllTaken log rule t from to

-- what a call answers for a flow of this first rule: how its reply tuple was found at points of the call, or that none
-- was free at its points
abbrev pub TranslateSays : Option Rule → Tuple → Sight → Sight → TranslateOutcome → Type 0
TranslateSays first t old new Plain =
    WasTranslated new.front first t (length old.front) (length new.front) translated.Plain (inverse t)
TranslateSays first t old new (Chosen reply kept_taken_at) =
    WasTranslated new.front first t (length old.front) (length new.front) (translated.Chosen reply kept_taken_at) reply
TranslateSays first t old new (NoPort from to) = (length old.front ≤ from) × HadNoNumber new.front first t from to

-- a reply tuple that is chosen is valid, of the flow's protocol, and in its zone
abbrev pub IsValidFor : Tuple → TranslateOutcome → Type 0
IsValidFor t Plain = Unit {0}
IsValidFor t (Chosen reply kept_taken_at) = (is_valid reply ≡ true) × (reply.proto ≡ t.proto) × (reply.zone ≡ t.zone)
IsValidFor t (NoPort from to) = Unit {0}
