-- What the tests carry from one call to the next.
use Rattle.std.proofs.Common.{◌≡◌, ℕ, ◌+◌, ◌≤◌, zero, suc, true, List, [], ◌∷◌, ◌++◌, refl, ap, ◌∙◌, arith, Option, Some, None}
use Rattle.std.specs.List.{slice_get}
use Rattle.std.proofs.lemmas.Bool.{false≢true}
use Rattle.expect_table.specs.declared.expectation.Want.{Want}
use Rattle.history_book.specs.declared.event.Event.{Event}
use Rattle.history_book.specs.declared.outcome.ExpectOutcome.{ExpectOutcome}
use Rattle.history_book.specs.declared.outcome.ExpectOutcome.TheVariants.{Expected, MasterGone, Clash, ExpectFull}
use Rattle.history_book.specs.DeskExpectations.{ExpectSays}
use Rattle.history_book.specs.Entry.{confirmed_by, is_helped_entry}
use Rattle.history_book.specs.Legality.{has_helper}
use Rattle.history_book.specs.Point.{StartsWith}
use Rattle.history_book.specs.Sight.{Sight}

-- an item of the front of a list stands there in the whole
get_append : {X : Type 0} (xs ys : List X) (i : ℕ) (x : X) → slice_get xs i ≡ Some x → slice_get (xs ++ ys) i ≡ Some x
get_append [] ys i x h = cc
get_append (y ∷ xs) ys zero x h = h
get_append (y ∷ xs) ys (suc i) x h = get_append xs ys i x h

helped_at : (front log rest : List Event) (id : ℕ) (o : Option Event) → log ≡ front ++ rest → slice_get front id ≡ o
    → has_helper (confirmed_by o) ≡ true → is_helped_entry id log ≡ true
helped_at front log rest id None longer at h = absurd (false≢true h)
helped_at front log rest id (Some e) longer at h =
    ap (λ o. has_helper (confirmed_by o)) (ap (λ l. slice_get l id) longer ∙ get_append front rest id e at) ∙ h

-- an entry that has the helper has it as the history goes on
pub helped_grows : (front log : List Event) (id : ℕ) → StartsWith log front → is_helped_entry id front ≡ true → is_helped_entry id log ≡ true
helped_grows front log id (rest, longer) h = helped_at front log rest id (slice_get front id) longer refl h

-- whatever an entry's wish comes to, the history goes on, by one event at most
pub record GoesOn (old new : Sight) : Type 0 where
  pub front : StartsWith new.front old.front
  pub held : new.held ≡ old.held
  pub spare : old.spare ≤ new.spare + 1
  pub sizes : new.sizes ≡ old.sizes

pub expect_goes_on : (place : ℕ) (want : Want) (moment : ℕ) (old new : Sight) (o : ExpectOutcome) → ExpectSays place want moment old new o
    → GoesOn old new
expect_goes_on place want moment old new (Expected id replaced) (made, same) =
    record { front = made.went.front; held = same.held; spare = omega (arith, made.spare); sizes = made.went.pass.sizes }
expect_goes_on place want moment old new (MasterGone at) (looked, same) =
    record { front = looked.saw.went.front; held = same.held; spare = omega (arith, looked.saw.spare); sizes = looked.saw.went.pass.sizes }
expect_goes_on place want moment old new (Clash id at) (looked, same) =
    record { front = looked.saw.went.front; held = same.held; spare = omega (arith, looked.saw.spare); sizes = looked.saw.went.pass.sizes }
expect_goes_on place want moment old new (ExpectFull at) (looked, same) =
    record { front = looked.saw.went.front; held = same.held; spare = omega (arith, looked.saw.spare); sizes = looked.saw.went.pass.sizes }
