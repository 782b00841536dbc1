-- The middle of a commit: the Confirm of a record is made and its phase is not LIVE yet, or its phase is DEAD and the Destroy is
-- not made yet. A pass that is there has the turn of the record, carries the table's reference to its place, has shut both
-- buckets of its tuples, and the record is live as the pass knows it. Where a record with the helper dies, the pass has the turn of
-- the expectations too, since what is expected for its entry ends with it.
use Rattle.std.specs.Prelude.{◌≡◌, ℕ, ◌<◌, ◌==◌, true, is_some, Option, Some, List}
use Rattle.expect_table.specs.declared.expectation.Expectation.{Expectation}
use Rattle.history_book.specs.State.{record_of}
use Rattle.history_book.specs.declared.event.Event.{Event}
use Rattle.history_book.specs.declared.record.Record.{Record}
use Rattle.history_book.specs.declared.sizes.Sizes.{Sizes}
use Rattle.track_rule.specs.declared.view.Hand.{Hand}
use Rattle.track_rule.specs.declared.view.Middle.{Middle}
use Rattle.track_rule.specs.declared.view.Middle.TheVariants.{Calm, Born, Dying}
use Rattle.track_rule.specs.declared.view.Shut.{Shut}
use Rattle.track_rule.specs.declared.view.View.{View}
use Rattle.track_rule.specs.Chains.{bucket_of, pair_of}
use Rattle.track_rule.specs.History.{state_after}
use Rattle.track_rule.specs.Records.{is_hand_of}
use Rattle.track_rule.specs.Sums.{Each, bit, times, total}

-- how often a bucket is among these shut ones
abbrev pub shuts_in : ℕ → List Shut → ℕ
shuts_in bucket shut = total (λ (s : Shut). bit (s.bucket == bucket)) shut

pub record IsCommitting (z : Sizes) (log : List Event) (hand : Option Hand) (carried : List ℕ) (shut : List Shut) (r : Record) : Type 0 where
  pub turn : is_hand_of r.place hand ≡ 1
  pub reference : 0 < times r.place carried
  pub original : 0 < shuts_in (bucket_of z (pair_of r.original)) shut
  pub reply : 0 < shuts_in (bucket_of z (pair_of r.reply)) shut
  pub live : record_of r.id (state_after log) ≡ Some r

-- where the record has the helper, the pass has the turn of the expectations
abbrev pub HasItsTurn : Record → Option (List Expectation) → Type 0
HasItsTurn r expected = r.helper ≡ true → is_some expected ≡ true

abbrev pub IsMiddle : Sizes → List Event → Middle → Option Hand → List ℕ → List Shut → Option (List Expectation) → Type 0
IsMiddle z log Calm hand carried shut expected = Unit {0}
IsMiddle z log (Born r) hand carried shut expected = IsCommitting z log hand carried shut r
IsMiddle z log (Dying r) hand carried shut expected = IsCommitting z log hand carried shut r × HasItsTurn r expected

abbrev pub IsMiddleOf : Sizes → List Event → View → Type 0
IsMiddleOf z log v = IsMiddle z log v.commit.middle v.commit.hand v.places.carried v.buckets.shut v.expected

abbrev pub AreCommits : Sizes → List Event → List View → Type 0
AreCommits z log views = Each (IsMiddleOf z log) views
