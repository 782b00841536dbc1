-- A list of expectations: what a call on it answers and leaves.
use Rattle.std.specs.Prelude.{◌≢◌, ℕ, ◌<◌, Bool, not, nat_lt, if◌then◌else◌, Option, Some, None, List, [], ◌∷◌, ◌++◌, length, filter, find, AllPairs}
use Rattle.tuple_core.specs.declared.Tuple.{Tuple}
use Rattle.expect_table.specs.declared.expectation.Expectation.{Expectation}
use Rattle.expect_table.specs.declared.table.AddOutcome.{AddOutcome}
use Rattle.expect_table.specs.declared.table.AddOutcome.TheVariants.{Added, Clash, Full}
use Rattle.expect_table.specs.Match.{has_id, is_match, is_of, is_rival}

-- the ids rise, and no master has two
pub record AreOrderedOneAMaster (es : List Expectation) : Type 0 where
  pub ids : AllPairs (λ d e. d.id < e.id) es
  pub masters : AllPairs (λ d e. d.master ≢ e.master) es

-- the first that matches a packet with this tuple at the moment
abbrev pub matching : Tuple → ℕ → List Expectation → Option Expectation
matching t moment es = find (is_match t moment) es

-- all but the one with the id
abbrev pub without_id : ℕ → List Expectation → List Expectation
without_id id es = filter (λ e. not (has_id id e)) es

-- all but the one of the master
abbrev pub without_master : ℕ → List Expectation → List Expectation
without_master master es = filter (λ e. not (is_of master e)) es

-- the list with one more, which takes the place of an older one of its master
abbrev pub with_one : List Expectation → Expectation → List Expectation
with_one es e = without_master e.master es ++ e ∷ []

-- the id of an expectation, if there is one
abbrev pub id_of : Option Expectation → Option ℕ
id_of None = None
id_of (Some e) = Some e.id

-- one is added where its master has an older one, which it replaces, or there is room for it
abbrev pub outcome_of_older : Option Expectation → Bool → AddOutcome
outcome_of_older (Some older) has_room = Added (Some older.id)
outcome_of_older None has_room = (if has_room then Added None else Full)

-- the first one that stands in the way is told of before all else
abbrev pub outcome_of_rival : Option Expectation → AddOutcome → AddOutcome
outcome_of_rival (Some rival) other = Clash rival.id
outcome_of_rival None other = other

-- what adding an expectation at a moment answers, to a list with room for so many
abbrev pub add_outcome : ℕ → List Expectation → Expectation → ℕ → AddOutcome
add_outcome room es e moment =
    outcome_of_rival (find (is_rival e moment) es)
    (outcome_of_older (find (is_of e.master) es) (nat_lt (length es) room))

-- what that leaves
abbrev pub after_add : AddOutcome → List Expectation → Expectation → List Expectation
after_add (Added replaced) es e = with_one es e
after_add (Clash id) es e = es
after_add Full es e = es
