-- What keeps a list of expectations in order.
use Rattle.std.specs.Prelude.{◌<◌, Bool, List, filter, All}
use Rattle.expect_table.specs.declared.expectation.Expectation.{Expectation}
use Rattle.expect_table.specs.Expectations.{AreOrderedOneAMaster, with_one}

-- one that is newer than all of the list may be added
abbrev pub AddingKeepsOrder : Type 0
AddingKeepsOrder =
    (es : List Expectation) (e : Expectation) → AreOrderedOneAMaster es → All (λ o. o.id < e.id) es → AreOrderedOneAMaster (with_one es e)

-- any may be taken out
abbrev pub RemovingKeepsOrder : Type 0
RemovingKeepsOrder = (keep : Expectation → Bool) (es : List Expectation) → AreOrderedOneAMaster es → AreOrderedOneAMaster (filter keep es)
