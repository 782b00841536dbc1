-- The words of a process.
use Rattle.std.specs.Prelude.{◌≡◌, List}
use Rattle.std.specs.Iterator.Runs.{WholeRun}
use Rattle.std.specs.Vec.Iter.{into_iter_steps}
use Rattle.std.specs.declared.vec.IntoIter.{IntoIter}

-- these are all that the arguments give up to their end, in their order
abbrev pub AreAllOf : {X Z : Type 0} → IntoIter X Z → List X → Type 0
AreAllOf args words = WholeRun into_iter_steps args (λ run. run.items ≡ words)
