-- What a collection of all items shows of them.
use Rattle.std.proofs.Common.{◌≡◌, List, Result, Ok, Err}
use Rattle.std.specs.Iterator.Runs.{WholeRun}
use Rattle.std.specs.Prelude.{IfOk}
use Rattle.std.specs.Vec.Iter.{into_iter_steps}
use Rattle.std.specs.declared.vec.IntoIter.{IntoIter}
use Rattle.replay_top.specs.Process.{AreAllOf}

-- a collection of the items of a whole run has all that the iterator gives
pub all_collected : {V X Z E : Type 0} (r : Result V E) (args : IntoIter X Z) (shown : V → List X) (C : V → Type 0) (G : V → List X → Type 0)
    → ((v : V) → C v) → ((v : V) (xs : List X) → G v xs → xs ≡ shown v)
    → IfOk r (λ v. C v → WholeRun into_iter_steps args (λ run. G v run.items)) → IfOk r (λ v. AreAllOf args (shown v))
all_collected (Err e) args shown C G complete same runs = runs
all_collected (Ok v) args shown C G complete same runs =
    let run = runs (complete v) in (run.0, run.1, run.2, same v run.0.items run.3)
