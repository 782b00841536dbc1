-- What is read piece by piece, until a fault.
use Rattle.std.specs.Prelude.{ℕ, Option, Some, None, Result, Ok, Err, ok_or}

-- go on with what was read; a fault stays
infixl 10 ◌>>=◌
abbrev pub ◌>>=◌ : {A B E : Type 0} → Result A E → (A → Result B E) → Result B E
(Ok x) >>= f = f x
(Err e) >>= f = Err e

-- what is not there is this fault
abbrev pub required : {A E : Type 0} → E → Option A → Result A E
required fault read = ok_or read fault

-- an option gets the value that is read for it; where it has one already, that is this fault
abbrev pub once : {A E : Type 0} → E → Option A → Result A E → Result (Option A) E
once fault (Some old) read = Err fault
once fault None (Ok x) = Ok (Some x)
once fault None (Err e) = Err e

-- what is wrong is told with the number of its line
abbrev pub located : {A K F : Type 0} → (ℕ → K → F) → ℕ → Result A K → Result A F
located fault number (Ok x) = Ok x
located fault number (Err kind) = Err (fault number kind)
