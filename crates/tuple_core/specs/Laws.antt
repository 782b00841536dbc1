-- What holds of every tuple.
use Rattle.std.specs.Prelude.{◌≡◌, true}
use Rattle.tuple_core.specs.declared.Tuple.{Tuple}
use Rattle.tuple_core.specs.Inverse.{inverse}
use Rattle.tuple_core.specs.Tuple.{is_valid}
use Rattle.tuple_core.specs.Words.{words_of}

abbrev pub InverseIsAnInvolution : Type 0
InverseIsAnInvolution = (t : Tuple) → is_valid t ≡ true → inverse (inverse t) ≡ t

abbrev pub InverseIsValid : Type 0
InverseIsValid = (t : Tuple) → is_valid t ≡ true → is_valid (inverse t) ≡ true

abbrev pub WordsDetermineTheTuple : Type 0
WordsDetermineTheTuple =
    (s t : Tuple) → is_valid s ≡ true → is_valid t ≡ true → words_of s ≡ words_of t → s ≡ t
