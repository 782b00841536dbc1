-- The words of one kind.
use Rattle.std.specs.Prelude.{◌==◌, ◌&&◌, nat_le}
use Rattle.std.proofs.Common.{◌≡◌, ℕ, ◌+◌, ◌*◌, ◌<◌, Bool, true, false, arith}
use Rattle.std.proofs.lemmas.Bool.{and_left, and_right, lt-leb, ne_eqb}
use Rattle.history_book.specs.declared.sizes.Sizes.{Sizes}
use Rattle.track_rule.specs.ChangesOnly.{is_of_kind, is_some_phase}
use Rattle.track_rule.specs.Layout.{refs_word}
use Rattle.track_rule.specs.Links.{kind_of}
use Rattle.track_rule.specs.declared.view.Reading.{Reading}

-- a word of a place, by its kind
pub of_kind : (z : Sizes) (kind other place n : ℕ) (r : Reading) → n < 9 → (n ≡ kind → ⊥) → r.word ≡ refs_word z place + n → is_of_kind kind z r ≡ false
of_kind z kind other place n r low differs here =
    and_right (nat_le (3 + 2 * z.buckets) r.word) (kind_of z r.word == kind) (ne_eqb (kind_of z r.word) kind (λ e. differs (omega (arith, e, here, low))))

pub below_places : (z : Sizes) (kind : ℕ) (r : Reading) → r.word < 3 + 2 * z.buckets → is_of_kind kind z r ≡ false
below_places z kind r low = and_left (nat_le (3 + 2 * z.buckets) r.word) (kind_of z r.word == kind) (lt-leb (3 + 2 * z.buckets) r.word low)

-- a test names no phase that became this
abbrev pub NamesNo : ℕ → (Sizes → Reading → Bool) → Type 0
NamesNo value f = (z : Sizes) (r : Reading) → f z r ≡ true → is_some_phase value z r ≡ false
