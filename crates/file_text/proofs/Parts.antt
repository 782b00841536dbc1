-- What stands between bytes of one value, part by part.
use Rattle.std.proofs.Common.{◌≡◌, ℕ, ◌+◌, ◌<◌, ◌==◌, Bool, false, List, [], ◌∷◌, length, take, drop, position, Some, None, ◌≤◌, arith, refl, subst}
use Rattle.std.specs.List.{slice_split, position_or_len}
use Rattle.std.proofs.lemmas.List.Splits.{length-slice_split, slice_split_first, slice_split_none}
use Rattle.std.proofs.lemmas.List.Quantifiers.{position-Some}
use Rattle.std.proofs.lemmas.List.Sums.{position_or_len_is, fails_before_first}
use Rattle.std.proofs.lemmas.Bool.Decides.{nat_tests}
use Rattle.std.proofs.lemmas.List.Elements.{All-from_get_or}
use Rattle.file_text.specs.Text.{address_of_parts, lines_from, lines_of, parts_at}

split_there : (p : ℕ → Bool) (text : List ℕ) (at : ℕ) → position_or_len p text ≡ at → at < length text → slice_split p text ≡ take at text ∷ slice_split p (drop (at + 1) text)
split_there p text at here inside =
    subst (λ (k : ℕ). slice_split p text ≡ take k text ∷ slice_split p (drop (k + 1) text)) here (slice_split_first p text 0 (omega arith))

pub split_at_position : (p : ℕ → Bool) (text : List ℕ) (at : ℕ) → position p text ≡ Some at → slice_split p text ≡ take at text ∷ slice_split p (drop (at + 1) text)
split_at_position p text at found =
    let h = position-Some p text at 0 found in
    let inside : at < length text = h.0 in
    split_there p text at (position_or_len_is p text at 0 (omega arith) h.2 (λ _. h.1)) inside

pub split_whole : (p : ℕ → Bool) (text : List ℕ) → position p text ≡ None → slice_split p text ≡ text ∷ []
split_whole p text none =
    let far : length text ≤ position_or_len p text = grind (arith, nat_tests) in
    slice_split_none p text (All-from_get_or (λ b. p b ≡ false) text 0 (λ k inside. fails_before_first p text k 0 (omega arith)))

pub parts_split : (sign : ℕ) (text : List ℕ) (at : ℕ) → position (λ b. b == sign) text ≡ Some at → parts_at sign text ≡ take at text ∷ parts_at sign (drop (at + 1) text)
parts_split sign text at found = split_at_position (λ b. b == sign) text at found

pub parts_whole : (sign : ℕ) (text : List ℕ) → position (λ b. b == sign) text ≡ None → parts_at sign text ≡ text ∷ []
parts_whole sign text none = split_whole (λ b. b == sign) text none

more_parts : (a b c d : List ℕ) (parts : List (List ℕ)) → 0 < length parts → address_of_parts (a ∷ b ∷ c ∷ d ∷ parts) ≡ None
more_parts a b c d [] some = absurd (omega arith)
more_parts a b c d (part ∷ parts) some = refl

pub too_many : (a b c d rest : List ℕ) → address_of_parts (a ∷ b ∷ c ∷ d ∷ parts_at 46 rest) ≡ None
too_many a b c d rest = more_parts a b c d (parts_at 46 rest) (omega (arith, length-slice_split (λ (b : ℕ). b == 46) rest))

line_before : (line : List ℕ) (parts : List (List ℕ)) → 0 < length parts → lines_from (line ∷ parts) ≡ line ∷ lines_from parts
line_before line [] some = absurd (omega arith)
line_before [] (part ∷ parts) some = refl
line_before (b ∷ bs) (part ∷ parts) some = refl

pub first_line : (bytes : List ℕ) (at : ℕ) → position (λ b. b == 10) bytes ≡ Some at → lines_of bytes ≡ take at bytes ∷ lines_of (drop (at + 1) bytes)
unfolding lines_of
first_line bytes at found =
    let rest : List ℕ = drop (at + 1) bytes in
    rw (parts_split 10 bytes at found) (line_before (take at bytes) (parts_at 10 rest) (omega (arith, length-slice_split (λ (b : ℕ). b == 10) rest)))

line_alone : (bytes : List ℕ) → 0 < length bytes → lines_from (bytes ∷ []) ≡ bytes ∷ []
line_alone [] some = absurd (omega arith)
line_alone (b ∷ bs) some = refl

pub only_line : (bytes rest : List ℕ) → position (λ b. b == 10) bytes ≡ None → 0 < length bytes → length rest ≡ 0 → lines_of bytes ≡ bytes ∷ lines_of rest
unfolding lines_of
only_line bytes [] none some empty = rw (parts_whole 10 bytes none) (line_alone bytes some)
only_line bytes (b ∷ bs) none some empty = absurd (omega arith)
