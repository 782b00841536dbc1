-- Numbers between commas, read one by one.
use Rattle.std.proofs.Common.{◌≡◌, ◌≢◌, ℕ, ◌+◌, ◌≤◌, ◌++◌, ◌∷◌, [], ◌==◌, nat_le, nat_lt, Bool, true, false, if◌then◌else◌, List, length, Option, Some, None, option_map, unwrap_or, arith, refl, sym, subst, ◌∙◌, ap}
use Rattle.std.proofs.lemmas.Bool.Decides.{nat_tests}
use Rattle.std.proofs.lemmas.List.{append_assoc, append-nil, length-append}
use Rattle.file_text.specs.Text.{parts_at, port_of}
use Rattle.command_words.specs.Internal.{numbers_after}
use Rattle.command_words.specs.Words.{numbers_in, numbers_of, with_number, zones_in}

-- these numbers, and those of the parts
unfoldable pub numbers_on : ℕ → (List ℕ → Option ℕ) → List ℕ → List (List ℕ) → Option (List ℕ)
numbers_on most read numbers parts = if nat_le (length numbers + length parts) most then option_map (λ (more : List ℕ). numbers ++ more) (numbers_of read parts) else None

same : (found : Option (List ℕ)) → found ≡ option_map (λ (more : List ℕ). [] ++ more) found
same None = refl
same (Some numbers) = refl

pub no_numbers : (most : ℕ) (read : List ℕ → Option ℕ) (text : List ℕ) → numbers_in most read text ≡ numbers_on most read [] (parts_at 44 text)
unfolding numbers_in numbers_on
no_numbers most read text =
    let none : 0 + length (parts_at 44 text) ≡ length (parts_at 44 text) = omega arith in
    rw none (ap (λ (found : Option (List ℕ)). if nat_le (length (parts_at 44 text)) most then found else None) (same (numbers_of read (parts_at 44 text))))

joined : (numbers : List ℕ) (number : ℕ) (found : Option (List ℕ))
    → option_map (λ (more : List ℕ). numbers ++ more) (with_number (Some number) found) ≡ option_map (λ (more : List ℕ). (numbers ++ number ∷ []) ++ more) found
joined numbers number None = refl
joined numbers number (Some more) = ap Some (sym (append_assoc numbers (number ∷ []) more))

on_parts : (most : ℕ) (read : List ℕ → Option ℕ) (numbers : List ℕ) (number : ℕ) (part : List ℕ) (parts : List (List ℕ))
    → (if nat_le (length numbers + length (part ∷ parts)) most then option_map (λ (more : List ℕ). numbers ++ more) (with_number (Some number) (numbers_of read parts)) else None) ≡ numbers_on most read (numbers ++ number ∷ []) parts
unfolding numbers_on
on_parts most read numbers number part parts =
    let longer : length (numbers ++ number ∷ []) + length parts ≡ length numbers + length (part ∷ parts) = omega (arith, length-append numbers (number ∷ [])) in
    rw longer (ap (λ (found : Option (List ℕ)). if nat_le (length numbers + length (part ∷ parts)) most then found else None) (joined numbers number (numbers_of read parts)))

grown : (most : ℕ) (read : List ℕ → Option ℕ) (numbers numbers' part : List ℕ) (parts : List (List ℕ)) → numbers_after most read numbers part ≡ Some numbers' → numbers_on most read numbers (part ∷ parts) ≡ numbers_on most read numbers' parts
unfolding numbers_after numbers_on
grown most read numbers numbers' part parts after = go (nat_lt (length numbers) most) (read part) after
  where
    go : (room : Bool) (number : Option ℕ) → (if room then option_map (λ n. numbers ++ n ∷ []) number else None) ≡ Some numbers'
        → (if nat_le (length numbers + length (part ∷ parts)) most then option_map (λ (more : List ℕ). numbers ++ more) (with_number number (numbers_of read parts)) else None) ≡ numbers_on most read numbers' parts
    go true (Some number) is = subst (λ (all : List ℕ). (if nat_le (length numbers + length (part ∷ parts)) most then option_map (λ (more : List ℕ). numbers ++ more) (with_number (Some number) (numbers_of read parts)) else None) ≡ numbers_on most read all parts) (ap (λ (all : Option (List ℕ)). unwrap_or all []) is) (on_parts most read numbers number part parts)
    go true None is = absurd (cc)
    go false number is = absurd (cc)

few : (most : ℕ) (read : List ℕ → Option ℕ) (numbers numbers' part : List ℕ) → numbers_after most read numbers part ≡ Some numbers' → length numbers' ≤ most
unfolding numbers_after
few most read numbers numbers' part after = go (nat_lt (length numbers) most) refl (read part) after
  where
    go : (room : Bool) → nat_lt (length numbers) most ≡ room → (number : Option ℕ) → (if room then option_map (λ n. numbers ++ n ∷ []) number else None) ≡ Some numbers' → length numbers' ≤ most
    go true less (Some number) is = subst (λ (all : List ℕ). length all ≤ most) (ap (λ (all : Option (List ℕ)). unwrap_or all []) is) (grind (arith, nat_tests, length-append numbers (number ∷ [])))
    go true less None is = absurd (cc)
    go false more number is = absurd (cc)

at_end : (most : ℕ) (read : List ℕ → Option ℕ) (numbers : List ℕ) → length numbers ≤ most → numbers_on most read numbers [] ≡ Some numbers
unfolding numbers_on
at_end most read numbers few =
    let fits : nat_le (length numbers + 0) most ≡ true = grind (arith, nat_tests) in
    rw fits (ap Some (append-nil numbers))

either : (test : Bool) (found : Option (List ℕ)) → (if test then found else found) ≡ found
either true found = refl
either false found = refl

refused : (most : ℕ) (read : List ℕ → Option ℕ) (numbers part : List ℕ) (parts : List (List ℕ)) → numbers_after most read numbers part ≡ None → numbers_on most read numbers (part ∷ parts) ≡ None
unfolding numbers_after numbers_on
refused most read numbers part parts after = go (nat_lt (length numbers) most) refl (read part) after
  where
    go : (room : Bool) → nat_lt (length numbers) most ≡ room → (number : Option ℕ) → (if room then option_map (λ n. numbers ++ n ∷ []) number else None) ≡ None
        → (if nat_le (length numbers + length (part ∷ parts)) most then option_map (λ (more : List ℕ). numbers ++ more) (with_number number (numbers_of read parts)) else None) ≡ None
    go true less None is = either (nat_le (length numbers + length (part ∷ parts)) most) None
    go true less (Some number) is = absurd (cc)
    go false more number is =
        let far : nat_le (length numbers + length (part ∷ parts)) most ≡ false = grind (arith, nat_tests) in
        rw far refl

pub one_more : (most : ℕ) (read : List ℕ → Option ℕ) (numbers numbers' rest part behind : List ℕ) → parts_at 44 rest ≡ part ∷ parts_at 44 behind → numbers_after most read numbers part ≡ Some numbers' → numbers_on most read numbers (parts_at 44 rest) ≡ numbers_on most read numbers' (parts_at 44 behind)
one_more most read numbers numbers' rest part behind split after = ap (numbers_on most read numbers) split ∙ grown most read numbers numbers' part (parts_at 44 behind) after

pub the_last : (most : ℕ) (read : List ℕ → Option ℕ) (numbers numbers' rest : List ℕ) → parts_at 44 rest ≡ rest ∷ [] → numbers_after most read numbers rest ≡ Some numbers' → numbers_on most read numbers (parts_at 44 rest) ≡ Some numbers'
the_last most read numbers numbers' rest split after = ap (numbers_on most read numbers) split ∙ grown most read numbers numbers' rest [] after ∙ at_end most read numbers' (few most read numbers numbers' rest after)

pub no_number : (most : ℕ) (read : List ℕ → Option ℕ) (numbers rest part : List ℕ) (more : List (List ℕ)) → parts_at 44 rest ≡ part ∷ more → numbers_after most read numbers part ≡ None → numbers_on most read numbers (parts_at 44 rest) ≡ None
no_number most read numbers rest part more split after = ap (numbers_on most read numbers) split ∙ refused most read numbers part more after

-- there are as many numbers as texts
abbrev AreAsMany : ℕ → Option (List ℕ) → Type 0
AreAsMany count None = Unit {0}
AreAsMany count (Some numbers) = length numbers ≡ count

one_each : (read : List ℕ → Option ℕ) (parts : List (List ℕ)) → AreAsMany (length parts) (numbers_of read parts)
one_each read [] = refl
one_each read (part ∷ parts) = both (read part) (numbers_of read parts) (one_each read parts)
  where
    both : (number : Option ℕ) (numbers : Option (List ℕ)) → AreAsMany (length parts) numbers → AreAsMany (length (part ∷ parts)) (with_number number numbers)
    both None numbers many = tt
    both (Some number) None many = tt
    both (Some number) (Some numbers) many = omega (arith, many)

-- what is read of at most so many is all that is read of exactly so many, where there are as many
zones_are : (count : ℕ) (parts : List (List ℕ)) (found : Option (List ℕ)) → AreAsMany (length parts) found
    → (zones : List ℕ) → (if nat_le (length parts) count then found else None) ≡ Some zones
    → (if length parts == count then found else None) ≡ (if length zones == count then Some zones else None)
zones_are count parts found many zones is = go (nat_le (length parts) count) found many is
  where
    go : (fits : Bool) (found : Option (List ℕ)) → AreAsMany (length parts) found → (if fits then found else None) ≡ Some zones
        → (if length parts == count then found else None) ≡ (if length zones == count then Some zones else None)
    go true (Some numbers) many is =
        let same : numbers ≡ zones = ap (λ (all : Option (List ℕ)). unwrap_or all []) is in
        rw (sym many) (ap (λ (all : List ℕ). if length all == count then Some all else None) same)
    go true None many is = absurd (cc)
    go false found many is = absurd (cc)

zones_found : (count : ℕ) (text zones : List ℕ) → numbers_in count (port_of 0) text ≡ Some zones
    → zones_in count text ≡ (if length zones == count then Some zones else None)
unfolding numbers_in zones_in
zones_found count text zones is = zones_are count (parts_at 44 text) (numbers_of (port_of 0) (parts_at 44 text)) (one_each (port_of 0) (parts_at 44 text)) zones is

pub all_zones : (count : ℕ) (text zones : List ℕ) → numbers_in count (port_of 0) text ≡ Some zones → length zones ≡ count → zones_in count text ≡ Some zones
all_zones count text zones is many =
    let test : (length zones == count) ≡ true = grind (arith, nat_tests, many) in
    zones_found count text zones is ∙ ap (λ (all : Bool). if all then Some zones else None) test

pub other_zones : (count : ℕ) (text zones : List ℕ) → numbers_in count (port_of 0) text ≡ Some zones → length zones ≢ count → zones_in count text ≡ None
other_zones count text zones is many =
    let test : (length zones == count) ≡ false = grind (arith, nat_tests, many) in
    zones_found count text zones is ∙ ap (λ (all : Bool). if all then Some zones else None) test

pub no_zones : (count : ℕ) (text : List ℕ) → numbers_in count (port_of 0) text ≡ None → zones_in count text ≡ None
unfolding numbers_in zones_in
no_zones count text none = go (length (parts_at 44 text) == count) refl
  where
    go : (all : Bool) → (length (parts_at 44 text) == count) ≡ all → (if all then numbers_of (port_of 0) (parts_at 44 text) else None) ≡ None
    go true is =
        let fits : nat_le (length (parts_at 44 text)) count ≡ true = grind (arith, nat_tests, is) in
        sym (ap (λ (test : Bool). if test then numbers_of (port_of 0) (parts_at 44 text) else None) fits) ∙ none
    go false is = refl
