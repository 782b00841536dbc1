-- Reading a file in pieces.
use Rattle.std.proofs.Common.{◌≡◌, ℕ, ◌+◌, ◌<◌, ◌≤◌, List, [], ◌++◌, length, take, drop, Option, None, Some, refl, sym, ap, ◌∙◌, subst, arith, append_assoc, length-append}
use Rattle.std.proofs.lemmas.List.{append-nil, take-append-drop}
use Rattle.std.specs.Option.{IfSome}
use Rattle.ct_io.specs.Counts.{Rose}
use Rattle.ct_io.specs.Reading.{Took}
use Rattle.ct_io.specs.Source.{OthersStandAtRead, SameFaults, Source, Stays}
use Rattle.run_inputs.specs.Causes.{ReadingFailed, ReadSoFar}

-- before the first piece
pub nothing_read : (contents : Option (List ℕ)) → ReadSoFar contents [] contents
nothing_read None = refl
nothing_read (Some contents) = refl

-- one more piece
pub more_read : (contents : Option (List ℕ)) (bytes : List ℕ) (n : ℕ) (buffer : List ℕ) (left after : Option (List ℕ)) →
    ReadSoFar contents bytes left → Took left n buffer after → ReadSoFar contents (bytes ++ take n buffer) after
more_read contents bytes n buffer None after so_far took = rw took so_far
more_read contents bytes n buffer (Some left) after so_far took =
    rw (took.0, took.1)
    (ap Some (append_assoc bytes (take n left) (drop n left) ∙ ap (λ x. bytes ++ x) (take-append-drop n left)) ∙ so_far)

-- at the end
pub all_read : (contents : Option (List ℕ)) (bytes buffer : List ℕ) (left after : Option (List ℕ)) →
    ReadSoFar contents bytes left → Took left 0 buffer after → IfSome contents (λ c. bytes ≡ c)
all_read contents bytes buffer None after so_far took = subst (λ c. IfSome c (λ x. bytes ≡ x)) so_far tt
all_read contents bytes buffer (Some left) after so_far took =
    subst (λ c. IfSome c (λ x. bytes ≡ x)) so_far (rw (took.3 refl) (sym (append-nil bytes)))

-- past the most
pub too_many : (contents : Option (List ℕ)) (bytes : List ℕ) (n : ℕ) (buffer : List ℕ) (left after : Option (List ℕ)) (most : ℕ) →
    ReadSoFar contents bytes left → Took left n buffer after → most < length bytes + n → IfSome contents (λ c. most < length c)
too_many contents bytes n buffer None after most so_far took past = subst (λ c. IfSome c (λ x. most < length x)) so_far tt
too_many contents bytes n buffer (Some left) after most so_far took past =
    subst (λ c. IfSome c (λ x. most < length x)) so_far (omega (arith, length-append bytes left, took.2))

-- a read failed, behind these bytes
pub read_failed : (files between files' : Source) (name bytes : List ℕ) (most : ℕ) → Stays files between → SameFaults files between
    → ReadSoFar (files.contents name) bytes between.left → files'.left ≡ between.left → Rose between.read_faults files'.read_faults
    → OthersStandAtRead between files' → length bytes ≤ most
    → ReadingFailed files files' name (λ front. length front ≤ most)
read_failed files between files' name bytes most stays same so_far left rose alone few = record {
  rose = subst (λ (k : ℕ). Rose k files'.read_faults) same.read_faults rose;
  alone = λ other apart. alone other (stays.counts_reads other ∙ apart) ∙ same.open_faults other;
  front = bytes;
  so_far = rw left so_far;
  fits = few;
}
