-- A made capture grows by its records, one after the other.
use Rattle.std.proofs.Common.{◌≡◌, ℕ, zero, suc, ◌+◌, List, [], ◌∷◌, ◌++◌, map, refl, sym, ◌∙◌, arith, append_assoc}
use Rattle.std.proofs.lemmas.List.{append-nil, map_push}
use Rattle.std.proofs.lemmas.List.FromFn.{map-range_with_len_more}
use Rattle.std.proofs.lemmas.List.Folds.{concat-append}
use Rattle.std.specs.List.{concat, range_with_len}
use Rattle.room_list.specs.Roomed.{Roomed}
use Rattle.made_captures.specs.MadeCapture.{contents, file_header, made_capture, made_captures, made_record}

-- one record more
pub capture_more : (seed index thread next : ℕ) → index + 1 ≡ next
    → made_capture seed next thread ≡ made_capture seed index thread ++ made_record seed thread index
unfolding made_capture
capture_more seed index thread next e =
    let f = made_record seed thread in
    (λ i. file_header ++ concat (map f (range_with_len 0 (sym e i))))
    ∙ (λ i. file_header ++ concat (map-range_with_len_more f 0 index index (omega arith) i))
    ∙ (λ i. file_header ++ concat-append (map f (range_with_len 0 index)) (f index ∷ []) i)
    ∙ (λ i. file_header ++ (concat (map f (range_with_len 0 index)) ++ append-nil (f index) i))
    ∙ sym (append_assoc file_header (concat (map f (range_with_len 0 index))) (f index))

-- a capture without records
pub capture_begins : (seed thread : ℕ) → made_capture seed 0 thread ≡ file_header
unfolding made_capture
capture_begins seed thread = append-nil file_header

-- one capture more
pub captures_more : (seed packets thread : ℕ) (files : List (Roomed ℕ)) (file : Roomed ℕ)
    → contents files ≡ made_captures seed packets thread → file.items ≡ made_capture seed packets thread
    → contents (files ++ file ∷ []) ≡ made_captures seed packets (thread + 1)
captures_more seed packets thread files file e f =
    map_push (λ (one : Roomed ℕ). one.items) files file
    ∙ (λ i. e i ++ f i ∷ [])
    ∙ sym (map-range_with_len_more (made_capture seed packets) 0 thread thread (omega arith))

-- a capture is a shorter one and the records behind that
pub capture_split : (seed thread index count : ℕ)
    → made_capture seed (index + count) thread
    ≡ made_capture seed index thread ++ concat (map (made_record seed thread) (range_with_len index count))
capture_split seed thread index zero = (λ i. made_capture seed (none i) thread) ∙ sym (append-nil (made_capture seed index thread))
  where
    none : index + 0 ≡ index
    none = omega arith
capture_split seed thread index (suc count) =
    let on : index + suc count ≡ index + 1 + count = omega arith in
    let rest : List ℕ = concat (map (made_record seed thread) (range_with_len (index + 1) count)) in
    (λ i. made_capture seed (on i) thread) ∙ capture_split seed thread (index + 1) count
    ∙ (λ i. capture_more seed index thread (index + 1) refl i ++ rest)
    ∙ append_assoc (made_capture seed index thread) (made_record seed thread index) rest
