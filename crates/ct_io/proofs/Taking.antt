-- How reads of one file go together. What was read before stands in front of what is left.
use Rattle.std.proofs.Common.{◌≡◌, ℕ, List, ◌++◌, Option, None, Some, take, drop, refl, ap, append_assoc, ◌∙◌}
use Rattle.std.proofs.lemmas.List.{take-append-drop, append-nil}
use Rattle.std.specs.Option.{option_map}
use Rattle.ct_io.specs.Reading.{Took}

-- one more read: both together are what they were
pub took_more : (so_far buffer : List ℕ) (n : ℕ) (before after : Option (List ℕ)) → Took before n buffer after →
    option_map (λ left. (so_far ++ take n buffer) ++ left) after ≡ option_map (λ left. so_far ++ left) before
took_more so_far buffer n None after took = rw took refl
took_more so_far buffer n (Some left) after took =
    rw (took.0, took.1) (ap Some (append_assoc so_far (take n left) (drop n left) ∙ ap (λ x. so_far ++ x) (take-append-drop n left)))

-- a read of nothing: all was read
pub took_all : (so_far buffer : List ℕ) (before after : Option (List ℕ)) → Took before 0 buffer after →
    option_map (λ left. so_far ++ left) before ≡ option_map (λ _. so_far) before
took_all so_far buffer None after took = refl
took_all so_far buffer (Some left) after took = rw (took.3 refl) (ap Some (append-nil so_far))
