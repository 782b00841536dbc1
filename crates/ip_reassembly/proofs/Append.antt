-- Appending the bytes of parts, one part after the other.
use Rattle.std.proofs.Common.{◌≡◌, ℕ, ◌+◌, ◌-◌, ◌<◌, ◌≤◌, List, [], ◌∷◌, ◌++◌, length, take, get_or, refl, sym, ◌∙◌, ap, arith, length-append}
use Rattle.std.specs.List.{flat_map}
use Rattle.std.proofs.lemmas.List.{append_assoc, take_more}
use Rattle.std.proofs.lemmas.List.Concat.{flat_map-append}
use Rattle.std.proofs.lemmas.Grind.{common_steps}
use Rattle.ip_reassembly.specs.declared.piece.Part.{Part}
use Rattle.ip_reassembly.specs.Internal.Filling.{StandIn, filled_by}
use Rattle.ip_reassembly.specs.Internal.Gathering.{part_bytes}
use Rattle.ip_reassembly.proofs.Order.{stands_at}

pub record HasAppended (bytes : List ℕ) (all : List Part) (old new : List ℕ) (index : ℕ) : Type 0 where
  pub parts : new ≡ old ++ flat_map (part_bytes bytes) (take index all)
  pub long : length new ≡ length old + filled_by (take index all)

append_nothing : (xs : List ℕ) → xs ++ [] ≡ xs
append_nothing [] = refl
append_nothing (x ∷ xs) = ap (λ (ys : List ℕ). x ∷ ys) (append_nothing xs)

pub appended_none : (bytes : List ℕ) (parts : List Part) (old : List ℕ) → HasAppended bytes parts old old 0
appended_none bytes parts old = record { parts = sym (append_nothing old); long = omega arith }

filled_append : (parts others : List Part) → filled_by (parts ++ others) ≡ filled_by parts + filled_by others
filled_append [] others = omega arith
filled_append (p ∷ parts) others = omega (arith, filled_append parts others)

pub appended_next : (bytes : List ℕ) (parts : List Part) (old new more : List ℕ) (index : ℕ) (d : Part) → HasAppended bytes parts old new index → index < length parts
    → StandIn (length bytes) 65515 parts → more ≡ new ++ part_bytes bytes (get_or parts index d) → HasAppended bytes parts old more (index + 1)
appended_next bytes parts old new more index d so within stand longer =
    let p = get_or parts index d in
    let there = stands_at (length bytes) 65515 index parts d stand within in
    let taken = take_more parts index d within in
    let size : length (part_bytes bytes p) ≡ p.high - p.low = long_of bytes p there.1 in
    let some : length more ≡ length new + length (part_bytes bytes p) = ap length longer ∙ length-append new (part_bytes bytes p) in
    let all : filled_by (take (index + 1) parts) ≡ filled_by (take index parts) + (p.high - p.low) = ap filled_by taken ∙ filled_append (take index parts) (p ∷ []) ∙ omega arith in
    record {
      parts = longer ∙ (λ i. so.parts i ++ part_bytes bytes p) ∙ append_assoc old (flat_map (part_bytes bytes) (take index parts)) (part_bytes bytes p)
          ∙ (λ i. old ++ (flat_map (part_bytes bytes) (take index parts) ++ sym (append_nothing (part_bytes bytes p)) i))
          ∙ (λ i. old ++ sym (flat_map-append (part_bytes bytes) (take index parts) (p ∷ [])) i)
          ∙ (λ i. old ++ flat_map (part_bytes bytes) (sym taken i));
      long = omega (arith, so.long, size, some, all);
    }
  where
    long_of : (bytes : List ℕ) (p : Part) → p.start + (p.high - p.low) ≤ length bytes → length (part_bytes bytes p) ≡ p.high - p.low
    long_of bytes p there = grind (arith, common_steps)
