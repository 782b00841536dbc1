-- In which direction the entry of a place has the tuple.
use Rattle.std.proofs.Common.{◌≡◌, ℕ, Bool, true, false, Some, None, refl, sym, ap, ◌∙◌}
use Rattle.std.specs.Prelude.{if◌then◌else◌, slice_get}
use Rattle.tuple_core.specs.declared.Direction.TheVariants.{Original, Reply}
use Rattle.track_rule.specs.Chains.{pair_of}
use Rattle.track_rule.specs.KeptWords.{is_kept_for, link_of}
use Rattle.track_rule.specs.Sights.{PassSight}
use Rattle.bucket_table.specs.Finding.{IsDirected}
use Rattle.bucket_table.specs.Following.{Compares, has_pair}
use Rattle.bucket_table.specs.declared.lookup.Goal.{Goal}
use Rattle.bucket_table.proofs.Looking.{walks_on}

-- the original tuple is it
pub original_is : (g : Goal) (place : ℕ) (v w : PassSight) → Compares g (link_of Original place) true v w → IsDirected g place Original v w
original_is g place v w c = record {
  walks = c.walks;
  directed = λ id kept was.
      let is : has_pair g (pair_of was.subject.original) ≡ true = sym (c.kept place id was.subject Original kept was.event refl) in
      ap (λ (b : Bool). if b then Some Original else (if has_pair g (pair_of was.subject.reply) then Some Reply else None)) is;
}

-- it is another one, and the reply tuple is it
pub reply_is : (g : Goal) (place : ℕ) (v u w : PassSight) → Compares g (link_of Original place) false v u → Compares g (link_of Reply place) true u w
    → IsDirected g place Reply v w
reply_is g place v u w c d = record {
  walks = walks_on v u w c.walks d.walks;
  directed = λ id kept was.
      let other : has_pair g (pair_of was.subject.original) ≡ false = sym (c.kept place id was.subject Original kept was.event refl) in
      let is : has_pair g (pair_of was.subject.reply) ≡ true =
      sym (d.kept place id was.subject Reply (ap (λ (x : PassSight). is_kept_for place id x.view.places.held) c.walks.same ∙ kept)
      (ap (λ (x : PassSight). slice_get x.view.seen.front id) c.walks.same ∙ was.event) refl) in
      (λ i. if other i then Some Original else (if is i then Some Reply else None));
}
