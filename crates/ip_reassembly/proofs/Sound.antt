-- What is kept stands in the bytes, whatever pieces come.
use Rattle.std.proofs.Common.{rules, ℕ, ◌+◌, ◌-◌, ◌<◌, ◌≤◌, Bool, true, false, List, sym, ◌∙◌, ap, subst, arith}
use Rattle.std.specs.Prelude.{◌==◌, if◌then◌else◌, ⊤, Option, Some, None, IfSome}
use Rattle.std.proofs.lemmas.Bool.Decides.{nat_tests}
use Rattle.ip_reassembly.specs.declared.piece.Part.{Part}
use Rattle.ip_reassembly.specs.declared.piece.Piece.{Piece}
use Rattle.ip_reassembly.specs.declared.gathering.Gathering.{Gathering}
use Rattle.ip_reassembly.specs.Internal.Filling.{AreInOrder, StandIn, fill, filled_by}
use Rattle.ip_reassembly.specs.Internal.Gathering.{Begun, IsKept, IsPieceIn, IsSound, Joined, first_end, first_header, higher}
use Rattle.ip_reassembly.proofs.Order.{filled_within, stand_lower}
use Rattle.ip_reassembly.proofs.Fill.{fill_order, fill_stands}

no_longer : (top high : ℕ) → (top ≤ higher top high) × (high ≤ higher top high) × ((m : ℕ) → top ≤ m → high ≤ m → higher top high ≤ m)
no_longer top high = (grind (arith, nat_tests), grind (arith, nat_tests), λ m a b. grind (arith, nat_tests))

header_stands : (size : ℕ) (old : Option ℕ) (p : Piece) → IfSome old (λ at. at + 20 ≤ size) → p.header + 20 ≤ size → IfSome (first_header old p) (λ at. at + 20 ≤ size)
header_stands size (Some at) p so fits = so
header_stands size None p so fits = one (p.part.low == 0)
  where
    one : (b : Bool) → IfSome (if b then Some p.header else None) (λ at. at + 20 ≤ size)
    one true = fits
    one false = so

end_some : (old : Option ℕ) (p : Piece) → IfSome old (λ end. 0 < end) → p.part.low < p.part.high → IfSome (first_end old p) (λ end. 0 < end)
end_some (Some end) p so some = so
end_some None p so some = one p.last
  where
    one : (b : Bool) → IfSome (if b then Some p.part.high else None) (λ end. 0 < end)
    one true = omega (arith, some)
    one false = so

order_now : (agrees : Bool) (parts : List Part) (p : Part) → AreInOrder 0 parts → AreInOrder 0 (if agrees then fill p parts else parts)
order_now true parts p order = fill_order 0 p parts order (omega arith)
order_now false parts p order = order

stand_now : (agrees : Bool) (size top : ℕ) (parts : List Part) (p : Part) → StandIn size top parts → p.high ≤ top → p.start + (p.high - p.low) ≤ size
    → StandIn size top (if agrees then fill p parts else parts)
stand_now true size top parts p stand high bytes = fill_stands size top p parts stand high (λ some. bytes)
stand_now false size top parts p stand high bytes = stand

pub joined_sound : (bytes : List ℕ) (p : Piece) (size : ℕ) (old new : Gathering) → IsSound size old → IsPieceIn size p → Joined bytes p old new → IsSound size new
joined_sound bytes p size old new so piece joined =
    let tops = no_longer old.top p.part.high in record {
      order = subst (AreInOrder 0) (sym joined.parts) (order_now new.agrees old.parts.items p.part so.order);
      stand = subst (λ (top : ℕ). StandIn size top new.parts.items) (sym joined.top)
          (subst (StandIn size (higher old.top p.part.high)) (sym joined.parts)
          (stand_now new.agrees size (higher old.top p.part.high) old.parts.items p.part
          (stand_lower size old.top (higher old.top p.part.high) old.parts.items tops.0 so.stand) tops.1 piece.bytes));
      top = subst (λ (top : ℕ). top ≤ 65515) (sym joined.top) (tops.2 65515 so.top piece.short);
      filled = joined.filled;
      header = subst (λ (o : Option ℕ). IfSome o (λ at. at + 20 ≤ size)) (sym joined.header) (header_stands size old.header p so.header piece.header);
      end = subst (λ (o : Option ℕ). IfSome o (λ end. 0 < end)) (sym joined.end) (end_some old.end p so.end piece.some);
    }

pub begun_sound : (p : Piece) (size : ℕ) (g : Gathering) → IsPieceIn size p → Begun p g → IsSound size g
begun_sound p size g piece begun = record {
  order = subst (AreInOrder 0) (sym begun.parts) (omega arith, piece.some, tt_like);
  stand = subst (λ (top : ℕ). StandIn size top g.parts.items) (sym begun.top) (subst (StandIn size p.part.high) (sym begun.parts) (omega arith, piece.bytes, tt_like));
  top = subst (λ (top : ℕ). top ≤ 65515) (sym begun.top) piece.short;
  filled = begun.filled ∙ sym (ap filled_by begun.parts ∙ omega arith);
  header = subst (λ (o : Option ℕ). IfSome o (λ at. at + 20 ≤ size)) (sym begun.header) (header_stands size None p no_header piece.header);
  end = subst (λ (o : Option ℕ). IfSome o (λ end. 0 < end)) (sym begun.end) (end_some None p no_end piece.some);
}
  where
    tt_like : ⊤
    tt_like = search rules

    no_header : IfSome None (λ at. at + 20 ≤ size)
    no_header = search rules

    no_end : IfSome None (λ end. 0 < end)
    no_end = search rules

pub is_kept : (size : ℕ) (g : Gathering) → IsSound size g → IsKept g
is_kept size g sound = record {
  order = sound.order;
  filled = sound.filled;
  few = omega (arith, sound.filled, sound.top, filled_within size g.top 0 g.parts.items sound.order sound.stand (omega arith));
}
