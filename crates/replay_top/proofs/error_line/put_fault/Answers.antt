use Rattle.std.proofs.Common.{◌≡◌, ℕ, List, ◌++◌, arith, append_assoc}
use Rattle.std.specs.Prelude.{codes, decimal}
use Rattle.replay_top.proofs.error_line.put_fault.Goals as goal

-- three pieces, one behind the other
three_pieces : (t t' t'' end a b c : List ℕ) → t' ≡ t ++ a → t'' ≡ t' ++ b → end ≡ t'' ++ c → end ≡ t ++ (a ++ b ++ c)
three_pieces t t' t'' end a b c one two three = cc (append_assoc t a b, append_assoc t (a ++ b) c)

pub returns-in-LinkType : goal.returns-in-LinkType
returns-in-LinkType c = rw c.in-LinkType.is (record {
  joined = three_pieces _ _ _ _ (codes ": link type ") (decimal c.in-LinkType.number) (codes "\n")
      c.text-in-LinkType.ensures.joined c.number.ensures.joined c.text-in-LinkType-2.ensures.joined;
  short = omega arith;
})
