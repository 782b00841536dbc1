use Rattle.std.proofs.Common.{◌≡◌, ◌∙◌, ℕ, ◌+◌, ◌/◌, ◌%◌, List, ◌++◌, take, ap, append_assoc, arith, subst}
use Rattle.report_text.specs.Internal.Digits.{four_digits, two_digits}
use Rattle.report_text.proofs.number.put_four.Goals as goal

pub returns : goal.returns
returns c =
    let end : c.args.at + 2 + 2 ≡ c.args.at + 4 = omega arith in
    subst (λ (k : ℕ). take k c.put_pair-2.new.buffer ≡ take c.args.at c.args.buffer.now ++ four_digits c.args.number) end
    (c.put_pair-2.ensures ∙ ap (λ (xs : List ℕ). xs ++ two_digits (c.args.number % 100)) c.put_pair.ensures
    ∙ append_assoc (take c.args.at c.args.buffer.now) (two_digits (c.args.number / 100)) (two_digits (c.args.number % 100)))
