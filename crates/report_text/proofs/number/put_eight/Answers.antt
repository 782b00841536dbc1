use Rattle.std.proofs.Common.{◌≡◌, ◌∙◌, ℕ, ◌+◌, ◌/◌, ◌%◌, List, ◌++◌, take, ap, append_assoc, arith, subst}
use Rattle.report_text.specs.Internal.Digits.{eight_digits, four_digits}
use Rattle.report_text.proofs.number.put_eight.Goals as goal

pub returns : goal.returns
returns c =
    let end : c.args.at + 4 + 4 ≡ c.args.at + 8 = omega arith in
    subst (λ (k : ℕ). take k c.put_four-2.new.buffer ≡ take c.args.at c.args.buffer.now ++ eight_digits c.args.number) end
    (c.put_four-2.ensures ∙ ap (λ (xs : List ℕ). xs ++ four_digits (c.args.number % 10000)) c.put_four.ensures
    ∙ append_assoc (take c.args.at c.args.buffer.now) (four_digits (c.args.number / 10000)) (four_digits (c.args.number % 10000)))
