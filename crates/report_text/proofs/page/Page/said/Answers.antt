use Rattle.std.proofs.Common.{ap, sym, ◌∙◌, ◌++◌, decimal, append_assoc, codes, arith, subst}
use Rattle.history_book.specs.declared.answer.Said.{Said}
use Rattle.report_text.specs.Answer.{said_text}
use Rattle.report_text.specs.Page.{Adds}
use Rattle.report_text.proofs.page.Page.said.Goals as goal

pub returns-in-Expectations : goal.returns-in-Expectations
returns-in-Expectations c =
    let text = c.text-in-Expectations.ensures in
    let number = c.number-in-Expectations.ensures in
    subst (λ (s : Said). Adds 40 (said_text s c.args.made) c.args.self.now c.number-in-Expectations.new.self) (sym c.in-Expectations.is)
    (record {
      joined = number.joined ∙ ap (λ t. t ++ decimal c.len-in-Expectations.result) text.joined
          ∙ append_assoc c.args.self.now.text (codes " expectations ") (decimal c.len-in-Expectations.result)
          ∙ ap (λ n. c.args.self.now.text ++ (codes " expectations " ++ decimal n)) c.len-in-Expectations.ensures.exact;
      short = omega (arith, text.short, number.short);
    })
