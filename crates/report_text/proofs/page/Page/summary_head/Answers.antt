use Rattle.std.proofs.Common.{◌≡◌, List, ℕ, ◌++◌, codes, decimal, append_assoc, arith}
use Rattle.report_text.specs.Summary.{summary_head}
use Rattle.report_text.proofs.page.Page.summary_head.Goals as goal

-- four names with their numbers, and the end of the line
four : (page one two three whole line a b c d a' b' c' d' end' : List ℕ) →
    one ≡ page ++ (a ++ a') → two ≡ one ++ (b ++ b') → three ≡ two ++ (c ++ c') →
    whole ≡ three ++ (d ++ d') → line ≡ whole ++ end' →
    line ≡ page ++ (a ++ a' ++ b ++ b' ++ c ++ c' ++ d ++ d' ++ end')
four page one two three whole line a b c d a' b' c' d' end' e f g h i =
    rw (i, h, g, f, e) (simp append_assoc)

pub returns : goal.returns
unfolding summary_head
returns c = record {
  joined = four c.args.self.now.text c.named.new.self.text c.named-2.new.self.text c.named-3.new.self.text
      c.named-4.new.self.text c.text.new.self.text (codes "summary threads=") (codes " packets=") (codes " events=")
      (codes " live=") (decimal c.args.threads) (decimal c.args.packets) (decimal c.args.events) (decimal c.args.live)
      (codes "\n") c.named.ensures.joined c.named-2.ensures.joined c.named-3.ensures.joined c.named-4.ensures.joined
      c.text.ensures.joined;
  short = omega (arith, c.named.ensures.short, c.named-2.ensures.short, c.named-3.ensures.short, c.named-4.ensures.short, c.text.ensures.short);
}
