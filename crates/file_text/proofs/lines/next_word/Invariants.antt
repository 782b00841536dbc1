use Rattle.std.proofs.Common.{◌≡◌, ◌≤◌, length}
use Rattle.file_text.specs.Text.{words_of}
use Rattle.file_text.proofs.lines.next_word.Given as goal

abbrev pub invariant-blanks : goal.invariant-blanks
invariant-blanks l = (words_of l.text ≡ words_of l.rest) × (length l.rest ≤ length l.text)

abbrev pub decreases-blanks : goal.decreases-blanks
decreases-blanks l = length l.rest
