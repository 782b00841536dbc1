use Rattle.std.proofs.Common.{arith}
use Rattle.file_text.proofs.Words.{no_words}
use Rattle.file_text.proofs.lines.next_word.Goals as goal

pub returns-clause-words : goal.returns-clause-words
returns-clause-words c = no_words c.args.text.now c.blanks.rest.now c.blanks.invariant.0 (grind arith)
