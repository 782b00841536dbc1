use Rattle.std.proofs.Common.{◌≡◌, ◌≤◌, length}
use Rattle.file_text.specs.Text.{parts_at, port_of}
use Rattle.command_words.specs.Words.{numbers_in}
use Rattle.command_words.proofs.Numbers.{numbers_on}
use Rattle.command_words.proofs.values.read_numbers.Given as goal

abbrev pub invariant-numbers : goal.invariant-numbers
invariant-numbers l = (l.most ≤ l.numbers.room)
    × (numbers_in l.most (port_of l.least) l.text ≡ numbers_on l.most (port_of l.least) l.numbers.items (parts_at 44 l.rest))

abbrev pub decreases-numbers : goal.decreases-numbers
decreases-numbers l = length (parts_at 44 l.rest)
