use Rattle.std.proofs.Common.{◌≡◌, length}
use Rattle.file_text.specs.Text.{words_of}
use Rattle.conntrack_cmd.specs.Options.{everything, options_from}
use Rattle.conntrack_cmd.proofs.options.read_options.Given as goal

abbrev pub invariant-options : goal.invariant-options
invariant-options l = options_from l.one l.filter (words_of l.rest) ≡ options_from l.one everything (words_of l.words)

abbrev pub decreases-options : goal.decreases-options
decreases-options l = length l.rest
