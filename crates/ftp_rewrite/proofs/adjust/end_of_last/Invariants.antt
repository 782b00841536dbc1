use Rattle.std.proofs.Common.{◌≡◌, take}
use Rattle.ftp_rewrite.specs.Edit.{end_from}
use Rattle.ftp_rewrite.proofs.adjust.end_of_last.Given as goal

abbrev pub invariant-edits : goal.invariant-edits
invariant-edits l = l.end ≡ end_from 0 (take l.edit-index l.edits)
