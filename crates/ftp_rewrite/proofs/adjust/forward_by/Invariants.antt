use Rattle.std.proofs.Common.{◌≡◌, ◌+◌, ◌*◌, ◌≤◌, drop}
use Rattle.ftp_rewrite.specs.Edit.{AreInOrderFrom, forward_from}
use Rattle.ftp_rewrite.proofs.adjust.forward_by.Given as goal

abbrev pub invariant-edits : goal.invariant-edits
invariant-edits l = record {
  same : forward_from 0 0 l.edits l.x ≡ forward_from l.start l.made (drop l.edit-index l.edits) l.x;
  order : AreInOrderFrom l.start (drop l.edit-index l.edits);
  dealt : l.start ≤ l.x;
  small : l.made ≤ l.start + 65536 * l.edit-index;
}
