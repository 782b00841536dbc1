use Rattle.std.proofs.Common.{◌≡◌, ◌+◌, ◌*◌, ◌≤◌, drop}
use Rattle.ftp_rewrite.specs.Edit.{AreInOrderFrom, back_from}
use Rattle.ftp_rewrite.proofs.adjust.back_by.Given as goal

abbrev pub invariant-edits : goal.invariant-edits
invariant-edits l = record {
  same : back_from 0 0 l.edits l.y ≡ back_from l.start l.made (drop l.edit-index l.edits) l.y;
  order : AreInOrderFrom l.start (drop l.edit-index l.edits);
  dealt : l.made ≤ l.y;
  small : l.start ≤ l.made + 65536 * l.edit-index;
}
