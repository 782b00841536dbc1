use Rattle.std.proofs.Common.{◌≡◌, ◌+◌, ◌*◌, ◌≤◌, ◌++◌, length, take}
use Rattle.ftp_rewrite.specs.Text.{hex_text}
use Rattle.ftp_rewrite.proofs.page.Page.hex.Given as goal

abbrev pub invariant-bytes : goal.invariant-bytes
invariant-bytes l = record {
  joined : l.self.text ≡ l.initial.self.text ++ hex_text (take l.byte-index l.piece);
  short : l.initial.self.room ≤ l.self.room + 2 * l.byte-index;
  whole : length l.self.text + l.self.room ≡ length l.initial.self.text + l.initial.self.room;
}
