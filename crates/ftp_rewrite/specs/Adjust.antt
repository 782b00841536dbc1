-- The edits of one direction of a connection, as contracts see them.
use Rattle.std.specs.Prelude.{ℕ, List}
use Rattle.ftp_rewrite.specs.declared.adjust.Edit.{Edit}

-- the sequence number from which offsets are counted, and the edits
pub record Adjusting : Type 0 where
  pub base : ℕ
  pub edits : List Edit
