-- How one packet leaves.
use Rattle.std.specs.Prelude.{ℕ, List}
use Rattle.tuple_core.specs.declared.Direction.{Direction}
use Rattle.ftp_rewrite.specs.declared.rewrite.NewText.{NewText}
use Rattle.ftp_rewrite.specs.declared.rewrite.NewText.TheVariants as new
use Rattle.ftp_rewrite.specs.declared.rewrite.Rewrite.{Rewrite}

-- with the payload that it had: it asked for no edit, or its edit was refused; or with these bytes
pub data LineText : Type 0 where
  Same : LineText
  Kept : LineText
  Changed : (bytes : List ℕ) → LineText

-- the packet, the entry, the direction, and its numbers as they were and as they leave
pub record Line : Type 0 where
  pub thread : ℕ
  pub packet : ℕ
  pub id : ℕ
  pub direction : Direction
  pub seq : ℕ
  pub new_seq : ℕ
  pub ack : ℕ
  pub new_ack : ℕ
  pub text : LineText

-- the payload that the code has, whatever room it has
abbrev pub seen_text : NewText → LineText
seen_text new.Same = Same
seen_text new.Kept = Kept
seen_text (new.Changed bytes) = Changed bytes.items

-- the line that the code has
abbrev pub seen : Rewrite → Line
seen r = record {
  thread = r.thread;
  packet = r.packet;
  id = r.id;
  direction = r.direction;
  seq = r.seq;
  new_seq = r.new_seq;
  ack = r.ack;
  new_ack = r.new_ack;
  text = seen_text r.text;
}
