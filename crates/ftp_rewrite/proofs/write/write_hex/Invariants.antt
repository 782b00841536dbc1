use Rattle.std.proofs.Common.{◌-◌, ◌≤◌, length, take}
use Rattle.ftp_rewrite.specs.Text.{hex_text}
use Rattle.ftp_rewrite.specs.Wrote.{WroteAll}
use Rattle.ftp_rewrite.proofs.write.write_hex.Given as goal

abbrev pub invariant-pieces : goal.invariant-pieces
invariant-pieces g l = record {
  within : l.done ≤ length l.payload;
  all : WroteAll (hex_text (take l.done l.payload)) (g.K.Sink.tape l.initial.out) (g.K.Sink.tape l.out);
}

abbrev pub decreases-pieces : goal.decreases-pieces
decreases-pieces g l = length l.payload - l.done
