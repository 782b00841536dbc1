use Rattle.std.proofs.Common.{◌≡◌, ◌-◌, ◌≤◌, length, take}
use Rattle.ftp_rewrite.specs.Wrote.{followed_by}
use Rattle.ftp_rewrite.proofs.write.write_all.Given as goal

abbrev pub invariant-pieces : goal.invariant-pieces
invariant-pieces g l = record {
  within : l.done ≤ length l.piece;
  written : (g.K.Sink.tape l.out).written
      ≡ followed_by (g.K.Sink.tape l.initial.out).written (take l.done l.piece);
  same_faults : (g.K.Sink.tape l.out).faults ≡ (g.K.Sink.tape l.initial.out).faults;
}

abbrev pub decreases-pieces : goal.decreases-pieces
decreases-pieces g l = length l.piece - l.done
