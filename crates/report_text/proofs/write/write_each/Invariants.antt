use Rattle.std.proofs.Common.{◌≡◌, ℕ, List, Bor, take}
use Rattle.std.specs.List.{flat_map}
use Rattle.report_text.specs.Wrote.{followed_by}
use Rattle.report_text.proofs.write.write_each.Given as goal

abbrev pub invariant-each : goal.invariant-each
invariant-each g l = record {
  written : (g.K.Sink.tape l.out).written
      ≡ followed_by (g.K.Sink.tape l.initial.out).written
      (flat_map (λ (piece : Bor (List ℕ)). piece.now) (take l.piece-index l.pieces));
  same_faults : (g.K.Sink.tape l.out).faults ≡ (g.K.Sink.tape l.initial.out).faults;
}
