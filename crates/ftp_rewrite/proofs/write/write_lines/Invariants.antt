use Rattle.std.proofs.Common.{take}
use Rattle.std.specs.List.{flat_map}
use Rattle.ftp_rewrite.specs.Internal.Pieces.{line_of}
use Rattle.ftp_rewrite.specs.Wrote.{WroteAll}
use Rattle.ftp_rewrite.proofs.write.write_lines.Given as goal

abbrev pub invariant-lines : goal.invariant-lines
invariant-lines g l = WroteAll (flat_map line_of (take l.line-index l.lines)) (g.K.Sink.tape l.initial.out) (g.K.Sink.tape l.out)
