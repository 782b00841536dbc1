use Rattle.std.proofs.Common.{◌≡◌, ◌+◌, ◌-◌, ◌<◌, ◌≤◌, length, vec_len, true}
use Rattle.ct_io.specs.Source.{SameFaults, Stays}
use Rattle.run_inputs.specs.Causes.{ReadSoFar}
use Rattle.run_inputs.proofs.read.read_file.Given as goal

abbrev pub invariant-pieces : goal.invariant-pieces
invariant-pieces g l = record {
  piece : 0 < vec_len l.piece;
  within : length l.bytes.items ≤ l.most;
  is_open : (g.F.Files.source l.files).is_open ≡ true;
  so_far : ReadSoFar ((g.F.Files.source l.fn.files).contents l.fn.name) l.bytes.items (g.F.Files.source l.files).left;
  stays : Stays (g.F.Files.source l.fn.files) (g.F.Files.source l.files);
  same_faults : SameFaults (g.F.Files.source l.fn.files) (g.F.Files.source l.files);
}

abbrev pub decreases-pieces : goal.decreases-pieces
decreases-pieces g l = l.most + 1 - length l.bytes.items
