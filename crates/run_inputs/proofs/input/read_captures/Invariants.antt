use Rattle.run_inputs.specs.Reading.{totals_as}
use Rattle.run_inputs.proofs.Captures.{SoFar}
use Rattle.run_inputs.proofs.input.read_captures.Given as goal

abbrev pub invariant-captures : goal.invariant-captures
invariant-captures g l =
    SoFar (g.F.Files.source l.fn.files) (g.F.Files.source l.files) l.names l.zones l.index l.captures (totals_as l.totals)
