use Rattle.std.proofs.Common.{ℕ, Some, List, [], Bor, ap, sym, ◌∙◌}
use Rattle.ct_io.specs.Source.{Stays}
use Rattle.run_inputs.specs.Reading.{totals_as}
use Rattle.run_inputs.proofs.Captures.{captures_next, captures_refused}
use Rattle.run_inputs.proofs.OneByOne.{same_faults}
use Rattle.run_inputs.proofs.input.read_captures.Goals as goal

-- what an index behind the last would give
abbrev no_name : Bor (List ℕ)
no_name = record { ref_ptr = (0, 0); now = [] }

pub returns-in-Err-clause-reads : goal.returns-in-Err-clause-reads
returns-in-Err-clause-reads g c =
    let so_far = c.captures-2.invariant in
    let stays : Stays (g.F.Files.source c.captures-2.files) (g.F.Files.source c.read_capture_file.new.files) = c.read_capture_file.ensures.stays in (
      captures_refused (g.F.Files.source c.args.files.now) (g.F.Files.source c.captures-2.files) (g.F.Files.source c.read_capture_file.new.files)
          c.args.names.now c.args.zones.now c.captures-2.index c.captures-2.captures (totals_as c.captures-2.totals) no_name so_far c.captures-test.true stays
          c.args.first c.in-Err.why c.in-Err.ensures.reads.0,
      λ other. same_faults (g.F.Files.source c.args.files.now) (g.F.Files.source c.captures-2.files) (g.F.Files.source c.read_capture_file.new.files)
          so_far.same (c.in-Err.ensures.reads.1 other),
    )

pub captures-preserved : goal.captures-preserved
captures-preserved g c =
    captures_next (g.F.Files.source c.args.files.now) (g.F.Files.source c.captures-2.files) (g.F.Files.source c.read_capture_file.new.files)
    c.args.names.now c.args.zones.now c.captures-2.index c.captures-2.captures (totals_as c.captures-2.totals) no_name c.captures-2.invariant
    c.captures-test.true c.read_capture_file.ensures.stays c.in-Ok.capture c.push.new.self (totals_as c.with_capture-totals.result)
    c.in-Ok.ensures.reads.0
    (c.zone_at-zone.ensures ∙ ap (λ (z : ℕ). Some z) (sym c.in-Ok.ensures.in_zone)) c.in-Ok.ensures.reads.1
    c.with_capture-totals.ensures c.push.ensures.items c.push.ensures.room
