use Rattle.run_inputs.specs.declared.flaw.FileKind.TheVariants as kind
use Rattle.run_inputs.specs.Reading.{totals_as}
use Rattle.run_inputs.proofs.OneByOne.{flaw_here}
use Rattle.run_inputs.proofs.input.read_capture_file.Goals as goal

pub returns-in-Err-clause-reads : goal.returns-in-Err-clause-reads
returns-in-Err-clause-reads g c =
    let read = c.in_ok-bytes.ensures.reads in (
      flaw_here (totals_as c.args.before.now) c.args.file (record { kind = kind.Capture; name = c.args.name.now })
          (g.F.Files.source c.args.files.now) (g.F.Files.source c.read_input.new.files) c.in_ok-bytes.bytes.items c.in-Err.why
          read.0.given c.in-Err.ensures.read,
      λ other. read.1,
    )
