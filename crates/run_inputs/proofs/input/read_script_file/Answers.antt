use Rattle.std.proofs.Common.{refl, rules}
use Rattle.conntrack_cmd.specs.Script.{HasFault}
use Rattle.run_inputs.specs.declared.flaw.FileKind.TheVariants as kind
use Rattle.run_inputs.specs.declared.flaw.Flaw.TheVariants as flaw
use Rattle.run_inputs.specs.declared.flaw.Refusal.TheVariants.{Flawed}
use Rattle.run_inputs.specs.Content.{no_totals}
use Rattle.run_inputs.proofs.OneByOne.{flaw_here}
use Rattle.run_inputs.proofs.input.read_script_file.Goals as goal

pub returns-in-Err-Fault-clause-reads : goal.returns-in-Err-Fault-clause-reads
returns-in-Err-Fault-clause-reads g c =
    let bytes = c.in_ok-bytes.bytes.items in
    let has : HasFault bytes c.in-Err-Fault.fault = search rules in
    let read = c.in_ok-bytes.ensures.reads in
    rw c.in-Some.is (
      flaw_here no_totals c.args.file (record { kind = kind.Script; name = c.in-Some.name.now }) (g.F.Files.source c.args.files.now)
          (g.F.Files.source c.read_input.new.files) bytes (Flawed c.args.file (flaw.Script c.in-Err-Fault.fault)) read.0.given
          (refl, (refl, read.0.fits, has)),
      λ other. read.1,
    )
