use Rattle.std.proofs.Common.{◌≡◌, ◌<◌, length, subst, rules}
use Rattle.std.specs.Prelude.{IfSome}
use Rattle.run_inputs.specs.Reading.{most_read, too_long, totals_as}
use Rattle.run_inputs.proofs.OneByOne.{too_long_here}
use Rattle.run_inputs.proofs.input.read_input.Goals as goal

pub returns-in-Err-TooLong-clause-reads : goal.returns-in-Err-TooLong-clause-reads
returns-in-Err-TooLong-clause-reads g c =
    let most : c.most_read.result ≡ most_read c.args.kind (totals_as c.args.before.now) = c.most_read.ensures in
    let flaw : c.too_long.result ≡ too_long c.args.kind (totals_as c.args.before.now) = c.too_long.ensures in
    let long : IfSome ((g.F.Files.source c.args.files.now).contents c.args.name.now) (λ contents. c.most_read.result < length contents) =
    c.in-Err-TooLong.ensures.too_long (search rules) in (
      rw flaw
          (too_long_here (totals_as c.args.before.now) c.args.file (record { kind = c.args.kind; name = c.args.name.now })
          (g.F.Files.source c.args.files.now) (g.F.Files.source c.read_file.new.files)
          (subst (λ m. IfSome ((g.F.Files.source c.args.files.now).contents c.args.name.now) (λ contents. m < length contents)) most long)),
      λ other. search rules,
    )
