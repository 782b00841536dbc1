use Rattle.std.proofs.Common.{subst, sym, ◌∙◌}
use Rattle.command_words.specs.Asked.{asked_as}
use Rattle.replay_top.specs.declared.ending.Ending.{Ending}
use Rattle.replay_top.specs.Internal.Ending.{Ends}
use Rattle.replay_top.proofs.Printing.{ends_so}
use Rattle.replay_top.proofs.program.run.Goals as goal

pub returns-clause-ends : goal.returns-clause-ends
returns-clause-ends g c =
    subst (λ (ending : Ending). Ends (asked_as c.args.asked.now) (g.F.Files.source c.args.files.now) (g.F.Files.source c.replay_asked.new.files)
    (g.K.Sink.tape c.args.out.now) (g.K.Sink.tape c.print-written.new.out) ending) (sym c.ended.ensures)
    (ends_so (g.F.Files.source c.args.files.now) (g.F.Files.source c.replay_asked.new.files) (asked_as c.args.asked.now) c.in-Ok.made
    (g.K.Sink.tape c.args.out.now) (g.K.Sink.tape c.print-written.new.out) c.as_slice.result.now c.in-Ok.ensures.replays.0 c.in-Ok.ensures.replays.1
    (c.as_slice.ensures ∙ c.in-Ok-counts_of.ensures) c.print-written.result c.print-written.ensures.wrote)
