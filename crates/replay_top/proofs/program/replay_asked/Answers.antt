use Rattle.command_words.specs.Asked.{asked_as}
use Rattle.replay_top.proofs.Made.{captures_counted, replay_made}
use Rattle.replay_top.proofs.program.replay_asked.Goals as goal

pub replay_inputs-requires-clause-counted : goal.replay_inputs-requires-clause-counted
replay_inputs-requires-clause-counted g c κs within =
    captures_counted (g.F.Files.source c.args.files.now) (asked_as c.args.asked.now) c.in_ok-inputs.inputs c.in_ok-inputs.ensures.reads.0

pub returns-clause-replays : goal.returns-clause-replays
returns-clause-replays g c = (
  replay_made (g.F.Files.source c.args.files.now) (asked_as c.args.asked.now) c.in_ok-inputs.inputs c.in_ok-made.made c.in_ok-inputs.ensures.reads.0
      c.in_ok-made.ensures,
  c.in_ok-inputs.ensures.reads.1,
)
