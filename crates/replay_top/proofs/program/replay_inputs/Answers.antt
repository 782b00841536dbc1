use Rattle.command_words.specs.Asked.{asked_as}
use Rattle.replay_top.proofs.Made.{inputs_replayed}
use Rattle.replay_top.proofs.program.replay_inputs.Goals as goal

pub returns : goal.returns
returns g c =
    inputs_replayed (asked_as c.args.asked.now) c.args.inputs c.in_ok-captures.captures.items c.in_ok-ftp.ftp c.sizes_of.result c.replay.result
    c.in_ok-captures.ensures.prepares c.in_ok-ftp.ensures c.sizes_of.ensures.exact c.replay.ensures.well_formed c.replay.ensures.heard c.replay.ensures.listened c.replay.ensures.rewrites
