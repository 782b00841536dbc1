use Rattle.std.proofs.Common.{◌-◌, arith, refl, ◌∙◌}
use Rattle.replay_runs.specs.Internal.Telling.{line_now}
use Rattle.replay_runs.proofs.Along.{along_more}
use Rattle.replay_runs.proofs.Scripts.{answered_next, answered_start}
use Rattle.replay_runs.proofs.script_run.run_script.Goals as goal

pub commands-init : goal.commands-init
commands-init g c = record {
  answered = answered_start c.going_on_adds_up.ensures.all c.args.commands.now c.args.shared.now.moment c.args.first (g.D.Desk.sight c.args.desk.now)
      c.args.thread.now.answers c.requires.can.known c.requires.can.empty;
  told = c.requires.told;
  queue = refl;
}

pub tell-requires : goal.tell-requires
tell-requires g c =
    along_more (g.D.Desk.sight c.commands.desk).own (g.D.Desk.sight c.perform.new.desk).own c.in_ok-answer.ensures.performed.own c.in_ok-answer.ensures.performed.went.own
    (line_now c.args.shared.now.line) c.commands.thread.sending c.commands.invariant.told

pub commands-preserved : goal.commands-preserved
commands-preserved g c = record {
  told = c.tell.ensures.told;
  queue = c.tell.ensures.queue ∙ c.commands.invariant.queue;
  answered = answered_next c.going_on_adds_up.ensures.all c.answers_still_fit.ensures c.lower_marks_fit.ensures c.args.commands.now _
      c.args.shared.now.moment c.args.first c.commands.command-index (c.made.result - c.args.first)
      (g.D.Desk.sight c.args.desk.now) (g.D.Desk.sight c.commands.desk) (g.D.Desk.sight c.perform.new.desk)
      c.args.thread.now.answers c.commands.thread.answers c.push.new.self c.in_ok-answer.answer c.commands.invariant.answered
      c.in_ok-answer.ensures.performed c.in_ok-answer.ensures.knows (omega (arith, c.made.ensures.exact, c.requires.can.made))
      (omega (arith, c.commands-test.true)) c.requires.can.small c.push.ensures.items
      c.push.ensures.room;
}
