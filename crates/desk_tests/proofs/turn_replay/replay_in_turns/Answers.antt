use Rattle.std.proofs.Common.{ap, ◌∙◌}
use Rattle.history_book.specs.Sight.{Sight}
use Rattle.replay_runs.specs.Replaying.{work_of}
use Rattle.desk_tests.proofs.turn_replay.replay_in_turns.Goals as goal

pub report-requires : goal.report-requires
report-requires g c = record {
  tracker = record { setup = c.args.setup.now; sizes = c.args.sizes.now };
  work = work_of c.args.captures.items c.args.script.now;
  ended = c.left_runs_end.ensures c.args.setup.now c.desk-desk.result.sizes c.args.sizes.now c.as_slice-list.result.now c.args.captures.items
      c.args.script.now c.desk-desk.result.tracker c.replay_on.new.desk c.leave-spot.result c.in_ok-outcome.outcome c.close-closed.result
      (ap (λ (s : Sight). s.sizes) c.desk-desk.ensures ∙ c.in_ok-book.ensures.fresh.sizes) c.as_slice-list.ensures
      c.leave-spot.ensures c.in_ok-outcome.ensures.run c.close-closed.ensures;
}

pub returns : goal.returns
returns g c =
    c.in_ok-report.ensures.well_formed (record { setup = c.args.setup.now; sizes = c.args.sizes.now }) (work_of c.args.captures.items c.args.script.now)
    (c.left_runs_end.ensures c.args.setup.now c.desk-desk.result.sizes c.args.sizes.now c.as_slice-list.result.now c.args.captures.items
    c.args.script.now c.desk-desk.result.tracker c.replay_on.new.desk c.leave-spot.result c.in_ok-outcome.outcome c.close-closed.result
    (ap (λ (s : Sight). s.sizes) c.desk-desk.ensures ∙ c.in_ok-book.ensures.fresh.sizes) c.as_slice-list.ensures
    c.leave-spot.ensures c.in_ok-outcome.ensures.run c.close-closed.ensures)
