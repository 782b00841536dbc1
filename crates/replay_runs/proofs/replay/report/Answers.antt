use Rattle.replay_runs.proofs.Reports.{are_numbers, count_lists, covered, run_heard, run_reported}
use Rattle.replay_runs.proofs.Runs.{answers_few, each_few, threads_few}
use Rattle.replay_runs.proofs.replay.report.Goals as goal

pub merge-requires : goal.merge-requires
merge-requires c =
    let can = c.requires in
    record {
      lists = count_lists c.what_fits_still_fits.ensures.verdicts c.what_fits_still_fits.ensures.answers can.tracker can.work c.args.outcome c.args.closed c.push.new.self.items can.ended
          c.in-Ok.ensures.items;
      threads = threads_few c.args.outcome c.args.closed can;
      verdicts = each_few c.args.outcome c.args.closed can;
      answers = answers_few c.args.outcome c.args.closed can;
      numbers = are_numbers c.what_fits_still_fits.ensures.verdicts c.what_fits_still_fits.ensures.answers can.tracker can.work c.args.outcome c.args.closed c.push.new.self.items can.ended
          c.in-Ok.ensures.items;
      spans = covered c.what_fits_still_fits.ensures.verdicts c.what_fits_still_fits.ensures.answers can.tracker can.work c.args.outcome c.args.closed c.push.new.self.items can.ended
          c.in-Ok.ensures.items;
    }

pub returns-clause-well_formed : goal.returns-clause-well_formed
returns-clause-well_formed c = λ tracker work ended.
    run_reported c.what_fits_still_fits.ensures.verdicts c.what_fits_still_fits.ensures.answers tracker work c.args.outcome c.args.closed c.push.new.self.items ended
    c.in-Ok.ensures.items c.in_ok-report.report
    c.in_ok-report.ensures.merged c.in_ok-report.ensures.numbered c.in_ok-report.ensures.threads c.in_ok-report.ensures.answers c.in_ok-report.ensures.live

pub returns-clause-heard : goal.returns-clause-heard
returns-clause-heard c = λ tracker work ended.
    run_heard c.what_fits_still_fits.ensures.verdicts c.what_fits_still_fits.ensures.answers tracker work c.args.outcome c.args.closed c.push.new.self.items ended
    c.in-Ok.ensures.items c.in_ok-report.report c.in_ok-report.ensures.merged c.in_ok-report.ensures.numbered c.in_ok-report.ensures.answers
