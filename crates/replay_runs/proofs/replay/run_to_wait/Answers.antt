use Rattle.std.proofs.Common.{◌≡◌, ◌+◌, ◌++◌, List, length, take, drop, refl, rules, subst}
use Rattle.replay_runs.specs.declared.jobs.Job.{Job}
use Rattle.replay_runs.specs.Internal.Jobs.{AllRan, HasJoined}
use Rattle.replay_runs.specs.Internal.Telling.{line_now}
use Rattle.replay_runs.proofs.Beginning.{further_now, run_together, written}
use Rattle.replay_runs.proofs.Ends.{laid_hears}
use Rattle.replay_runs.proofs.Waiting.{all_gathered, can_run}
use Rattle.replay_runs.proofs.replay.run_to_wait.Goals as goal

pub run_threads-requires-clause-can : goal.run_threads-requires-clause-can
run_threads-requires-clause-can g c κs within =
    can_run g.D.Desk.sight c.args.shared.now c.args.captures.now (g.D.Desk.sight c.args.desk.now) (g.D.Desk.sight c.split_off.new.desk)
    c.in_ok-jobs.jobs.items c.as_mut_slice.result.now c.args.hearing.now c.args.sendings.now.items c.split_off.new.sendings.items
    c.take_first.new.self.items c.take_first.result c.in_ok-jobs.ensures.split c.as_mut_slice.ensures.value c.in_ok-jobs.ensures.handed
    c.take_first.ensures.item c.requires.laid c.args.commands.now (record { answers = c.args.thread.now.answers; sending = c.take_first.result })
    c.requires.fresh c.requires.lawful c.requires.few c.requires.can refl c.requires.room

pub run_threads-requires-clause-hears : goal.run_threads-requires-clause-hears
run_threads-requires-clause-hears g c κs within =
    laid_hears (length c.args.captures.now + 1) (line_now c.args.shared.now.line) c.args.hearing.now c.args.sendings.now.items c.requires.laid

pub join_in-requires-clause-further : goal.join_in-requires-clause-further
join_in-requires-clause-further g c =
    let done = c.run_threads.new.jobs in
    let all : length done ≡ c.in_ok-jobs.jobs.len = search rules in
    let ran : AllRan g.D.Desk.sight c.args.shared.now.setup.now c.args.captures.now c.in_ok-jobs.jobs.items done =
    subst (λ os. AllRan g.D.Desk.sight c.args.shared.now.setup.now c.args.captures.now os done) c.as_mut_slice.ensures.value c.run_threads.ensures.run.ran in
    further_now g.D.Desk.sight c.args.shared.now.setup.now c.args.captures.now c.args.commands.now c.args.shared.now.moment (g.D.Desk.sight c.args.desk.now)
    (g.D.Desk.sight c.split_off.new.desk) (g.D.Desk.sight c.run_threads.new.desk) c.in_ok-jobs.jobs.items done
    (take c.in_ok-jobs.jobs.len (done ++ drop (length done) c.in_ok-jobs.jobs.items))
    c.args.thread.now.answers.items c.run_threads.new.thread.answers.items
    c.in_ok-jobs.ensures.split ran c.in_ok-run_threads.ensures.run.performed
    (written c.in_ok-jobs.jobs.len done c.in_ok-jobs.jobs.items all)

pub returns-clause-run : goal.returns-clause-run
returns-clause-run g c =
    let done = c.run_threads.new.jobs in
    let all : length done ≡ c.in_ok-jobs.jobs.len = search rules in
    let ran : AllRan g.D.Desk.sight c.args.shared.now.setup.now c.args.captures.now c.in_ok-jobs.jobs.items done =
    subst (λ os. AllRan g.D.Desk.sight c.args.shared.now.setup.now c.args.captures.now os done) c.as_mut_slice.ensures.value c.run_threads.ensures.run.ran in
    run_together g.D.Desk.sight c.what_fits_still_fits.ensures.verdicts c.what_fits_still_fits.ensures.answers c.args.shared.now c.args.captures.now c.args.commands.now (g.D.Desk.sight c.args.desk.now)
    (g.D.Desk.sight c.split_off.new.desk) (g.D.Desk.sight c.run_threads.new.desk) (g.D.Desk.sight c.join_in.new.desk) c.in_ok-jobs.jobs.items done
    c.in_ok-joined.joined c.args.thread.now.answers.items c.run_threads.new.thread.answers.items
    c.requires.fresh c.in_ok-jobs.ensures.split ran c.in_ok-run_threads.ensures.run.performed
    (subst (λ (js : List (Job g.row.D.Denot)). HasJoined g.D.Desk.sight js (g.D.Desk.sight c.run_threads.new.desk) (g.D.Desk.sight c.join_in.new.desk)
    c.in_ok-joined.joined.lists.items c.in_ok-joined.joined.threads.items)
    (written c.in_ok-jobs.jobs.len done c.in_ok-jobs.jobs.items all) c.in_ok-joined.ensures.joined)
    c.requires.none

pub returns-clause-ends : goal.returns-clause-ends
returns-clause-ends g c =
    let done = c.run_threads.new.jobs in
    let all : length done ≡ c.in_ok-jobs.jobs.len = search rules in
    (all_gathered g.D.Desk.sight c.args.shared.now c.args.captures.now (g.D.Desk.sight c.args.desk.now) (g.D.Desk.sight c.split_off.new.desk)
    c.in_ok-jobs.jobs.items c.as_mut_slice.result.now c.args.hearing.now c.args.sendings.now.items c.split_off.new.sendings.items
    c.take_first.new.self.items c.take_first.result c.in_ok-jobs.ensures.split c.as_mut_slice.ensures.value c.in_ok-jobs.ensures.handed
    c.take_first.ensures.item c.requires.laid (g.D.Desk.sight c.run_threads.new.desk) (g.D.Desk.sight c.join_in.new.desk) done
    (take c.in_ok-jobs.jobs.len (done ++ drop (length done) c.in_ok-jobs.jobs.items)) c.run_threads.new.hearing c.join_in.new.sendings.items
    c.put_back.new.sendings.items c.run_threads.new.thread.sending c.take.result c.in_ok-joined.joined c.run_threads.ensures.run.all_told
    (written c.in_ok-jobs.jobs.len done c.in_ok-jobs.jobs.items all) c.in_ok-joined.ensures.joined c.in_ok-run_threads.ensures.run.told
    c.run_threads.ensures.run.queue c.run_threads.ensures.hears c.in_ok-joined.ensures.gathered c.in_ok-put_back.ensures c.take.ensures.value).0

pub returns-clause-told : goal.returns-clause-told
returns-clause-told g c =
    let done = c.run_threads.new.jobs in
    let all : length done ≡ c.in_ok-jobs.jobs.len = search rules in
    (all_gathered g.D.Desk.sight c.args.shared.now c.args.captures.now (g.D.Desk.sight c.args.desk.now) (g.D.Desk.sight c.split_off.new.desk)
    c.in_ok-jobs.jobs.items c.as_mut_slice.result.now c.args.hearing.now c.args.sendings.now.items c.split_off.new.sendings.items
    c.take_first.new.self.items c.take_first.result c.in_ok-jobs.ensures.split c.as_mut_slice.ensures.value c.in_ok-jobs.ensures.handed
    c.take_first.ensures.item c.requires.laid (g.D.Desk.sight c.run_threads.new.desk) (g.D.Desk.sight c.join_in.new.desk) done
    (take c.in_ok-jobs.jobs.len (done ++ drop (length done) c.in_ok-jobs.jobs.items)) c.run_threads.new.hearing c.join_in.new.sendings.items
    c.put_back.new.sendings.items c.run_threads.new.thread.sending c.take.result c.in_ok-joined.joined c.run_threads.ensures.run.all_told
    (written c.in_ok-jobs.jobs.len done c.in_ok-jobs.jobs.items all) c.in_ok-joined.ensures.joined c.in_ok-run_threads.ensures.run.told
    c.run_threads.ensures.run.queue c.run_threads.ensures.hears c.in_ok-joined.ensures.gathered c.in_ok-put_back.ensures c.take.ensures.value).1
