use Rattle.std.proofs.Common.{rules, ◌/◌, length, arith}
use Rattle.std.specs.List.{AllByRecursion, AllZip}
use Rattle.std.proofs.lemmas.Slice.Zip.{AllZip-long}
use Rattle.replay_runs.specs.Internal.Jobs.{IsSet}
use Rattle.replay_runs.specs.Internal.Telling.{IsReady, line_now, Told}
use Rattle.replay_runs.proofs.Halves.{each_back, each_front, halves_ran, halves_zip, zip_back, zip_front}
use Rattle.replay_runs.proofs.jobs.+fn-run_jobs-join_mut+arg2+fn-run_jobs-join_mut+arg3+run_jobs.Goals as goal

pub split_at_mut-left-requires : goal.split_at_mut-left-requires
split_at_mut-left-requires g t c =
    omega (arith, AllZip-long (IsSet g.D.Desk.sight) c.args.captures.now c.args.jobs.now c.requires.set)

pub join_mut-requires-after_bounds : goal.join_mut-requires-after_bounds
join_mut-requires-after_bounds g t c κs within =
    let half = length c.args.captures.now / 2 in
    let left : AllZip (IsSet g.D.Desk.sight) c.split_at.result.0.now c.split_at_mut-left.result.0.now =
    zip_front (IsSet g.D.Desk.sight) half c.args.captures.now c.split_at.result.0.now c.args.jobs.now c.split_at_mut-left.result.0.now
    c.requires.set c.split_at.ensures.front c.split_at_mut-left.ensures.front in
    let right : AllZip (IsSet g.D.Desk.sight) c.split_at.result.1.now c.split_at_mut-left.result.1.now =
    zip_back (IsSet g.D.Desk.sight) half c.args.captures.now c.split_at.result.1.now c.args.jobs.now c.split_at_mut-left.result.1.now
    c.requires.set c.split_at.ensures.back c.split_at_mut-left.ensures.back in
    let left_ready : AllByRecursion (IsReady g.D.Desk.sight (line_now c.args.shared.now.line)) c.split_at_mut-left.result.0.now =
    each_front (IsReady g.D.Desk.sight (line_now c.args.shared.now.line)) half c.args.jobs.now c.split_at_mut-left.result.0.now c.requires.ready
    c.split_at_mut-left.ensures.front in
    let right_ready : AllByRecursion (IsReady g.D.Desk.sight (line_now c.args.shared.now.line)) c.split_at_mut-left.result.1.now =
    each_back (IsReady g.D.Desk.sight (line_now c.args.shared.now.line)) half c.args.jobs.now c.split_at_mut-left.result.1.now c.requires.ready
    c.split_at_mut-left.ensures.back in
    search rules

pub returns-clause-told : goal.returns-clause-told
returns-clause-told g t c =
    halves_zip (Told g.D.Desk.sight (line_now c.args.shared.now.line)) (length c.args.captures.now / 2) c.args.jobs.now
    c.split_at_mut-left.result.0.now c.split_at_mut-left.result.1.now c.left-1.given.0 c.right-1.given.0
    c.split_at_mut-left.ensures.front c.split_at_mut-left.ensures.back (search rules) (search rules)

pub returns-clause-ran : goal.returns-clause-ran
returns-clause-ran g t c =
    halves_ran g.D.Desk.sight c.args.shared.now.setup.now (length c.args.captures.now / 2)
    c.args.captures.now c.split_at.result.0.now c.split_at.result.1.now c.args.jobs.now
    c.split_at_mut-left.result.0.now c.split_at_mut-left.result.1.now c.left-1.given.0 c.right-1.given.0
    c.split_at.ensures.front c.split_at.ensures.back c.split_at_mut-left.ensures.front c.split_at_mut-left.ensures.back
    (search rules) (search rules)
