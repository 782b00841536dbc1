use Rattle.std.proofs.Common.{◌≡◌, min, length, rules, ap, arith}
use Rattle.replay_runs.specs.Internal.Telling.{HasTold}
use Rattle.replay_runs.proofs.Along.{no_line}
use Rattle.replay_runs.proofs.Finishing.{first_can, run_done, then_can, then_room}
use Rattle.replay_runs.proofs.replay.run_all.Goals as goal

pub run_told-requires-clause-can : goal.run_told-requires-clause-can
run_told-requires-clause-can g c κs within =
    first_can c.args.captures.now c.as_slice-commands.result.now c.split_at.result.0.now c.args.shared.now.moment c.min.result (g.D.Desk.sight c.args.desk.now)
    c.requires.limits c.requires.fresh c.requires.knows c.requires.moment c.requires.captures
    (omega (arith, ap length c.as_slice-commands.ensures, c.requires.commands)) (rw c.as_slice-commands.ensures c.requires.named)
    c.split_at.ensures.front

pub run_script-requires-clause-can : goal.run_script-requires-clause-can
run_script-requires-clause-can g c =
    then_can c.args.shared.now c.args.captures.now c.as_slice-commands.result.now c.split_at.result.0.now c.split_at.result.1.now c.min.result
    (g.D.Desk.sight c.args.desk.now) (g.D.Desk.sight c.run_told.new.desk) c.in_ok-joined.joined c.run_told.new.thread.answers c.in_ok-joined.ensures.run
    (first_can c.args.captures.now c.as_slice-commands.result.now c.split_at.result.0.now c.args.shared.now.moment c.min.result (g.D.Desk.sight c.args.desk.now)
    c.requires.limits c.requires.fresh c.requires.knows c.requires.moment c.requires.captures
    (omega (arith, ap length c.as_slice-commands.ensures, c.requires.commands)) (rw c.as_slice-commands.ensures c.requires.named)
    c.split_at.ensures.front)
    (omega (arith, ap length c.as_slice-commands.ensures, c.requires.commands)) c.split_at.ensures.front c.split_at.ensures.back
    c.made-made.result c.made-made.ensures.exact (rw c.as_slice-commands.ensures c.requires.named)

pub run_script-requires-clause-room : goal.run_script-requires-clause-room
run_script-requires-clause-room g c =
    then_room c.args.shared.now c.args.captures.now c.as_slice-commands.result.now c.split_at.result.0.now c.split_at.result.1.now c.min.result
    (g.D.Desk.sight c.args.desk.now) (g.D.Desk.sight c.run_told.new.desk) c.in_ok-joined.joined c.run_told.new.thread.answers c.in_ok-joined.ensures.run
    (first_can c.args.captures.now c.as_slice-commands.result.now c.split_at.result.0.now c.args.shared.now.moment c.min.result (g.D.Desk.sight c.args.desk.now)
    c.requires.limits c.requires.fresh c.requires.knows c.requires.moment c.requires.captures
    (omega (arith, ap length c.as_slice-commands.ensures, c.requires.commands)) (rw c.as_slice-commands.ensures c.requires.named)
    c.split_at.ensures.front)
    (omega (arith, ap length c.as_slice-commands.ensures, c.requires.commands)) c.split_at.ensures.front c.split_at.ensures.back
    (omega (arith, c.in_ok-answers.ensures.room, c.in_ok-joined.ensures.room))

pub run_script-requires-clause-told : goal.run_script-requires-clause-told
run_script-requires-clause-told g c =
    no_line (HasTold (g.D.Desk.sight c.run_told.new.desk).own) c.args.shared.now.line c.run_told.new.thread.sending c.requires.no_line
    c.in_ok-joined.ensures.given_back

pub returns-clause-run : goal.returns-clause-run
returns-clause-run g c =
    let count : c.min.result ≡ min (length c.args.script.now.commands.items) c.args.script.now.wait = search rules in
    run_done c.what_fits_still_fits.ensures.verdicts c.what_fits_still_fits.ensures.answers c.args.shared.now c.args.captures.now c.args.script.now (g.D.Desk.sight c.args.desk.now)
    (g.D.Desk.sight c.run_told.new.desk) (g.D.Desk.sight c.run_script.new.desk) c.in_ok-joined.joined c.split_at.result.0.now c.split_at.result.1.now
    c.run_told.new.thread.answers.items c.run_script.new.thread.answers c.min.result
    c.requires.fresh c.in_ok-joined.ensures.run
    (rw (← c.made-made.ensures.exact) c.in_ok-run_script.ensures.performed) count
    (rw (← c.as_slice-commands.ensures) c.split_at.ensures.front) (rw (← c.as_slice-commands.ensures) c.split_at.ensures.back)
    c.in_ok-joined.heard c.in_ok-joined.ensures.heard
    c.requires.moment c.requires.passes c.requires.few c.requires.captures c.requires.commands
