use Rattle.std.proofs.Common.{◌≡◌, All, Bool, true, false, Some, ap, map, refl, subst, sym, ◌∙◌}
use Rattle.std.proofs.lemmas.Option.{none-some, same_Some}
use Rattle.ftp_rewrite.specs.Sent.{LiesInIts, recorded}
use Rattle.history_book.specs.declared.report.Report.{Report}
use Rattle.packet_headers.specs.Capture.{AreInside}
use Rattle.packet_headers.specs.declared.frame.Capture.{Capture}
use Rattle.replay_top.specs.Internal.Replaying.{kept_if, kept_lines}
use Rattle.replay_top.specs.Replay.{rewrite_lines}
use Rattle.room_list.specs.Roomed.{Roomed}
use Rattle.replay_runs.specs.Replaying.{work_of}
use Rattle.shared_desk.specs.Sights.{ClerkSight, sight_of}
use Rattle.replay_top.proofs.replay.replay.Goals as goal

-- what is kept is what was there
kept_lie : (rewrite : Bool) (captures x : Roomed Capture) → kept_if rewrite captures ≡ Some x
    → All (λ (c : Capture). AreInside c.bytes.items c.frames.items) captures.items → All LiesInIts x.items
kept_lie false captures x e inside = absurd (none-some x e)
kept_lie true captures x e inside = subst (λ (y : Roomed Capture). All LiesInIts y.items) (same_Some captures x e) inside

-- and so are the lines of it
kept_are : (rewrite : Bool) (captures : Roomed Capture) (report : Report)
    → kept_lines (kept_if rewrite captures) report ≡ rewrite_lines rewrite (map recorded captures.items) report
kept_are false captures report = refl
kept_are true captures report = refl

pub rewrites_of-requires : goal.rewrites_of-requires
rewrites_of-requires g c = λ x is. kept_lie c.args.rewrite c.args.captures x (sym c.kept_if-kept.ensures ∙ is) c.requires.inside

pub report-requires : goal.report-requires
report-requires g c = record {
  tracker = record { setup = c.args.setup.now; sizes = c.args.sizes.now };
  work = work_of c.args.captures.items c.args.script.now;
  ended = c.left_runs_end.ensures c.args.setup.now (sight_of c.clerk-desk.result).sizes c.args.sizes.now c.as_slice-list.result.now c.args.captures.items
      c.args.script.now (sight_of c.clerk-desk.result).tracker (sight_of c.replay_on.new.desk) (sight_of c.leave-spot.result) c.in_ok-outcome.outcome c.close-closed.result
      (ap (λ (s : ClerkSight). (sight_of s).sizes) c.clerk-desk.ensures.same ∙ c.in_ok-tracker.ensures.fresh.sizes) c.as_slice-list.ensures
      c.leave-spot.ensures.left c.in_ok-outcome.ensures.run c.close-closed.ensures;
}

pub returns-clause-well_formed : goal.returns-clause-well_formed
returns-clause-well_formed g c =
    c.in_ok-report.ensures.well_formed (record { setup = c.args.setup.now; sizes = c.args.sizes.now }) (work_of c.args.captures.items c.args.script.now)
    (c.left_runs_end.ensures c.args.setup.now (sight_of c.clerk-desk.result).sizes c.args.sizes.now c.as_slice-list.result.now c.args.captures.items
    c.args.script.now (sight_of c.clerk-desk.result).tracker (sight_of c.replay_on.new.desk) (sight_of c.leave-spot.result) c.in_ok-outcome.outcome c.close-closed.result
    (ap (λ (s : ClerkSight). (sight_of s).sizes) c.clerk-desk.ensures.same ∙ c.in_ok-tracker.ensures.fresh.sizes) c.as_slice-list.ensures
    c.leave-spot.ensures.left c.in_ok-outcome.ensures.run c.close-closed.ensures)

pub returns-clause-heard : goal.returns-clause-heard
returns-clause-heard g c =
    c.in_ok-report.ensures.heard (record { setup = c.args.setup.now; sizes = c.args.sizes.now }) (work_of c.args.captures.items c.args.script.now)
    (c.left_runs_end.ensures c.args.setup.now (sight_of c.clerk-desk.result).sizes c.args.sizes.now c.as_slice-list.result.now c.args.captures.items
    c.args.script.now (sight_of c.clerk-desk.result).tracker (sight_of c.replay_on.new.desk) (sight_of c.leave-spot.result) c.in_ok-outcome.outcome c.close-closed.result
    (ap (λ (s : ClerkSight). (sight_of s).sizes) c.clerk-desk.ensures.same ∙ c.in_ok-tracker.ensures.fresh.sizes) c.as_slice-list.ensures
    c.leave-spot.ensures.left c.in_ok-outcome.ensures.run c.close-closed.ensures)

pub returns-clause-rewrites : goal.returns-clause-rewrites
returns-clause-rewrites g c =
    c.in_ok-rewrites.ensures ∙ ap (λ kept. kept_lines kept c.in_ok-report.report) c.kept_if-kept.ensures
    ∙ kept_are c.args.rewrite c.args.captures c.in_ok-report.report
