use Rattle.std.proofs.Common.{◌≡◌, ◌∷◌, [], length, ap, arith, append_assoc, length-append, rules, ◌∙◌}
use Rattle.std.specs.Prelude.{Ok}
use Rattle.std.specs.Vec.Iter.{into_iter_items}
use Rattle.replay_runs.specs.Internal.Jobs.{IsFurther}
use Rattle.replay_runs.proofs.Ends.{gathering_next}
use Rattle.replay_runs.proofs.Joining.{joining_can, joining_next, next_further}
use Rattle.replay_runs.proofs.desks.join_in.Goals as goal

pub join-notes-requires : goal.join-notes-requires
join-notes-requires g c =
    let at = c.jobs in
    let job = c.in-Some.job in
    joining_can g.D.Desk.sight at.yielded (g.D.Desk.sight c.args.desk.now) (g.D.Desk.sight at.desk) at.lists.items at.threads.items at.invariant.joined job
    (next_further g.D.Desk.sight (g.D.Desk.sight c.args.desk.now).tracker (g.D.Desk.sight c.args.desk.now).sizes c.args.jobs.items at.yielded
    (into_iter_items at.job-iterator) (into_iter_items c.next.new.self) job c.requires.further
    (at.invariant.left ∙ c.into_iter-job-iterator.ensures.into_iter_gives.0) c.in-Some.ensures.steps.0)
    c.requires.empty

pub jobs-preserved : goal.jobs-preserved
jobs-preserved g c =
    let at = c.jobs in
    let job = c.in-Some.job in
    let steps : into_iter_items at.job-iterator ≡ job ∷ into_iter_items c.next.new.self = c.in-Some.ensures.steps.0 in
    let long = length-append at.yielded (job ∷ []) in
    let further : IsFurther (g.D.Desk.sight c.args.desk.now).tracker (g.D.Desk.sight c.args.desk.now).sizes (g.D.Desk.sight job.desk) =
    next_further g.D.Desk.sight (g.D.Desk.sight c.args.desk.now).tracker (g.D.Desk.sight c.args.desk.now).sizes c.args.jobs.items at.yielded (into_iter_items at.job-iterator)
    (into_iter_items c.next.new.self) job c.requires.further (at.invariant.left ∙ c.into_iter-job-iterator.ensures.into_iter_gives.0) steps in
    let ended : job.ended ≡ Ok tt = search rules in
    record {
      next = tt;
      finite = tt;
      left = append_assoc at.yielded (job ∷ []) (into_iter_items c.next.new.self) ∙ rw (← steps) at.invariant.left;
      count = omega (arith, at.invariant.count, c.in-Some.ensures.steps.1, ap length steps);
      gathered = gathering_next c.args.sendings.now.items at.sendings.items c.put_back.new.sendings.items at.yielded job at.invariant.gathered c.in_ok-put_back.ensures;
      joined = joining_next g.D.Desk.sight at.yielded (g.D.Desk.sight c.args.desk.now) (g.D.Desk.sight at.desk) at.lists.items at.threads.items at.invariant.joined job further
          (g.D.Desk.sight c.join-notes.new.self) c.join-notes.result c.join-notes.ensures.joins c.push_reserved.new.self.items c.push.new.self.items
          c.join-notes.ensures.knows ended c.push_reserved.ensures.items c.push.ensures.items;
      room = omega (arith, at.invariant.room, c.push_reserved.ensures.len, long);
      capacity = c.push_reserved.ensures.capacity ∙ at.invariant.capacity;
      told = omega (arith, at.invariant.told, ap length c.push.ensures.items, length-append at.threads.items (job.verdicts ∷ []), long);
      threads = omega (arith, at.invariant.threads, c.push.ensures.room);
    }
