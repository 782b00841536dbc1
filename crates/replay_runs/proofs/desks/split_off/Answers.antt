use Rattle.std.proofs.Common.{arith, refl, ◌∙◌}
use Rattle.replay_runs.proofs.Ends.{handing_next}
use Rattle.replay_runs.proofs.Splitting.{splitting_next}
use Rattle.replay_runs.proofs.desks.split_off.Goals as goal

pub captures-preserved : goal.captures-preserved
captures-preserved g c = record {
  handed = handing_next c.args.sendings.now.items c.captures-2.sendings.items c.take_first.new.self.items c.captures-2.jobs.items c.push_reserved.new.self.items
      _ c.take_first.result c.captures-2.invariant.handed c.take_first.ensures.item refl c.push_reserved.ensures.items;
  split = splitting_next g.D.Desk.sight c.args.captures.now c.captures-2.worker (g.D.Desk.sight c.args.desk.now) (g.D.Desk.sight c.captures-2.desk) (g.D.Desk.sight c.split.new.self) c.split.result
      c.captures-2.jobs.items c.push_reserved.new.self.items c.index-captures-worker.result c.in_ok-verdicts.verdicts c.take_first.result
      c.captures-2.invariant.split c.split.ensures.splits c.split.ensures.knows c.split.ensures.further_knows
      (omega (arith, c.captures-test.true)) c.index-captures-worker.is c.requires.captures c.in_ok-verdicts.ensures.empty
      (omega (arith, c.in_ok-verdicts.ensures.room, c.len.ensures.exact)) c.push_reserved.ensures.items;
  room = omega (arith, c.captures-2.invariant.room, c.push_reserved.ensures.len);
  capacity = c.push_reserved.ensures.capacity ∙ c.captures-2.invariant.capacity;
}
