use Rattle.nat_setup.proofs.Searching.{goes_on}
use Rattle.nat_setup.proofs.search.search_stretch.Goals as goal

pub loop-number-preserved : goal.loop-number-preserved
loop-number-preserved g c = (
  goes_on c.desks_go_on.ensures.states c.desks_go_on.ensures.twice c.args.rule.now c.args.t.now c.reply_with-reply.result (record c.args.stretch { end = c.loop-number.number })
      (g.D.Desk.sight c.args.desk.now) (g.D.Desk.sight c.loop-number.desk) (g.D.Desk.sight c.look.new.desk) c.loop-number.to c.in-Taken.at
      c.loop-number.invariant.0 c.in-Taken.ensures.same c.reply_with-reply.ensures.exact c.in-Taken.ensures.says,
  c.in-Taken.ensures.knows,
)
