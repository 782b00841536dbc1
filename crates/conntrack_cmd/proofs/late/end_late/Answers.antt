use Rattle.std.proofs.Common.{arith}
use Rattle.std.proofs.lemmas.List.Elements.{recursion_from_All}
use Rattle.history_book.specs.Laws.{IsExpected}
use Rattle.conntrack_cmd.proofs.Lateness.{all_at, ending_more, ending_same, ending_start, expected_grows}
use Rattle.conntrack_cmd.proofs.late.end_late.Goals as goal

pub each-init : goal.each-init
each-init g c = record {
  within = omega arith;
  ending = ending_start c.desks_go_on.ensures.all c.args.moment (g.D.Desk.sight c.args.desk.now) c.args.listed.now.items c.requires.empty c.requires.knows;
}

pub end_one-requires-clause-expected : goal.end_one-requires-clause-expected
end_one-requires-clause-expected g c =
    let s = g.D.Desk.sight c.args.desk.now in
    expected_grows c.desks_go_on.ensures.all c.desks_go_on.ensures.states c.desks_go_on.ensures.events (g.D.Desk.sight c.each.desk).front s.front c.at-e.result.now
    c.each.invariant.ending.made.went.front
    (all_at (IsExpected s.front) c.args.listed.now.items c.each.next c.at-e.result.now
    (recursion_from_All (IsExpected s.front) c.args.listed.now.items c.requires.expected) c.at-e.ensures)

pub each-preserved-then-end_one : goal.each-preserved-then-end_one
each-preserved-then-end_one g c = record {
  within = omega (arith, c.each-test.true, c.len.ensures.exact);
  ending = ending_more c.desks_go_on.ensures.all c.desks_go_on.ensures.states c.desks_go_on.ensures.events c.args.moment (g.D.Desk.sight c.args.desk.now) (g.D.Desk.sight c.each.desk)
      (g.D.Desk.sight c.end_one.new.desk) c.args.listed.now.items c.each.next c.at-e.result.now c.at-e.ensures c.if-end_one.ensures.over
      c.if-end_one.ensures.empty c.if-end_one.ensures.knows c.each.ended c.if-end_one.ensures.says.0 c.each.invariant.ending
      c.if-end_one.ensures.says.1;
}

pub each-preserved : goal.each-preserved
each-preserved g c = record {
  within = omega (arith, c.each-test.true, c.len.ensures.exact);
  ending = ending_same c.desks_go_on.ensures.all c.desks_go_on.ensures.states c.desks_go_on.ensures.events c.args.moment (g.D.Desk.sight c.args.desk.now) (g.D.Desk.sight c.each.desk)
      (g.D.Desk.sight c.end_one.new.desk) c.args.listed.now.items c.each.next c.at-e.result.now c.at-e.ensures c.if-end_one.ensures.over
      c.if-end_one.ensures.empty c.if-end_one.ensures.knows c.each.ended c.each.invariant.ending c.if-end_one.ensures.says;
}
