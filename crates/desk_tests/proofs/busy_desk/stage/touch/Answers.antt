use Rattle.std.proofs.Common.{◌≡◌, rules, true}
use Rattle.proto_rules.specs.Protocol.{is_of_protocol}
use Rattle.desk_tests.proofs.BusyDesk.{read_protocol, went_after, went_touch}
use Rattle.desk_tests.proofs.busy_desk.stage.touch.Goals as goal

pub touch-requires-clause-protocol : goal.touch-requires-clause-protocol
touch-requires-clause-protocol g c =
    let of : is_of_protocol c.args.segment c.in-Seen.subject.part.kind ≡ true = search rules in
    read_protocol c.entries_keep_their_protocol.ensures c.args.place c.args.segment c.args.desk.now c.peek.new.self c.in-Seen.subject
    c.in-Seen.at c.peek.ensures.knows c.in-Seen.ensures.says of

pub returns : goal.returns
returns g c =
    went_after c.args.desk.now c.peek.new.self c.touch.new.self 1 0 c.in-Seen.ensures.says.0.saw c.in-Seen.ensures.says.1
    (went_touch c.args.place c.args.direction c.args.segment c.args.moment c.peek.new.self c.touch.new.self c.touch.result
    c.touch.ensures.says c.touch.ensures.knows)
