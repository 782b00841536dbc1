use Rattle.std.proofs.Common.{rules, ◌≡◌, ◌++◌, ◌*◌, ◌≤◌, min, sym, ◌∙◌, arith}
use Rattle.std.proofs.lemmas.Bool.Decides.{nat_tests}
use Rattle.made_captures.proofs.FlowRecords.{capture_flow}
use Rattle.made_captures.proofs.Records.{capture_begins}
use Rattle.made_captures.specs.MadeCapture.{file_header, made_capture}
use Rattle.made_captures.specs.Internal.FlowRecords.{flow_records}
use Rattle.made_captures.proofs.make_capture.Goals as goal

pub flows-init : goal.flows-init
flows-init c =
    let begun : c.append.new.self.items ≡ file_header = search rules in
    let none : 0 ≡ min 0 c.args.packets = omega arith in
    begun ∙ sym (capture_begins c.args.seed c.args.thread) ∙ (λ i. made_capture c.args.seed (none i) c.args.thread)

pub flows-preserved : goal.flows-preserved
flows-preserved c =
    let within : c.flows.flow * 4 ≤ c.args.packets = grind (arith, nat_tests, c.flows-test.true, c.div_ceil-flow-end.ensures) in
    let longer : c.append_flow.new.bytes.items ≡ c.flows.bytes.items ++ flow_records c.args.seed c.args.thread c.flows.flow c.min-count.result = search rules in
    capture_flow c.args.seed c.args.packets c.args.thread c.flows.flow c.min-count.result c.flows.bytes.items c.append_flow.new.bytes.items
    within c.min-count.ensures c.flows.invariant longer
