use Rattle.std.proofs.Common.{◌≡◌, ◌++◌}
use Rattle.made_captures.specs.Internal.FlowRecords.{flow_records}
use Rattle.made_captures.proofs.record.append_packets.Given as goal

abbrev pub invariant-packets : goal.invariant-packets
invariant-packets l = l.bytes.items ≡ l.fn.bytes.items ++ flow_records l.seed l.thread l.flow l.step
