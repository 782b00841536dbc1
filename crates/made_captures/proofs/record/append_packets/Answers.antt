use Rattle.std.proofs.Common.{rules, ◌≡◌, ◌++◌, ◌<◌, sym, ◌∙◌, ap}
use Rattle.std.proofs.lemmas.List.{append-nil}
use Rattle.made_captures.specs.declared.record.Moment.{Moment}
use Rattle.made_captures.specs.MadePacket.{directed, first_tuple, laid_out, made_direction}
use Rattle.made_captures.specs.Internal.FlowRecords.{later, recorded}
use Rattle.made_captures.proofs.FlowRecords.{flow_more, record_made}
use Rattle.made_captures.proofs.record.append_packets.Goals as goal

pub packets-init : goal.packets-init
packets-init c = sym (append-nil c.args.bytes.now.items)

pub packets-preserved : goal.packets-preserved
packets-preserved c =
    let first = c.first_tuple-first.ensures.exact ∙ (λ i. first_tuple c.args.proto (c.client_of.ensures i) (c.client_number.ensures i)) in
    let moment = c.later.ensures ∙ ap (λ (start : Moment). later start c.packets.step) c.requires.start in
    let below : c.packets.step < 4 = search rules in
    let longer : c.append_packet.new.bytes.items ≡ c.packets.bytes.items
    ++ recorded c.later.result (laid_out c.args.proto (directed (made_direction c.args.proto c.packets.step) c.first_tuple-first.result) c.packets.step) = search rules in
    flow_more c.args.seed c.args.thread c.args.flow c.packets.step c.args.bytes.now.items c.packets.bytes.items c.append_packet.new.bytes.items _
    c.packets.invariant longer
    (record_made c.args.seed c.args.thread c.args.flow c.packets.step c.args.proto c.first_tuple-first.result c.later.result below c.requires.proto first moment)
