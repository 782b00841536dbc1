use Rattle.std.proofs.Common.{◌+◌, ◌∙◌, ◌++◌}
use Rattle.std.specs.List.{flat_map}
use Rattle.std.proofs.lemmas.List.{append_assoc}
use Rattle.ip_reassembly.specs.Datagram.{header_bytes}
use Rattle.ip_reassembly.specs.Internal.Gathering.{part_bytes}
use Rattle.ip_reassembly.proofs.Data.{datagram_is}
use Rattle.ip_reassembly.proofs.datagram.append_datagram.Goals as goal

pub returns-clause-datagram : goal.returns-clause-datagram
returns-clause-datagram c = λ pieces gathers.
    let bytes = c.args.bytes.now in
    let group = c.args.group.now in
    c.in_ok-append_parts.ensures.parts
    ∙ (λ i. c.in_ok-append_header.ensures.header i ++ flat_map (part_bytes bytes) (c.parts.ensures i))
    ∙ append_assoc c.args.out.now.items (header_bytes bytes c.header.result (20 + c.filled-length.result)) (flat_map (part_bytes bytes) group.parts.items)
    ∙ (λ i. c.args.out.now.items ++ (header_bytes bytes (c.header.ensures i) (20 + c.filled-length.ensures i) ++ flat_map (part_bytes bytes) group.parts.items))
    ∙ (λ i. c.args.out.now.items ++ datagram_is bytes pieces group gathers c.requires.sound c.requires.whole i)
