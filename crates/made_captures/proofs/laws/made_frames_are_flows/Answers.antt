use Rattle.made_captures.proofs.Flows.{made_is_flow}
use Rattle.made_captures.proofs.laws.made_frames_are_flows.Goals as goal

pub returns : goal.returns
returns c = made_is_flow c.udp_layouts_are_flows.ensures c.tcp_layouts_are_flows.ensures c.icmp_layouts_are_flows.ensures
