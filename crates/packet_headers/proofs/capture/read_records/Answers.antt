use Rattle.std.proofs.Common.{rules, ◌≡◌, ◌++◌, [], ◌∷◌}
use Rattle.packet_headers.proofs.CaptureFrames.{read_more}
use Rattle.packet_headers.proofs.capture.read_records.Goals as goal

pub records-preserved : goal.records-preserved
records-preserved c =
    let longer : c.push.new.self.items ≡ c.records.frames.items ++ c.in-Ok.frame ∷ [] = search rules in
    read_more c.args.bytes.now c.args.form c.records.frames.items c.push.new.self.items c.records.at
    c.in-Ok.frame c.records.invariant c.in-Ok.ensures.exact
    c.in-Ok.ensures.inside c.in-Ok.ensures.forward c.in-Ok.ensures.timely longer
