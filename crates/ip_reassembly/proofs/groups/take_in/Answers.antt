use Rattle.std.proofs.Common.{◌∙◌, length, sym}
use Rattle.ip_reassembly.proofs.Known.{complete_now, knows_complete, knows_open, open_now}
use Rattle.ip_reassembly.proofs.groups.take_in.Goals as goal

pub returns-then-is_complete-clause-knows : goal.returns-then-is_complete-clause-knows
returns-then-is_complete-clause-knows c =
    knows_complete c.args.bytes.now (length c.args.bytes.now) c.args.piece.now c.args.groups.now c.take_out-before.new.groups c.take_out-before.result c.in_ok-gathering.gathering
    c.take_out-before.ensures.value c.take_out-before.ensures.others c.in_ok-gathering.ensures.sound c.in_ok-gathering.ensures.gathers
    (sym c.is_complete.ensures ∙ c.if-is_complete.true)

pub returns-then-is_complete-clause-completes : goal.returns-then-is_complete-clause-completes
returns-then-is_complete-clause-completes c =
    complete_now c.args.bytes.now (length c.args.bytes.now) c.args.piece.now c.args.groups.now c.take_out-before.new.groups c.take_out-before.result c.in_ok-gathering.gathering
    c.take_out-before.ensures.value c.take_out-before.ensures.others c.in_ok-gathering.ensures.sound c.in_ok-gathering.ensures.gathers
    (sym c.is_complete.ensures ∙ c.if-is_complete.true)

pub returns-clause-knows : goal.returns-clause-knows
returns-clause-knows c =
    knows_open c.args.bytes.now (length c.args.bytes.now) c.args.piece.now c.args.groups.now c.take_out-before.new.groups c.take_out-before.result c.in_ok-gathering.gathering
    c.take_out-before.ensures.value c.take_out-before.ensures.others c.in_ok-gathering.ensures.sound c.in_ok-gathering.ensures.gathers
    c.keep.new.groups c.in_ok-keep.ensures (sym c.is_complete.ensures ∙ c.if-is_complete.false)

pub returns-clause-completes : goal.returns-clause-completes
returns-clause-completes c =
    open_now c.args.bytes.now (length c.args.bytes.now) c.args.piece.now c.args.groups.now c.take_out-before.new.groups c.take_out-before.result c.in_ok-gathering.gathering
    c.take_out-before.ensures.value c.take_out-before.ensures.others c.in_ok-gathering.ensures.sound c.in_ok-gathering.ensures.gathers
    (sym c.is_complete.ensures ∙ c.if-is_complete.false)
