use Rattle.std.proofs.Common.{◌∷◌, ◌++◌, [], ◌∙◌, subst, sym}
use Rattle.packet_headers.specs.declared.frame.Link.TheVariants.{Raw}
use Rattle.ip_reassembly.specs.Group.{group_of}
use Rattle.ip_reassembly.specs.Internal.Knowing.{Completes}
use Rattle.ip_reassembly.proofs.Reread.{completed, datagram_frame_of, still_open}
use Rattle.ip_reassembly.proofs.reassembly.reread.Goals as goal

pub returns-in_default-2-clause-becomes : goal.returns-in_default-2-clause-becomes
returns-in_default-2-clause-becomes c =
    still_open c.args.bytes.now c.args.frame c.in-Some.piece c.args.groups.now c.take_in.new.groups c.args.made.now.items
    (sym c.piece_of.ensures.exact ∙ c.in-Some.is) c.in_ok-group.ensures.knows
    (λ pieces knows. subst (Completes c.args.bytes.now (group_of c.args.bytes.now c.in-Some.piece.key (pieces ++ c.in-Some.piece ∷ []))) c.in_default-2.is
    (c.in_ok-group.ensures.completes pieces knows))

pub returns-clause-becomes : goal.returns-clause-becomes
returns-clause-becomes c =
    completed c.args.bytes.now c.args.frame
    (record { moment = c.args.frame.moment; start = c.in_ok-start.start; captured = c.in_ok-length.length; original = c.in_ok-length.length; link = Raw })
    c.in-Some.piece c.in-Some-2.group c.args.groups.now c.take_in.new.groups c.args.made.now.items c.append_datagram.new.out.items c.in_ok-length.length
    (sym c.piece_of.ensures.exact ∙ c.in-Some.is) c.in_ok-group.ensures.knows
    (λ pieces knows. subst (Completes c.args.bytes.now (group_of c.args.bytes.now c.in-Some.piece.key (pieces ++ c.in-Some.piece ∷ []))) c.in-Some-2.is
    (c.in_ok-group.ensures.completes pieces knows))
    c.in_ok-length.ensures.datagram c.in_ok-length.ensures.length
    (λ i. datagram_frame_of c.args.frame.moment (c.in_ok-start.ensures i) c.in_ok-length.length)
