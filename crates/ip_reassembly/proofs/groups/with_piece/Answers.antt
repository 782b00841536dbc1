use Rattle.std.proofs.Common.{◌∙◌, length, subst, sym}
use Rattle.std.specs.Prelude.{IfSome, Option}
use Rattle.ip_reassembly.specs.declared.gathering.Gathering.{Gathering}
use Rattle.ip_reassembly.specs.Internal.Gathering.{IsSound}
use Rattle.ip_reassembly.specs.Internal.Knowing.{Tells}
use Rattle.ip_reassembly.proofs.Known.{with_more}
use Rattle.ip_reassembly.proofs.groups.with_piece.Goals as goal

pub returns-clause-gathers : goal.returns-clause-gathers
returns-clause-gathers c = λ group tells.
    with_more c.args.bytes.now c.args.piece.now (length c.args.bytes.now) c.in-Some.gathering c.join.new.self
    (sym c.is_over.ensures ∙ c.if-is_over.false)
    (subst (λ (o : Option Gathering). IfSome o (IsSound (length c.args.bytes.now))) c.in-Some.is c.requires.sound)
    c.in_ok-join.ensures.joined group (subst (Tells c.args.bytes.now group) c.in-Some.is tells)
