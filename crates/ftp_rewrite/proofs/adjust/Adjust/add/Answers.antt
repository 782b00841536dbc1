use Rattle.std.proofs.Common.{◌≡◌, ◌∙◌, false, take, arith, sym, subst}
use Rattle.std.proofs.lemmas.List.{take_more_set}
use Rattle.ftp_rewrite.specs.declared.adjust.Edit.{Edit}
use Rattle.ftp_rewrite.specs.Adjust.{Adjusting}
use Rattle.ftp_rewrite.specs.Edit.{overlaps}
use Rattle.ftp_rewrite.proofs.Walks.{order_more}
use Rattle.ftp_rewrite.proofs.adjust.Adjust.add.Goals as goal

pub invariant_of-self : goal.invariant_of-self
invariant_of-self c =
    let edit : Edit = record { offset = c.offset_of.result; old_length = c.args.old; new_length = c.args.new } in
    let apart : overlaps (take c.self.inside.count c.self.inside.edits) edit ≡ false =
    subst (λ (a : Adjusting). overlaps a.edits edit ≡ false) (sym c.self.view_is) (sym c.overlaps.ensures ∙ c.if-overlaps.false) in (
      omega arith,
      rw (take_more_set c.self.inside.edits c.self.inside.count edit (omega arith))
          (order_more (take c.self.inside.count c.self.inside.edits) edit c.self.invariant.1 apart c.requires.old c.requires.new),
    )
