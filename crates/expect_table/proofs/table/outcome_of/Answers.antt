use Rattle.std.proofs.Common.{◌∙◌, ap, sym, length, cond}
use Rattle.std.proofs.lemmas.Bool.{lt-ltb, le-ltb}
use Rattle.std.proofs.lemmas.Option.{slice_get-get_or}
use Rattle.expect_table.specs.declared.table.AddOutcome.TheVariants.{Added, Full}
use Rattle.std.proofs.Common.{None}
use Rattle.expect_table.specs.Match.{is_of}
use Rattle.expect_table.proofs.Adding.{adds_by_room, adds_over}
use Rattle.expect_table.proofs.Removal.{first_at, found_within, none_found}
use Rattle.expect_table.proofs.table.outcome_of.Goals as goal

pub returns-in-Some-index_of_master : goal.returns-in-Some-index_of_master
returns-in-Some-index_of_master c =
    let at = sym c.index_of_master.ensures ∙ c.in-Some-index_of_master.is in
    sym (adds_over c.args.room c.args.items.now c.args.e.now c.args.moment _ (sym c.first_rival.ensures ∙ c.in_default.is)
    (first_at (is_of c.args.e.now.master) c.args.items.now c.in-Some-index_of_master.index _ at
    (slice_get-get_or c.args.items.now c.in-Some-index_of_master.index _
    (found_within (is_of c.args.e.now.master) c.args.items.now c.in-Some-index_of_master.index at))))

pub returns-then-items-room : goal.returns-then-items-room
returns-then-items-room c =
    sym (adds_by_room c.args.room c.args.items.now c.args.e.now c.args.moment (sym c.first_rival.ensures ∙ c.in_default.is)
    (none_found (is_of c.args.e.now.master) c.args.items.now (sym c.index_of_master.ensures ∙ c.in_default-index_of_master.is))
    ∙ ap (λ b. cond b (Added None) Full) (lt-ltb (length c.args.items.now) c.args.room c.if-items-room.true))

pub returns-else-items-room : goal.returns-else-items-room
returns-else-items-room c =
    sym (adds_by_room c.args.room c.args.items.now c.args.e.now c.args.moment (sym c.first_rival.ensures ∙ c.in_default.is)
    (none_found (is_of c.args.e.now.master) c.args.items.now (sym c.index_of_master.ensures ∙ c.in_default-index_of_master.is))
    ∙ ap (λ b. cond b (Added None) Full) (le-ltb (length c.args.items.now) c.args.room c.if-items-room.false))
