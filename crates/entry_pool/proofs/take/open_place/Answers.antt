use Rattle.std.proofs.Common.{◌<◌, subst, ap, sym}
use Rattle.track_rule.specs.Sights.{PassSight, sizes_of}
use Rattle.track_rule.specs.Slots.{list_in}
use Rattle.track_rule.specs.Steps.{CanGive}
use Rattle.entry_pool.proofs.Taking.{can_give_none, can_give_taken, changed, full_is, gives, opened_is, place_below}
use Rattle.entry_pool.proofs.take.open_place.Goals as goal

pub ref_open-requires-clause-place : goal.ref_open-requires-clause-place
ref_open-requires-clause-place g c =
    let u = c.free_pop.new.self in
    let h = changed c.args.pass.now c.take_turn.new.pass u (list_in u.slots) c.take_turn.ensures c.in-Some.ensures.kept in
    let low : c.in-Some.place < (sizes_of c.args.pass.now).entries =
    place_below c.args.pass.now u (list_in c.take_turn.new.pass.slots) h (list_in u.slots).items c.in-Some.place c.in-Some.ensures.some in
    subst (λ z. c.in-Some.place < z.entries) (sym (ap sizes_of h.same)) low

pub free_give-requires-clause-whole : goal.free_give-requires-clause-whole
free_give-requires-clause-whole g c =
    let u = c.free_pop.new.self in
    let t = c.ref_open.new.self in
    let h = changed c.args.pass.now c.take_turn.new.pass u (list_in u.slots) c.take_turn.ensures c.in-Some.ensures.kept in
    subst (CanGive t.view) (sym (ap (λ (y : PassSight). list_in y.slots) c.ref_open.ensures.kept))
    (can_give_taken c.args.pass.now u (list_in c.take_turn.new.pass.slots) h (list_in u.slots) c.in-Some.place t t c.requires.calm c.in-Some.ensures.some
    c.ref_open.ensures.opens c.ref_open.ensures.kept c.in-Some.ensures.room)

pub free_give-requires-in-None-clause-whole : goal.free_give-requires-in-None-clause-whole
free_give-requires-in-None-clause-whole g c =
    let u = c.free_pop.new.self in
    let t = c.history_load.new.self in
    let h = changed c.args.pass.now c.take_turn.new.pass u (list_in u.slots) c.take_turn.ensures c.in-None.ensures.kept in
    subst (CanGive t.view) (sym (ap (λ (y : PassSight). list_in y.slots) c.history_load.ensures.kept))
    (can_give_none c.args.pass.now u (list_in c.take_turn.new.pass.slots) h (list_in u.slots) c.history_load.result c.events_in-at.result t t c.requires.calm
    c.in-None.ensures.none.0 c.in-None.ensures.none.1 c.history_load.ensures.looks c.history_load.ensures.kept c.in-None.ensures.room)

pub returns-in-Some-clause-says : goal.returns-in-Some-clause-says
returns-in-Some-clause-says g c =
    let u = c.free_pop.new.self in
    let t = c.ref_open.new.self in
    let w = c.free_give.new.self in
    let h = changed c.args.pass.now c.take_turn.new.pass u (list_in u.slots) c.take_turn.ensures c.in-Some.ensures.kept in
    opened_is c.args.pass.now u (list_in c.take_turn.new.pass.slots) h (list_in u.slots) c.in-Some.place t w c.requires.calm c.in-Some.ensures.some
    c.ref_open.ensures.opens c.ref_open.ensures.kept (gives t w (list_in u.slots) (ap (λ (y : PassSight). list_in y.slots) c.ref_open.ensures.kept) c.free_give.ensures)

pub returns-in-Some-clause-below : goal.returns-in-Some-clause-below
returns-in-Some-clause-below g c =
    let u = c.free_pop.new.self in
    let h = changed c.args.pass.now c.take_turn.new.pass u (list_in u.slots) c.take_turn.ensures c.in-Some.ensures.kept in
    place_below c.args.pass.now u (list_in c.take_turn.new.pass.slots) h (list_in u.slots).items c.in-Some.place c.in-Some.ensures.some

pub returns-in-None-clause-says : goal.returns-in-None-clause-says
returns-in-None-clause-says g c =
    let u = c.free_pop.new.self in
    let t = c.history_load.new.self in
    let w = c.free_give-in-None.new.self in
    let h = changed c.args.pass.now c.take_turn.new.pass u (list_in u.slots) c.take_turn.ensures c.in-None.ensures.kept in
    full_is c.args.pass.now u (list_in c.take_turn.new.pass.slots) h (list_in u.slots) c.history_load.result c.events_in-at.result t w c.requires.calm
    c.in-None.ensures.none.0 c.in-None.ensures.none.1 c.history_load.ensures.looks c.history_load.ensures.kept c.events_in-at.ensures
    (gives t w (list_in u.slots) (ap (λ (y : PassSight). list_in y.slots) c.history_load.ensures.kept) c.free_give-in-None.ensures)
