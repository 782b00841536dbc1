use Rattle.track_rule.specs.Slots.{list_in}
use Rattle.entry_pool.proofs.Taking.{can_give_back, changed, given_back_is, gives, has_room}
use Rattle.std.proofs.Common.{refl}
use Rattle.entry_pool.proofs.take.give_place.Goals as goal

pub free_push-requires-clause-room : goal.free_push-requires-clause-room
free_push-requires-clause-room g c = has_room c.args.pass.now c.take_turn.new.pass c.args.place c.take_turn.ensures c.requires.owed

pub free_give-requires-clause-whole : goal.free_give-requires-clause-whole
free_give-requires-clause-whole g c =
    let u = c.free_push.new.self in
    let h = changed c.args.pass.now c.take_turn.new.pass u (list_in u.slots) c.take_turn.ensures c.free_push.ensures.kept in
    can_give_back c.args.pass.now u (list_in c.take_turn.new.pass.slots) h (list_in u.slots) c.args.place u
    c.requires.calm c.free_push.ensures.items c.requires.owed c.requires.clear c.free_push.ensures.same_room

pub returns : goal.returns
returns g c =
    let u = c.free_push.new.self in
    let h = changed c.args.pass.now c.take_turn.new.pass u (list_in u.slots) c.take_turn.ensures c.free_push.ensures.kept in
    given_back_is c.args.pass.now u (list_in c.take_turn.new.pass.slots) h (list_in u.slots) c.args.place c.free_give.new.self
    c.requires.calm c.free_push.ensures.items c.requires.owed c.requires.clear (gives u c.free_give.new.self (list_in u.slots) refl c.free_give.ensures)
