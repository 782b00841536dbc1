use Rattle.std.proofs.Common.{◌≡◌, ◌+◌, [], ◌∷◌, ◌++◌, ap, refl, subst, sym, None}
use Rattle.history_book.specs.declared.event.Event.{Event}
use Rattle.history_book.specs.declared.event.Event.TheVariants.{Confirm}
use Rattle.history_book.specs.Desk.{Confirms, IsClash}
use Rattle.history_book.specs.Entry.{record_for}
use Rattle.history_book.specs.State.{live_under, state_of}
use Rattle.book_desk.specs.Fields.{IsBook}
use Rattle.book_desk.specs.Internal.Book.{WinsAt, sight_in}
use Rattle.book_desk.proofs.Events.{enter_room, entered, taken_unused, winner_is}
use Rattle.book_desk.proofs.Histories.{looked, made}
use Rattle.book_desk.proofs.book.Book.confirm.Goals as goal

pub returns-in-Some-clause-says : goal.returns-in-Some-clause-says
returns-in-Some-clause-says c log spare taken h =
    let b = c.args.self.now in
    let flow = c.args.flow.now in
    let wins : WinsAt flow.original flow.reply (state_of b.records.items) c.in-Some.found =
    subst (λ rs. WinsAt flow.original flow.reply (state_of rs) c.in-Some.found) c.as_slice-records.ensures c.in-Some.ensures.wins in (
      looked log spare taken b b b.events (IsClash c.args.place flow c.at-subject.result.now.id c.in-Some.found.direction c.is_same_flow.result)
          h refl refl
          (record {
            winner = winner_is b flow c.in-Some.found c.at-subject.result.now c.is_same_flow.result wins c.at-subject.ensures c.is_same_flow.ensures;
            unused = taken_unused log b c.args.place h c.requires.taken;
          }),
      record { held = refl; owed = refl },
    )

pub enter-event-requires-clause-records_room : goal.enter-event-requires-clause-records_room
enter-event-requires-clause-records_room c = enter_room c.requires.right.0 c.args.self.now c.args.place c.requires.right.1 c.requires.taken

pub returns-clause-stays : goal.returns-clause-stays
returns-clause-stays c log h =
    let b = c.args.self.now in
    let flow = c.args.flow.now in
    subst (λ (e : Event). IsBook (log ++ e ∷ []) c.enter-event.new.self) (sym c.enter-event.ensures.event)
    (entered c.histories_go_on.ensures.states c.histories_go_on.ensures.legal c.free_is_absent.ensures log b c.enter-event.new.self
    (record_for flow b.events c.args.place) h c.enter-event.ensures.adds c.requires.taken refl c.requires.protocol
    (subst (λ rs. live_under flow.original (state_of rs) ≡ None) c.as_slice-records.ensures c.in_default.ensures.original)
    (subst (λ rs. live_under flow.reply (state_of rs) ≡ None) c.as_slice-records.ensures c.in_default.ensures.reply)
    c.enter-event.ensures.records c.enter-event.ensures.holds c.enter-event.ensures.expects)

pub returns-clause-says : goal.returns-clause-says
returns-clause-says c log spare taken h =
    let b = c.args.self.now in
    let adds = c.enter-event.ensures.adds in
    subst (λ (e : Event). Confirms c.args.place c.args.flow.now (sight_in log (spare + 1) taken b) (sight_in (log ++ e ∷ []) spare taken c.enter-event.new.self) b.events)
    (sym c.enter-event.ensures.event) (record {
      made = made log spare taken b c.enter-event.new.self b.events (Confirm (record_for c.args.flow.now b.events c.args.place)) h refl adds.sizes;
      held = c.enter-event.ensures.holds;
      owed = ap (λ os. os.items) adds.owed;
    })
