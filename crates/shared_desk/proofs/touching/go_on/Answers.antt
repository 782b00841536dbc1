use Rattle.std.proofs.Common.{Some, refl}
use Rattle.track_rule.specs.ChangeLaws.{joined, unchanged}
use Rattle.track_rule.specs.ChangesOnly.{is_history}
use Rattle.track_rule.specs.TurnSteps.{with_subject}
use Rattle.history_book.specs.declared.record.Record.{Record}
use Rattle.shared_desk.proofs.Wording.{part_kept, touch_adds}
use Rattle.shared_desk.proofs.touching.go_on.Goals as goal

pub returns-clause-words : goal.returns-clause-words
returns-clause-words c =
    joined is_history c.args.pass.now.view c.touch_add-number.new.self.view c.part_store.new.self.view
    (touch_adds c.touch_event.result c.args.pass.now.view c.touch_add-number.new.self.view c.touch_add-number.result c.touch_add-number.ensures.adds)
    (unchanged is_history c.touch_add-number.new.self.view c.part_store.new.self.view
    (part_kept c.touch_add-number.new.self c.part_store.new.self
    (λ (r : Record). record c.touch_add-number.new.self { slots = with_subject c.args.place (Some (record r { part = c.args.after })) c.touch_add-number.new.self.slots })
    (λ r. refl) c.part_store.ensures.part c.part_store.ensures.none))
