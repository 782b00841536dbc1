-- What short notes stand for.
use Rattle.std.specs.Prelude.{ℕ, false, None, cond}
use Rattle.history_book.specs.declared.event.Event.TheVariants as event
use Rattle.history_book.specs.declared.event.Note.{Note}
use Rattle.history_book.specs.declared.event.Why.TheVariants as why
use Rattle.history_book.specs.declared.packed.Stored.{Stored}
use Rattle.history_book.specs.declared.packed.Stored.TheVariants as stored
use Rattle.history_book.specs.declared.short_note.ShortNote.{ShortNote}
use Rattle.history_book.specs.declared.short_note.ShortNote.TheVariants as short
use Rattle.history_book.specs.declared.record.Record.{Record}
use Rattle.proto_rules.specs.declared.Part.{Part}
use Rattle.tuple_core.specs.declared.Tuple.{Tuple}
use Rattle.tuple_core.specs.Inverse.{inverse}
use Rattle.tuple_core.specs.Tuple.{is_valid}

-- the reply tuple of a flow that no rule translates
abbrev pub plain_reply : Tuple → Tuple
plain_reply t = cond (is_valid t) (inverse t) t

-- the record of a flow that no rule translates, without helper and master
abbrev pub plain_record : ℕ → ℕ → Tuple → Part → Record
plain_record id place original part = record {
  id = id;
  place = place;
  original = original;
  reply = plain_reply original;
  part = part;
  helper = false;
  master = None;
}

abbrev pub stored_note : ShortNote → Stored Note
stored_note (short.Whole at) = stored.Whole at
stored_note (short.Touch direction segment number id moment after) =
    stored.Here (record { number = number; event = event.Touch id direction segment moment after })
stored_note (short.Confirm kind replied assured number place original deadline) =
    stored.Here (record {
      number = number;
      event = event.Confirm (plain_record number place original
          (record { kind = kind; replied = replied; assured = assured; deadline = deadline }));
    })
stored_note (short.Expired number id moment) =
    stored.Here (record { number = number; event = event.Destroy id (why.Expired moment) })
stored_note (short.Dropped number id moment) =
    stored.Here (record { number = number; event = event.Destroy id (why.Dropped moment) })
