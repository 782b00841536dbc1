-- One connection: the edits of its two directions, and what a packet of it does to them.
use Rattle.std.specs.Prelude.{ℕ, ◌+◌, ◌-◌, ◌%◌, ◌^◌, ◌==◌, ◌&&◌, not, Bool, true, false, if◌then◌else◌, List, [], length, Option, Some, None}
use Rattle.tuple_core.specs.declared.Direction.{Direction}
use Rattle.tuple_core.specs.declared.Direction.TheVariants.{Original, Reply}
use Rattle.ftp_helper.specs.Want.{opposite}
use Rattle.history_book.specs.declared.event.Numbered.{Numbered}
use Rattle.ftp_rewrite.specs.declared.adjust.Added.{Added}
use Rattle.ftp_rewrite.specs.declared.adjust.Added.TheVariants as added
use Rattle.ftp_rewrite.specs.declared.adjust.Edit.{Edit}
use Rattle.ftp_rewrite.specs.declared.asked.Ask.{Ask}
use Rattle.ftp_rewrite.specs.declared.session.Session.{Session}
use Rattle.ftp_rewrite.specs.Adjust.{Adjusting}
use Rattle.ftp_rewrite.specs.Edit.{answer_to, back, edit_at, edits_after, forward}
use Rattle.ftp_rewrite.specs.Line.{Line, LineText}
use Rattle.ftp_rewrite.specs.Line.{Same, Kept, Changed}
use Rattle.ftp_rewrite.specs.NewEnd.{new_end, replaced}
use Rattle.ftp_rewrite.specs.Sent.{Sent}

-- no edits, of a direction whose numbers are counted from here
abbrev pub fresh : ℕ → Adjusting
fresh base = record { base = base; edits = [] }

-- The session that begins with a segment of the original direction. No edits of the reply direction come before its first
-- segment, from which its numbers are counted.
abbrev pub begun : ℕ → Session
begun seq = record { original = fresh seq; reply = fresh 0; answered = false }

-- a segment of the reply direction, with this number, is the first or another
abbrev pub answered_with : ℕ → Session → Session
answered_with seq s = (if s.answered then s else record s { reply = fresh seq; answered = true })

-- the session once a segment with this number came
abbrev pub met : Direction → ℕ → Session → Session
met Original seq s = s
met Reply seq s = answered_with seq s

-- the edits of a direction
abbrev pub way : Direction → Session → Adjusting
way Original s = s.original
way Reply s = s.reply

-- the session with these in their place
abbrev pub with_way : Direction → Adjusting → Session → Session
with_way Original edits s = record s { original = edits }
with_way Reply edits s = record s { reply = edits }

-- there is an edit in one direction or the other
abbrev pub has_edits : Session → Bool
has_edits s = not (length s.original.edits == 0 && length s.reply.edits == 0)

-- the sequence number of a byte of a segment's data
abbrev pub seq_at : ℕ → ℕ → ℕ
seq_at seq place = (seq + place) % 2 ^ 32

-- the edit that a segment asks for, with this new text
abbrev pub asked_edit : Adjusting → Sent → Ask → List ℕ → Edit
asked_edit edits sent ask new = edit_at edits.base (seq_at sent.numbers.seq ask.span.start) (ask.span.end - ask.span.start) (length new)

-- the session once an edit was answered so
abbrev pub edited : Direction → Added → Edit → Session → Session
edited direction answer e s =
    with_way direction (record { base = (way direction s).base; edits = edits_after answer (way direction s).edits e }) s

-- the payload with which a segment leaves then
abbrev pub text_after : Added → Sent → Ask → List ℕ → LineText
text_after added.Added sent ask new = Changed (replaced sent.payload ask.span new)
text_after added.Again sent ask new = Changed (replaced sent.payload ask.span new)
text_after added.Overlap sent ask new = Kept
text_after added.Full sent ask new = Kept

-- a session, and the payload with which a segment leaves
pub record Dealt : Type 0 where
  pub session : Session
  pub text : LineText

abbrev pub dealt_by : Added → Edit → Session → Direction → Sent → Ask → List ℕ → Dealt
dealt_by answer e s direction sent ask new = record { session = edited direction answer e s; text = text_after answer sent ask new }

abbrev pub dealt_new : Session → Direction → Sent → Ask → List ℕ → Dealt
dealt_new s direction sent ask new =
    dealt_by (answer_to (way direction s).edits (asked_edit (way direction s) sent ask new)) (asked_edit (way direction s) sent ask new) s direction sent ask new

-- a segment that asks for an edit, or for none, is dealt with
unfoldable pub dealt : Session → Direction → Sent → Option Ask → Dealt
dealt s direction sent None = record { session = s; text = Same }
dealt s direction sent (Some ask) = dealt_new s direction sent ask (new_end sent.payload ask.want)

-- how a segment leaves, which made this event of the entry, with this payload
abbrev pub leaving : Numbered → ℕ → Direction → Session → Sent → LineText → Line
leaving item id direction s sent payload = record {
  thread = item.thread;
  packet = item.index;
  id = id;
  direction = direction;
  seq = sent.numbers.seq;
  new_seq = forward (way direction s).base (way direction s).edits sent.numbers.seq;
  ack = sent.numbers.ack;
  new_ack = back (way (opposite direction) s).base (way (opposite direction) s).edits sent.numbers.ack;
  text = payload;
}
