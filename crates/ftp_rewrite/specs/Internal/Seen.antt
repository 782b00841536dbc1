-- What the code has, seen as what the definitions speak of.
use Rattle.std.specs.Prelude.{◌≡◌, ℕ, cond, List, Option, Some, None, slice_get}
use Rattle.std.specs.BTreeMap.{BTreeMap, get, is_at}
use Rattle.std.specs.Ordering.{nat_cmp}
use Rattle.history_book.specs.declared.event.Numbered.{Numbered}
use Rattle.packet_headers.specs.declared.frame.Capture.{Capture}
use Rattle.ftp_rewrite.specs.declared.sent.SegmentView.{SegmentView}
use Rattle.ftp_rewrite.specs.declared.session.Session.{Session}
use Rattle.ftp_rewrite.specs.Sent.{◌>>=◌, Sent, sent_in}

-- the definition's value, where the code has one that is seen so
abbrev pub Gives : {A B : Type 0} → (A → B) → Option A → Option B → Type 0
Gives view None said = said ≡ None
Gives view (Some x) said = said ≡ Some (view x)

-- the segment that the code has on loan
abbrev pub sent_of : SegmentView → Sent
sent_of view = record { numbers = view.numbers; payload = view.payload.now }

-- the segment that made an event, of captures that the code has
unfoldable pub sent_among : List Capture → Numbered → Option Sent
sent_among captures item = do
  capture ← slice_get captures item.thread
  frame ← slice_get capture.frames.items item.index
  sent_in capture.bytes.items frame

-- the session of an entry
abbrev pub at_id : BTreeMap ℕ Session → ℕ → Option Session
at_id sessions id = get nat_cmp sessions id

-- another map that has this at one id, and else what the first has
abbrev pub Puts : BTreeMap ℕ Session → BTreeMap ℕ Session → ℕ → Option Session → Type 0
Puts old new id now = (q : ℕ) → at_id new q ≡ cond (is_at (nat_cmp id) q) now (at_id old q)
