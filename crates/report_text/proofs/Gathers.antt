-- How texts that are gathered one after another are one text.
use Rattle.std.proofs.Common.{◌≡◌, ℕ, ◌+◌, ◌<◌, ◌≤◌, List, [], ◌++◌, length, get_or, take, drop, Some, Result, Ok, Err, IsErr, refl, arith, append_assoc, append-nil}
use Rattle.std.specs.List.{slice_get}
use Rattle.std.proofs.lemmas.List.{take_all}
use Rattle.std.proofs.lemmas.Option.{get_or_from_slice_get, slice_get_within}
use Rattle.ct_io.specs.Tape.{Tape}
use Rattle.report_text.specs.Internal.Gathered.{Gathered, Lost, Sent}
use Rattle.report_text.specs.Page.{Adds, Held}
use Rattle.report_text.specs.Texts.{texts_from}
use Rattle.report_text.specs.Wrote.{Wrote, WroteFront}
use Rattle.report_text.specs.declared.write.WriteFault.{WriteFault}
use Rattle.report_text.proofs.Texts.{texts_from-more, texts_from-split}
use Rattle.report_text.proofs.Writes.{followed_by-append, followed_by-nothing, front_more, front_then}

-- nothing was written, and nothing came
pub sent_nothing : (p : Held) (a : Tape) → Sent [] p p a a
sent_nothing p a = record {
  sent = [];
  written = followed_by-nothing a.written;
  kept = grind (arith, append-nil);
  no_fault = refl;
}

-- all that the page held was written, and it was cleared
pub sent_held : (p q : Held) (a b : Tape) (done : Unit {0}) → Wrote p.text a b (Ok done) →
    q.text ≡ [] → Sent [] p q a b
sent_held p q a b done wrote empty = record {
  sent = p.text;
  written = wrote.0;
  kept = rw empty;
  no_fault = wrote.1;
}

-- only some first bytes of what the page held were written
pub lost_held : (p : Held) (a b : Tape) (fault : WriteFault) → Wrote p.text a b (Err fault) →
    a.faults ≤ b.faults → Lost [] p a b
lost_held p a b fault wrote stay = record {
  rose = wrote.0;
  stay = stay;
  front = rw append-nil wrote.1;
}

-- room was made, and a line was put on the page
pub sent_line : (most : ℕ) (line : List ℕ) (p q r : Held) (a b : Tape) →
    Sent [] p q a b → Adds most line q r → Sent line p r a b
sent_line most line p q r a b s adds = record {
  sent = s.sent;
  written = s.written;
  kept = cc (append_assoc s.sent q.text line, append-nil p.text, s.kept, adds.joined);
  no_fault = s.no_fault;
}

-- bytes were lost, and more text would have come
pub lost_more : (one two : List ℕ) (p : Held) (a b : Tape) → Lost one p a b → Lost (one ++ two) p a b
lost_more one two p a b l = record {
  rose = l.rose;
  stay = l.stay;
  front = rw (← append_assoc p.text one two) (front_more (p.text ++ one) two _ _ l.front);
}

-- bytes were lost before a line came
pub lost_line : (line : List ℕ) (p : Held) (a b : Tape) → Lost [] p a b → Lost line p a b
lost_line line p a b l = lost_more [] line p a b l

-- a text and then another one
pub sent_then : (one two : List ℕ) (p q r : Held) (a b c : Tape) →
    Sent one p q a b → Sent two q r b c → Sent (one ++ two) p r a c
sent_then one two p q r a b c s u = record {
  sent = s.sent ++ u.sent;
  written = cc (followed_by-append a.written s.sent u.sent, s.written, u.written);
  kept = cc (
    append_assoc s.sent u.sent r.text,
    append_assoc s.sent q.text two,
    append_assoc p.text one two,
    s.kept,
    u.kept,
  );
  no_fault = cc (s.no_fault, u.no_fault);
}

-- a text, and then another one of which bytes were lost
pub lost_then : (one two : List ℕ) (p q : Held) (a b c : Tape) →
    Sent one p q a b → Lost two q b c → Lost (one ++ two) p a c
lost_then one two p q a b c s l = record {
  rose = rw (← s.no_fault) l.rose;
  stay = omega (arith, s.no_fault, l.stay);
  front = front_then s.sent (q.text ++ two) (p.text ++ (one ++ two)) _ _ _
      (cc (append_assoc s.sent q.text two, append_assoc p.text one two, s.kept)) s.written l.front;
}

-- a text, and then a call that gathers another one
pub gathered_then : (one two : List ℕ) (p q r : Held) (a b c : Tape)
    (result : Result (Unit {0}) WriteFault) → Sent one p q a b →
    Gathered two q r b c result → Gathered (one ++ two) p r a c result
gathered_then one two p q r a b c (Ok done) s u = sent_then one two p q r a b c s u
gathered_then one two p q r a b c (Err fault) s u = lost_then one two p q a b c s u

-- no item's text came yet
pub sent_none : {X : Type 0} (text : ℕ → X → List ℕ) (xs : List X) (p : Held) (a : Tape) →
    Sent (texts_from text 0 (take 0 xs)) p p a a
sent_none text xs p a = sent_nothing p a

-- the text of each item came
pub sent_each : {X : Type 0} (text : ℕ → X → List ℕ) (xs : List X) (i : ℕ) (p q : Held)
    (a b : Tape) → length xs ≤ i → Sent (texts_from text 0 (take i xs)) p q a b →
    Sent (texts_from text 0 xs) p q a b
sent_each text xs i p q a b whole s = rw take_all at s

-- the texts of a list's first items, and then that of the next one
pub sent_step : {X : Type 0} (text : ℕ → X → List ℕ) (xs : List X) (i : ℕ) (d : X)
    (p q r : Held) (a b c : Tape) → i < length xs →
    Sent (texts_from text 0 (take i xs)) p q a b → Sent (text i (get_or xs i d)) q r b c →
    Sent (texts_from text 0 (take (i + 1) xs)) p r a c
sent_step text xs i d p q r a b c within s u =
    rw (texts_from-more text xs i d within) (sent_then _ _ p q r a b c s u)

-- the same where bytes of the next one were lost
pub lost_step : {X : Type 0} (text : ℕ → X → List ℕ) (xs : List X) (i : ℕ) (d : X)
    (p q : Held) (a b c : Tape) → i < length xs →
    Sent (texts_from text 0 (take i xs)) p q a b → Lost (text i (get_or xs i d)) q b c →
    Lost (texts_from text 0 xs) p a c
lost_step text xs i d p q a b c within s l =
    rw (texts_from-split text xs (i + 1) (omega arith), texts_from-more text xs i d within)
    (lost_more _ _ p a c (lost_then _ _ p q a b c s l))

-- a call that lost bytes, in a row of calls that gathered the items of a list
pub gathered_step : {X : Type 0} (text : ℕ → X → List ℕ) (xs : List X) (i : ℕ) (d : X)
    (p q r : Held) (a b c : Tape) (result : Result (Unit {0}) WriteFault) → IsErr result →
    i < length xs → Sent (texts_from text 0 (take i xs)) p q a b →
    Lost (text i (get_or xs i d)) q b c → Gathered (texts_from text 0 xs) p r a c result
gathered_step text xs i d p q r a b c (Ok done) err within s l = cc
gathered_step text xs i d p q r a b c (Err fault) err within s l =
    lost_step text xs i d p q a b c within s l

-- the same two steps where the next item is read as a copy
pub sent_item : {X : Type 0} (text : ℕ → X → List ℕ) (xs : List X) (i : ℕ) (x : X)
    (p q r : Held) (a b c : Tape) → slice_get xs i ≡ Some x →
    Sent (texts_from text 0 (take i xs)) p q a b → Sent (text i x) q r b c →
    Sent (texts_from text 0 (take (i + 1) xs)) p r a c
sent_item text xs i x p q r a b c at s u =
    sent_step text xs i x p q r a b c (slice_get_within xs i x at) s
    (rw (get_or_from_slice_get xs i x x at) u)

pub gathered_item : {X : Type 0} (text : ℕ → X → List ℕ) (xs : List X) (i : ℕ) (x : X)
    (p q r : Held) (a b c : Tape) (result : Result (Unit {0}) WriteFault) → IsErr result →
    slice_get xs i ≡ Some x → Sent (texts_from text 0 (take i xs)) p q a b →
    Lost (text i x) q b c → Gathered (texts_from text 0 xs) p r a c result
gathered_item text xs i x p q r a b c result err at s l =
    gathered_step text xs i x p q r a b c result err (slice_get_within xs i x at) s
    (rw (get_or_from_slice_get xs i x x at) l)

-- bytes were lost before the next item came
pub gathered_before : {X : Type 0} (text : ℕ → X → List ℕ) (xs : List X) (i : ℕ)
    (p q r : Held) (a b c : Tape) (result : Result (Unit {0}) WriteFault) → IsErr result →
    i ≤ length xs → Sent (texts_from text 0 (take i xs)) p q a b → Lost [] q b c →
    Gathered (texts_from text 0 xs) p r a c result
gathered_before text xs i p q r a b c (Ok done) err within s l = cc
gathered_before text xs i p q r a b c (Err fault) err within s l =
    rw (texts_from-split text xs i within)
    (lost_then _ _ p q a b c s (lost_line (texts_from text i (drop i xs)) q b c l))

-- two pieces on a page are one
pub adds_then : (most more : ℕ) (one two : List ℕ) (p q r : Held) →
    Adds most one p q → Adds more two q r → Adds (most + more) (one ++ two) p r
adds_then most more one two p q r s u = record {
  joined = cc (append_assoc p.text one two, s.joined, u.joined);
  short = omega (arith, s.short, u.short);
}

-- where the page was empty and bytes were lost, first bytes of the text were written
pub lost_front : (text : List ℕ) (p : Held) (a b : Tape) → p.text ≡ [] → Lost text p a b →
    WroteFront text a.written b.written
lost_front text p a b empty l =
    let h = l.front in rw empty at h

-- a text on an empty page, and then a call that writes what is still held of it
pub wrote_rest : (text : List ℕ) (p q : Held) (a b c : Tape)
    (result : Result (Unit {0}) WriteFault) → p.text ≡ [] → Sent text p q a b →
    Wrote q.text b c result → Wrote text a c result
wrote_rest text p q a b c (Ok done) empty s (written, faults) =
    (cc (followed_by-append a.written s.sent q.text, s.kept, s.written, empty), cc (s.no_fault))
wrote_rest text p q a b c (Err fault) empty s (rose, front) =
    (rw (← s.no_fault) rose, front_then s.sent q.text text _ _ _ (cc (s.kept, empty)) s.written front)
