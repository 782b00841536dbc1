-- How writes in a row are one write.
use Rattle.std.proofs.Common.{◌≡◌, ◌∙◌, ℕ, suc, ◌+◌, ◌<◌, ◌≤◌, min, List, [], ◌∷◌, ◌++◌, length, get_or, take, drop, map, Option, None, Some, Result, Ok, Err, refl, sym, ap, subst, arith, append_assoc, append-nil, length-append, codes}
use Rattle.std.proofs.Math.Seq.{take-add, take-append-add}
use Rattle.std.proofs.lemmas.List.{length-take, take_all, take_min, take_more, take-append-drop, take-append-le}
use Rattle.std.proofs.lemmas.List.Concat.{flat_map-append}
use Rattle.std.specs.List.{flat_map}
use Rattle.ct_io.specs.Tape.{Tape}
use Rattle.ct_io.specs.Writing.{Appended}
use Rattle.ftp_rewrite.specs.declared.rewrite.Rewrite.{Rewrite}
use Rattle.ftp_rewrite.specs.declared.write.WriteFault.{WriteFault}
use Rattle.ftp_rewrite.specs.Internal.Pieces.{closing_text, first_text, line_of, opening_text}
use Rattle.ftp_rewrite.specs.Line.{Changed, Kept, Line, LineText, Same, seen}
use Rattle.ftp_rewrite.specs.Text.{head_text, hex_byte, hex_text, line_text, numbers_text, payload_text, rewrites_text}
use Rattle.ftp_rewrite.specs.Page.{Adds, Held}
use Rattle.ftp_rewrite.specs.Wrote.{followed_by, Wrote, WroteAll, WroteSome}

followed_by-append : (before : Option (List ℕ)) (a b : List ℕ) → followed_by before (a ++ b) ≡ followed_by (followed_by before a) b
followed_by-append None a b = refl
followed_by-append (Some before) a b = rw append_assoc

followed_by-nothing : (before : Option (List ℕ)) → before ≡ followed_by before []
followed_by-nothing None = refl
followed_by-nothing (Some before) = rw append-nil

-- a write of the next bytes of a piece of which some are written
pub written_more : (before now after : Option (List ℕ)) (piece : List ℕ) (done n : ℕ) → now ≡ followed_by before (take done piece)
    → after ≡ Appended now n (drop done piece) → after ≡ followed_by before (take (done + n) piece)
written_more None now after piece done n e h = cc
written_more (Some before) now after piece done n e h =
    rw (take-add done n piece, ← append_assoc before (take done piece) (take n (drop done piece))) (rw e at h)

-- a write of all bytes of a piece
pub written_whole : (before now : Option (List ℕ)) (piece : List ℕ) (done : ℕ) → now ≡ followed_by before (take done piece) → length piece ≤ done
    → now ≡ followed_by before piece
written_whole before now piece done e whole = rw take_all at e

-- nothing was written
pub all_nothing : (a : Tape) → WroteAll [] a a
all_nothing a = record { written = followed_by-nothing a.written; no_fault = refl }

-- a text and then another
pub all_then : (one two : List ℕ) (a b c : Tape) → WroteAll one a b → WroteAll two b c → WroteAll (one ++ two) a c
all_then one two a b c w v = record {
  written = cc (followed_by-append a.written one two, w.written, v.written);
  no_fault = cc (w.no_fault, v.no_fault);
}

-- bytes were lost, and more text would have come
pub some_more : (one two : List ℕ) (a b : Tape) → WroteSome one a b → WroteSome (one ++ two) a b
some_more one two a b w =
    let few = w.few in
    record {
      rose = w.rose;
      count = w.count;
      few = omega (arith, length-append one two, few);
      written = cc (take-append-le w.count one two (omega (arith, few)), w.written);
    }

-- a text, and then another of which bytes were lost
pub some_then : (one two : List ℕ) (a b c : Tape) → WroteAll one a b → WroteSome two b c → WroteSome (one ++ two) a c
some_then one two a b c w v =
    let few = v.few in
    record {
      rose = rw (← w.no_fault) v.rose;
      count = length one + v.count;
      few = omega (arith, length-append one two, few);
      written = cc (followed_by-append a.written one (take v.count two), take-append-add one two v.count, w.written, v.written);
    }

-- a text, and then a call that writes another
pub wrote_then : (one two : List ℕ) (a b c : Tape) (result : Result (Unit {0}) WriteFault) → WroteAll one a b → Wrote two b c result → Wrote (one ++ two) a c result
wrote_then one two a b c (Ok done) w v = all_then one two a b c w v
wrote_then one two a b c (Err fault) w v = some_then one two a b c w v

-- a line is its two pieces
line_is : (l : Line) → first_text l ++ closing_text l.text ≡ line_text l
unfolding first_text line_text
line_is l = pieces (numbers_text l) l.text
  where
    pieces : (numbers : List ℕ) (t : LineText) → numbers ++ opening_text t ++ closing_text t ≡ numbers ++ payload_text t ++ codes "\n"
    pieces numbers Same = append-nil (numbers ++ codes "\n") ∙ ap (λ (x : List ℕ). x ++ codes "\n") (sym (append-nil numbers))
    pieces numbers Kept = append-nil (numbers ++ codes " text=kept\n") ∙ sym (append_assoc numbers (codes " text=kept") (codes "\n"))
    pieces numbers (Changed bytes) = simp append_assoc

pub wrote_line : (l : Line) (a b c : Tape) (result : Result (Unit {0}) WriteFault) → WroteAll (first_text l) a b → Wrote (closing_text l.text) b c result
    → Wrote (line_text l) a c result
wrote_line l a b c result w v = subst (λ (t : List ℕ). Wrote t a c result) (line_is l) (wrote_then (first_text l) (closing_text l.text) a b c result w v)

pub some_line : (l : Line) (a b : Tape) → WroteSome (first_text l) a b → WroteSome (line_text l) a b
some_line l a b w = subst (λ (t : List ℕ). WroteSome t a b) (line_is l) (some_more (first_text l) (closing_text l.text) a b w)

-- the lines, one after another

pub lines_begun : (lines : List Rewrite) (a : Tape) → WroteAll (flat_map line_of (take 0 lines)) a a
lines_begun lines a = all_nothing a

pub lines_done : (lines : List Rewrite) (i : ℕ) (a b : Tape) → length lines ≤ i → WroteAll (flat_map line_of (take i lines)) a b → WroteAll (flat_map line_of lines) a b
lines_done lines i a b past w = subst (λ (ls : List Rewrite). WroteAll (flat_map line_of ls) a b) (take_all i lines past) w

next_is : (lines : List Rewrite) (i : ℕ) (item : Rewrite) → i < length lines → item ≡ get_or lines i item
    → flat_map line_of (take i lines) ++ line_of item ≡ flat_map line_of (take (i + 1) lines)
next_is lines i item within is =
    ap (λ (r : Rewrite). flat_map line_of (take i lines) ++ line_of r) is
    ∙ sym (ap (flat_map line_of) (take_more lines i item within)
    ∙ (flat_map-append line_of (take i lines) (get_or lines i item ∷ [])
    ∙ ap (λ (t : List ℕ). flat_map line_of (take i lines) ++ t) (append-nil (line_of (get_or lines i item)))))

pub lines_next : (lines : List Rewrite) (i : ℕ) (item : Rewrite) (a b c : Tape) → i < length lines → item ≡ get_or lines i item
    → WroteAll (flat_map line_of (take i lines)) a b → WroteAll (line_of item) b c → WroteAll (flat_map line_of (take (i + 1) lines)) a c
lines_next lines i item a b c within is w v =
    subst (λ (t : List ℕ). WroteAll t a c) (next_is lines i item within is) (all_then (flat_map line_of (take i lines)) (line_of item) a b c w v)

pub lines_lost : (lines : List Rewrite) (i : ℕ) (item : Rewrite) (a b c : Tape) → i < length lines → item ≡ get_or lines i item
    → WroteAll (flat_map line_of (take i lines)) a b → WroteSome (line_of item) b c → WroteSome (flat_map line_of lines) a c
lines_lost lines i item a b c within is w v =
    let front : WroteSome (flat_map line_of (take (i + 1) lines)) a c =
    subst (λ (t : List ℕ). WroteSome t a c) (next_is lines i item within is) (some_then (flat_map line_of (take i lines)) (line_of item) a b c w v) in
    subst (λ (t : List ℕ). WroteSome t a c) (sym (flat_map-append line_of (take (i + 1) lines) (drop (i + 1) lines)) ∙ ap (flat_map line_of) (take-append-drop (i + 1) lines))
    (some_more (flat_map line_of (take (i + 1) lines)) (flat_map line_of (drop (i + 1) lines)) a c front)

-- all of it

seen_lines : (lines : List Rewrite) → flat_map line_of lines ≡ flat_map line_text (map seen lines)
seen_lines [] = refl
seen_lines (l ∷ ls) = ap (λ (t : List ℕ). line_of l ++ t) (seen_lines ls)

seen_many : (lines : List Rewrite) → length lines ≡ length (map seen lines)
seen_many [] = refl
seen_many (l ∷ ls) = ap suc (seen_many ls)

text_is : (lines : List Rewrite) → head_text (length lines) ++ flat_map line_of lines ≡ rewrites_text (map seen lines)
text_is lines = λ i. head_text (seen_many lines i) ++ seen_lines lines i

pub wrote_text : (lines : List Rewrite) (a b c : Tape) (result : Result (Unit {0}) WriteFault) → WroteAll (head_text (length lines)) a b
    → Wrote (flat_map line_of lines) b c result → Wrote (rewrites_text (map seen lines)) a c result
wrote_text lines a b c result w v =
    subst (λ (t : List ℕ). Wrote t a c result) (text_is lines) (wrote_then (head_text (length lines)) (flat_map line_of lines) a b c result w v)

pub some_text : (lines : List Rewrite) (a b : Tape) → WroteSome (head_text (length lines)) a b → WroteSome (rewrites_text (map seen lines)) a b
some_text lines a b w = subst (λ (t : List ℕ). WroteSome t a b) (text_is lines) (some_more (head_text (length lines)) (flat_map line_of lines) a b w)

-- a payload, piece by piece

pub hex_begun : (payload : List ℕ) (a : Tape) → WroteAll (hex_text (take 0 payload)) a a
hex_begun payload a = all_nothing a

pub hex_done : (payload : List ℕ) (done : ℕ) (a b : Tape) → length payload ≤ done → WroteAll (hex_text (take done payload)) a b → WroteAll (hex_text payload) a b
hex_done payload done a b past w = subst (λ (bs : List ℕ). WroteAll (hex_text bs) a b) (take_all done payload past) w

hex_is : (payload : List ℕ) (done n : ℕ) → hex_text (take done payload) ++ hex_text (take n (drop done payload)) ≡ hex_text (take (done + n) payload)
hex_is payload done n = sym (flat_map-append hex_byte (take done payload) (take n (drop done payload))) ∙ ap (flat_map hex_byte) (sym (take-add done n payload))

own_length : (xs piece : List ℕ) (k : ℕ) → piece ≡ take k xs → piece ≡ take (length piece) xs
own_length xs piece k is =
    let short : length piece ≡ min k (length xs) = ap length is ∙ length-take k xs in
    is ∙ (sym (take_min k xs) ∙ ap (λ (n : ℕ). take n xs) (sym short))

pub hex_piece : (payload piece : List ℕ) (done k : ℕ) (a b c : Tape) → piece ≡ take k (drop done payload) → WroteAll (hex_text (take done payload)) a b
    → WroteAll (hex_text piece) b c → WroteAll (hex_text (take (done + length piece) payload)) a c
hex_piece payload piece done k a b c is w v =
    let own = own_length (drop done payload) piece k is in
    subst (λ (t : List ℕ). WroteAll t a c) (ap (λ (p : List ℕ). hex_text (take done payload) ++ hex_text p) own ∙ hex_is payload done (length piece))
    (all_then (hex_text (take done payload)) (hex_text piece) a b c w v)

pub hex_lost : (payload piece : List ℕ) (done k : ℕ) (a b c : Tape) → piece ≡ take k (drop done payload) → WroteAll (hex_text (take done payload)) a b
    → WroteSome (hex_text piece) b c → WroteSome (hex_text payload) a c
hex_lost payload piece done k a b c is w v =
    let own = own_length (drop done payload) piece k is in
    let front : WroteSome (hex_text (take (done + length piece) payload)) a c =
    subst (λ (t : List ℕ). WroteSome t a c) (ap (λ (p : List ℕ). hex_text (take done payload) ++ hex_text p) own ∙ hex_is payload done (length piece))
    (some_then (hex_text (take done payload)) (hex_text piece) a b c w v) in
    subst (λ (t : List ℕ). WroteSome t a c)
    (sym (flat_map-append hex_byte (take (done + length piece) payload) (drop (done + length piece) payload)) ∙ ap (flat_map hex_byte) (take-append-drop (done + length piece) payload))
    (some_more (hex_text (take (done + length piece) payload)) (hex_text (drop (done + length piece) payload)) a c front)

-- what was put on an empty page was written
pub wrote_page : (before after : Held) (most : ℕ) (text held : List ℕ) (a b : Tape) (result : Result (Unit {0}) WriteFault) → before.text ≡ []
    → Adds most text before after → held ≡ after.text → Wrote held a b result → Wrote text a b result
wrote_page before after most text held a b result empty adds is wrote =
    subst (λ (t : List ℕ). Wrote t a b result) (is ∙ (adds.joined ∙ ap (λ (t : List ℕ). t ++ text) empty)) wrote

-- no byte yet of a piece on a page
pub hex_none : (before piece : List ℕ) → before ≡ before ++ hex_text (take 0 piece)
hex_none before piece = sym (append-nil before)

-- a byte more of a piece on a page
pub hex_more : (piece : List ℕ) (i d : ℕ) → i < length piece → hex_text (take (i + 1) piece) ≡ hex_text (take i piece) ++ hex_byte (get_or piece i d)
hex_more piece i d within = rw (take_more piece i d within, flat_map-append hex_byte (take i piece) (get_or piece i d ∷ []), append-nil) refl

pub hex_all : (piece : List ℕ) (i : ℕ) → length piece ≤ i → hex_text (take i piece) ≡ hex_text piece
hex_all piece i past = ap hex_text (take_all i piece past)
