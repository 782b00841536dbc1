-- The sessions and the lines, one event after another.
use Rattle.std.proofs.Common.{◌≡◌, ◌∙◌, ℕ, suc, zero, ◌+◌, ◌≤◌, Bool, true, false, cond, List, [], ◌∷◌, ◌++◌, length, take, drop, map, Option, Some, None, refl, sym, ap, subst, arith, append_assoc, append-nil, drop-cons}
use Rattle.std.specs.Prelude.{◌==◌, option_to_list}
use Rattle.std.specs.List.{fold, slice_get}
use Rattle.std.specs.Option.{option_map}
use Rattle.std.specs.BTreeMap.{BTreeMap, is_at}
use Rattle.std.specs.Ordering.{nat_cmp}
use Rattle.std.proofs.lemmas.Bool.Decides.{nat_tests}
use Rattle.std.proofs.lemmas.List.{take_more}
use Rattle.std.proofs.lemmas.List.Sums.{fold-append}
use Rattle.std.proofs.lemmas.Option.{get_or_from_slice_get, slice_get_within}
use Rattle.history_book.specs.declared.event.Event.TheVariants.{Confirm, Touch, Destroy}
use Rattle.history_book.specs.declared.event.Numbered.{Numbered}
use Rattle.history_book.specs.declared.event.Why.{Why}
use Rattle.history_book.specs.declared.record.Record.{Record}
use Rattle.tuple_core.specs.declared.Direction.{Direction}
use Rattle.tuple_core.specs.declared.Segment.{Segment}
use Rattle.proto_rules.specs.declared.Part.{Part}
use Rattle.ftp_rewrite.specs.declared.session.Session.{Session}
use Rattle.ftp_rewrite.specs.declared.rewrite.Rewrite.{Rewrite}
use Rattle.ftp_rewrite.specs.Internal.Seen.{at_id, Puts}
use Rattle.ftp_rewrite.specs.Line.{Line, seen}
use Rattle.ftp_rewrite.specs.Rewrites.{after_event, after_item, line_by, line_by_event, line_touched, lines_behind, rewritten, session_of, touched}
use Rattle.ftp_rewrite.specs.Sent.{Run, Sent, sent_by}
use Rattle.ftp_rewrite.specs.Session.{begun}

-- the key of a map is the id
at_is : (id q : ℕ) → is_at (nat_cmp id) q ≡ (id == q)
at_is id q = grind (arith, nat_tests)

same_number : (m n : ℕ) → (m == n) ≡ true → m ≡ n
same_number m n h = grind (arith, nat_tests)

-- one id has this now, and the others what they had
pub puts_at : (old new : BTreeMap ℕ Session) (id : ℕ) (now : Option Session) → Puts old new id now
    → (q : ℕ) → at_id new q ≡ cond (id == q) now (at_id old q)
puts_at old new id now puts q = puts q ∙ ap (λ (b : Bool). cond b now (at_id old q)) (at_is id q)

-- what one id gets is reckoned from what it had
of_one : (id q : ℕ) (sessions : ℕ → Option Session) (change : Option Session → Option Session)
    → cond (id == q) (change (sessions id)) (sessions q) ≡ cond (id == q) (change (sessions q)) (sessions q)
of_one id q sessions change = either (id == q) refl
  where
    either : (test : Bool) → (id == q) ≡ test → cond test (change (sessions id)) (sessions q) ≡ cond test (change (sessions q)) (sessions q)
    either true is = ap (λ (k : ℕ). change (sessions k)) (same_number id q is)
    either false is = refl

-- a Touch of an entry
pub past_touch : (run : Run) (old new : BTreeMap ℕ Session) (item : Numbered) (id : ℕ) (direction : Direction)
    → Puts old new id (touched run item id direction (at_id old id))
    → (q : ℕ) → at_id new q ≡ cond (id == q) (touched run item id direction (at_id old q)) (at_id old q)
past_touch run old new item id direction puts q =
    puts_at old new id (touched run item id direction (at_id old id)) puts q
    ∙ of_one id q (at_id old) (λ s. touched run item id direction s)

-- one event, by its kind

pub follow_confirm : (run : Run) (old new : BTreeMap ℕ Session) (item : Numbered) (subject : Record) → item.event ≡ Confirm subject
    → ((q : ℕ) → at_id new q ≡ after_event run q (at_id old q) item (Confirm subject))
    → (q : ℕ) → at_id new q ≡ after_item run q (at_id old q) item
follow_confirm run old new item subject is begins q = begins q ∙ sym (ap (after_event run q (at_id old q) item) is)

pub follow_touch : (run : Run) (old new : BTreeMap ℕ Session) (item : Numbered) (id : ℕ) (direction : Direction) (segment : Segment) (moment : ℕ) (after : Part)
    → item.event ≡ Touch id direction segment moment after → Puts old new id (touched run item id direction (at_id old id))
    → (q : ℕ) → at_id new q ≡ after_item run q (at_id old q) item
follow_touch run old new item id direction segment moment after is puts q =
    past_touch run old new item id direction puts q ∙ sym (ap (after_event run q (at_id old q) item) is)

pub follow_destroy : (run : Run) (old new : BTreeMap ℕ Session) (item : Numbered) (id : ℕ) (why : Why) → item.event ≡ Destroy id why → Puts old new id None
    → (q : ℕ) → at_id new q ≡ after_item run q (at_id old q) item
follow_destroy run old new item id why is puts q = puts_at old new id None puts q ∙ sym (ap (after_event run q (at_id old q) item) is)

pub line_confirm : (run : Run) (sessions : ℕ → Option Session) (item : Numbered) (subject : Record) → item.event ≡ Confirm subject → None ≡ line_by run sessions item
line_confirm run sessions item subject is = sym (ap (line_by_event run sessions item) is)

pub line_touch : (run : Run) (sessions : ℕ → Option Session) (item : Numbered) (id : ℕ) (direction : Direction) (segment : Segment) (moment : ℕ) (after : Part) (line : Option Line)
    → item.event ≡ Touch id direction segment moment after → line ≡ line_touched run item id direction (sessions id) → line ≡ line_by run sessions item
line_touch run sessions item id direction segment moment after line is says = says ∙ sym (ap (line_by_event run sessions item) is)

pub line_destroy : (run : Run) (sessions : ℕ → Option Session) (item : Numbered) (id : ℕ) (why : Why) → item.event ≡ Destroy id why → None ≡ line_by run sessions item
line_destroy run sessions item id why is = sym (ap (line_by_event run sessions item) is)

-- a Confirm

pub begins_not : (run : Run) (item : Numbered) (subject : Record) (q : ℕ) (s : Option Session) → subject.helper ≡ false → s ≡ after_event run q s item (Confirm subject)
begins_not run item subject q s plain = rw plain (sym (either (subject.id == q)))
  where
    either : (test : Bool) → cond test s s ≡ s
    either true = refl
    either false = refl

pub begins_none : (run : Run) (item : Numbered) (subject : Record) (q : ℕ) (s : Option Session) → sent_by run.captures item ≡ None
    → s ≡ after_event run q s item (Confirm subject)
begins_none run item subject q s nothing = rw nothing (sym (either (subject.id == q) subject.helper))
  where
    either : (test helper : Bool) → cond test (cond helper s s) s ≡ s
    either true true = refl
    either true false = refl
    either false helper = refl

pub begins : (run : Run) (item : Numbered) (subject : Record) (old new : BTreeMap ℕ Session) (sent : Sent) → subject.helper ≡ true → sent_by run.captures item ≡ Some sent
    → Puts old new subject.id (Some (begun sent.numbers.seq)) → (q : ℕ) → at_id new q ≡ after_event run q (at_id old q) item (Confirm subject)
begins run item subject old new sent helps is puts q =
    rw (helps, is) (puts_at old new subject.id (Some (begun sent.numbers.seq)) puts q)

-- a session that is taken out and put back
pub put_back : (old mid new : BTreeMap ℕ Session) (id : ℕ) (now : Option Session) → Puts old mid id None → Puts mid new id now → Puts old new id now
put_back old mid new id now out back q = back q ∙ (ap (λ (s : Option Session). cond (is_at (nat_cmp id) q) now s) (out q) ∙ either (is_at (nat_cmp id) q))
  where
    either : (test : Bool) → cond test now (cond test None (at_id old q)) ≡ cond test now (at_id old q)
    either true = refl
    either false = refl

-- one item more
first_more : (items : List Numbered) (i : ℕ) (item : Numbered) → slice_get items i ≡ Some item → take (i + 1) items ≡ take i items ++ item ∷ []
first_more items i item at =
    take_more items i item (slice_get_within items i item at)
    ∙ ap (λ (x : Numbered). take i items ++ x ∷ []) (get_or_from_slice_get items i item item at)

-- the sessions after the first items, and one item more
pub session_more : (run : Run) (items : List Numbered) (i : ℕ) (item : Numbered) (id : ℕ) → slice_get items i ≡ Some item
    → session_of run id (take (i + 1) items) ≡ after_item run id (session_of run id (take i items)) item
unfolding session_of
session_more run items i item id at =
    ap (fold (after_item run id) None) (first_more items i item at)
    ∙ fold-append (after_item run id) None (take i items) (item ∷ [])

pub session_first : (run : Run) (items : List Numbered) (id : ℕ) → session_of run id (take 0 items) ≡ None
unfolding session_of
session_first run items id = refl

-- the lines behind the first items begin with that of the next one
from_here : (items : List Numbered) (i : ℕ) (item : Numbered) → slice_get items i ≡ Some item → drop i items ≡ item ∷ drop (i + 1) items
from_here items i item at =
    subst (λ (k : ℕ). drop i items ≡ item ∷ drop k items) one
    (drop-cons items i item (slice_get_within items i item at) ∙ ap (λ (x : Numbered). x ∷ drop (suc i) items) (get_or_from_slice_get items i item item at))
  where
    one : suc i ≡ i + 1
    one = omega arith

pub lines_more : (run : Run) (items : List Numbered) (i : ℕ) (item : Numbered) → slice_get items i ≡ Some item
    → lines_behind run (take i items) (drop i items)
    ≡ option_to_list (line_by run (λ id. session_of run id (take i items)) item) ++ lines_behind run (take (i + 1) items) (drop (i + 1) items)
unfolding lines_behind
lines_more run items i item at = rw (from_here items i item at, first_more items i item at) refl

nothing_left : (items : List Numbered) (i : ℕ) → length items ≤ i → drop i items ≡ []
nothing_left [] zero past = refl
nothing_left [] (suc i) past = refl
nothing_left (e ∷ es) zero past = absurd (omega arith)
nothing_left (e ∷ es) (suc i) past = nothing_left es i (omega arith)

pub lines_last : (run : Run) (items : List Numbered) (i : ℕ) → length items ≤ i → lines_behind run (take i items) (drop i items) ≡ []
unfolding lines_behind
lines_last run items i past = rw (nothing_left items i past) refl

-- what the loop keeps: the lines so far and those to come are all, and each session is that of the items so far
pub record SoFar (run : Run) (items : List Numbered) (i : ℕ) (sessions : BTreeMap ℕ Session) (lines : List Rewrite) : Type 0 where
  pub all : map seen lines ++ lines_behind run (take i items) (drop i items) ≡ lines_behind run [] items
  pub each : (q : ℕ) → at_id sessions q ≡ session_of run q (take i items)

pub none_yet : (run : Run) (items : List Numbered) (sessions : BTreeMap ℕ Session) (lines : List Rewrite) → lines ≡ [] → ((q : ℕ) → at_id sessions q ≡ None)
    → SoFar run items 0 sessions lines
none_yet run items sessions lines empty nothing = record {
  all = rw empty refl;
  each = λ q. nothing q ∙ sym (session_first run items q);
}

-- a line by the sessions that are there
same_line : (run : Run) (item : Numbered) (one other : ℕ → Option Session) → ((q : ℕ) → one q ≡ other q) → line_by run one item ≡ line_by run other item
same_line run item one other same = λ i. line_by run (λ q. same q i) item

pub one_more : (run : Run) (items : List Numbered) (i : ℕ) (item : Numbered) (old new : BTreeMap ℕ Session) (lines more : List Rewrite) (line : Option Rewrite)
    → slice_get items i ≡ Some item → SoFar run items i old lines
    → ((q : ℕ) → at_id new q ≡ after_item run q (at_id old q) item)
    → option_map seen line ≡ line_by run (at_id old) item
    → map seen more ≡ map seen lines ++ option_to_list (option_map seen line)
    → SoFar run items (i + 1) new more
one_more run items i item old new lines more line at so_far sessions says puts =
    let by : option_to_list (option_map seen line) ≡ option_to_list (line_by run (λ q. session_of run q (take i items)) item) =
    ap option_to_list (says ∙ same_line run item (at_id old) (λ q. session_of run q (take i items)) so_far.each) in
    let later : List Line = lines_behind run (take (i + 1) items) (drop (i + 1) items) in
    record {
      all =
          ap (λ (ls : List Line). ls ++ later) puts
          ∙ (append_assoc (map seen lines) (option_to_list (option_map seen line)) later
          ∙ (ap (λ (ls : List Line). map seen lines ++ (ls ++ later)) by
          ∙ (ap (λ (ls : List Line). map seen lines ++ ls) (sym (lines_more run items i item at)) ∙ so_far.all)));
      each = λ q. sessions q ∙ (ap (λ (s : Option Session). after_item run q s item) (so_far.each q) ∙ sym (session_more run items i item q at));
    }

pub all_lines : (run : Run) (items : List Numbered) (i : ℕ) (sessions : BTreeMap ℕ Session) (lines : List Rewrite) → length items ≤ i → SoFar run items i sessions lines
    → items ≡ run.history → map seen lines ≡ rewritten run
unfolding rewritten
all_lines run items i sessions lines past so_far is =
    sym (append-nil (map seen lines)) ∙ (ap (λ (ls : List Line). map seen lines ++ ls) (sym (lines_last run items i past)) ∙ (so_far.all ∙ ap (lines_behind run []) is))
