-- Several threads over one history: each has its own events of it.
use Rattle.std.proofs.Common.{◌≡◌, ℕ, zero, suc, ◌+◌, ◌<◌, ◌≤◌, true, false, cond, ◌==◌, List, [], ◌∷◌, ◌++◌, length, take, drop, refl, sym, ap, ap₂, subst, ◌∙◌, arith}
use Rattle.std.specs.Prelude.{◌≢◌, AllPairs, filter, nat_lt}
use Rattle.std.specs.List.{AllByRecursion}
use Rattle.std.proofs.lemmas.Bool.{eq-eqb, eqb-true, ltb-true, ne_eqb}
use Rattle.std.proofs.lemmas.List.{append-nil}
use Rattle.std.proofs.lemmas.List.Elements.{filter-append}
use Rattle.room_list.specs.Roomed.{Roomed}
use Rattle.history_book.specs.declared.answer.Answer.{Answer}
use Rattle.history_book.specs.declared.event.Event.{Event}
use Rattle.history_book.specs.declared.event.Note.{Note}
use Rattle.history_book.specs.declared.event.Numbered.{Numbered}
use Rattle.history_book.specs.declared.verdict.Verdict.{Verdict}
use Rattle.history_book.specs.Merge.{CoverEach, CoverFrom, EventSpan, spans_of, spans_of_answers, spans_of_verdicts}
use Rattle.history_book.specs.Numbered.{events_of, notes_of}
use Rattle.packet_path.specs.Packet.{Given}
use Rattle.packet_path.specs.Laws.{VerdictsStillFit}
use Rattle.history_book.specs.Point.{StartsWith}
use Rattle.replay_runs.specs.Report.{AreNamedFrom, AreNamedInEach, at_start, captures_end, made_by, past_verdicts, ThreadsFit, TrackerSetup, VerdictsFit}
use Rattle.replay_runs.specs.Heard.{captures_made}
use Rattle.replay_runs.specs.Run.{AreThreads, items_of}
use Rattle.replay_runs.proofs.Counting.{either}
use Rattle.replay_runs.proofs.Each.{each_append, each_dropped, each_passed, each_taken, each_weaker}
use Rattle.replay_runs.proofs.Interleaved.{rising, RisesFrom}
use Rattle.replay_runs.proofs.Replays.{notes_still_fit}
use Rattle.replay_runs.proofs.Marks.{mark_past-le, NumbersBelow}
use Rattle.replay_runs.proofs.FitsNamed.{shares_named, verdicts_cover}
use Rattle.replay_runs.proofs.Names.{all_named, name_of, named, named_in, named_in_notes}

-- each list has the events of a thread's verdicts, behind which its mark lies in m, with numbers that rise; and the last has
-- the script's, which rise
pub data ListsFit (tracker : TrackerSetup) (log : List Event) (m : ℕ) (script : List Note)
    : List (List Given) → List (Roomed Verdict) → List (Roomed Note) → Type 0 where
  last : (l : Roomed Note) → l.items ≡ script → RisesFrom 0 l.items → ListsFit tracker log m script [] [] (l ∷ [])
  more : (gs : List Given) (gss : List (List Given)) (vs : Roomed Verdict) (vss : List (Roomed Verdict))
      (l : Roomed Note) (lists : List (Roomed Note))
      → VerdictsFit tracker log l.items at_start gs vs.items → (past_verdicts at_start l.items vs.items).mark ≤ m → RisesFrom 0 l.items
      → ListsFit tracker log m script gss vss lists
      → ListsFit tracker log m script (gs ∷ gss) (vs ∷ vss) (l ∷ lists)

-- what always holds
each_always : {X : Type 0} (P : X → Type 0) → ((x : X) → P x) → (xs : List X) → AllByRecursion P xs
each_always P f [] = tt
each_always P f (x ∷ xs) = (f x, each_always P f xs)

-- events in the order of their numbers rise from 0
rising_all : (xs : List Note) → AllPairs (λ (a b : Note). a.number < b.number) xs → RisesFrom 0 xs
rising_all xs ordered = rising 0 xs (each_always (λ (x : Note). 0 ≤ x.number) (λ x. omega arith) xs) ordered

-- the lists of threads and the script's are such lists, when the history goes on
pub lists_fit : (still : VerdictsStillFit) (tracker : TrackerSetup) (longer log : List Event) (starts : StartsWith longer log) (m : ℕ)
    (script : Roomed Note) → AllPairs (λ (a b : Note). a.number < b.number) script.items
    → (gss : List (List Given)) (vss : List (Roomed Verdict)) (lists : List (Roomed Note)) → AreThreads tracker log m gss vss lists
    → ListsFit tracker longer m script.items gss vss (lists ++ script ∷ [])
lists_fit still tracker longer log starts m script ordered [] [] [] threads = last script refl (rising_all script.items ordered)
lists_fit still tracker longer log starts m script ordered [] [] (l ∷ lists) threads = absurd threads
lists_fit still tracker longer log starts m script ordered [] (w ∷ vss) lists threads = absurd threads
lists_fit still tracker longer log starts m script ordered (gs ∷ gss) [] lists threads = absurd threads
lists_fit still tracker longer log starts m script ordered (gs ∷ gss) (w ∷ vss) [] threads = absurd threads
lists_fit still tracker longer log starts m script ordered (gs ∷ gss) (w ∷ vss) (l ∷ lists) (thread, threads) =
    more gs gss w vss l (lists ++ script ∷ [])
    (notes_still_fit still tracker longer log starts l.items at_start gs w.items thread.fit)
    thread.mark (rising_all l.items thread.ordered)
    (lists_fit still tracker longer log starts m script ordered gss vss lists threads)

module _ (tracker : TrackerSetup) (log : List Event) (m : ℕ) (script : List Note) where
  -- each list is covered by the spans of its thread
  pub lists_covered : {gss : List (List Given)} {vss : List (Roomed Verdict)} {lists : List (Roomed Note)}
      → ListsFit tracker log m script gss vss lists → (answers : List Answer) → CoverFrom 0 (length script) (spans_of_answers answers)
      → CoverEach lists (spans_of vss answers)
  lists_covered (last l same rises) answers covers =
      (subst (λ xs. CoverFrom 0 (length xs) (spans_of_answers answers)) (sym same) covers, tt)
  lists_covered (more gs gss vs vss l lists fit mark rises later) answers covers = (
    verdicts_cover tracker log l.items at_start (length l.items) gs vs.items fit (omega arith),
    lists_covered later answers covers,
  )

  -- there is a list for each thread, and one for the script
  pub lists_count : {gss : List (List Given)} {vss : List (Roomed Verdict)} {lists : List (Roomed Note)}
      → ListsFit tracker log m script gss vss lists → length lists ≡ length vss + 1
  lists_count (last l same rises) = refl
  lists_count (more gs gss vs vss l lists fit mark rises later) = omega (arith, lists_count later)

-- a thread's events are those that it made
made_by_self : (thread : ℕ) (events : List Numbered) → AllByRecursion (λ (n : Numbered). n.thread ≡ thread) events
    → made_by thread events ≡ events
made_by_self thread [] h = refl
made_by_self thread (x ∷ xs) (h, hs) =
    ap (λ b. cond b (x ∷ made_by thread xs) (made_by thread xs)) (eq-eqb x.thread thread h)
    ∙ ap (λ ys. x ∷ ys) (made_by_self thread xs hs)

-- and no other made one of them
made_by_others : (thread : ℕ) (events : List Numbered) → AllByRecursion (λ (n : Numbered). n.thread ≢ thread) events
    → made_by thread events ≡ []
made_by_others thread [] h = refl
made_by_others thread (x ∷ xs) (h, hs) =
    ap (λ b. cond b (x ∷ made_by thread xs) (made_by thread xs)) (ne_eqb x.thread thread h)
    ∙ made_by_others thread xs hs

made_by-append : (thread : ℕ) (xs ys : List Numbered) → made_by thread (xs ++ ys) ≡ made_by thread xs ++ made_by thread ys
made_by-append thread xs ys = filter-append (λ (n : Numbered). n.thread == thread) xs ys

-- what holds of the names of a thread's events, whatever the packet
each_named : (P : Numbered → Type 0) (thread index : ℕ) (notes : List Note)
    → AllByRecursion (λ (n : Note). (k : ℕ) → P (name_of thread k n)) notes → AllByRecursion P (named thread index notes)
each_named P thread index [] h = tt
each_named P thread index (n ∷ ns) (h, hs) = (h index, each_named P thread index ns hs)

each_named_in : (P : Numbered → Type 0) (thread index : ℕ) (notes : List Note) (ss : List EventSpan)
    → AllByRecursion (λ (n : Note). (k : ℕ) → P (name_of thread k n)) notes → AllByRecursion P (named_in thread index notes ss)
each_named_in P thread index notes [] h = tt
each_named_in P thread index notes (s ∷ ss) h =
    each_append P (named thread index (take s.made notes)) (named_in thread (index + 1) (drop s.made notes) ss)
    (each_named P thread index (take s.made notes) (each_taken (λ (n : Note). (k : ℕ) → P (name_of thread k n)) s.made notes h))
    (each_named_in P thread (index + 1) (drop s.made notes) ss (each_dropped (λ (n : Note). (k : ℕ) → P (name_of thread k n)) s.made notes h))

-- what holds of each name of the thread holds of its events
each_of_thread : (P : Numbered → Type 0) (thread : ℕ) → ((n : Note) (k : ℕ) → P (name_of thread k n)) → (notes : List Note) (ss : List EventSpan)
    → AllByRecursion P (named_in thread 0 notes ss)
each_of_thread P thread f notes ss =
    each_named_in P thread 0 notes ss (each_always (λ (n : Note). (k : ℕ) → P (name_of thread k n)) f notes)

-- no thread from this one on is an earlier one
others_later : (t thread : ℕ) (lists : List (Roomed Note)) (sss : List (List EventSpan)) → t < thread
    → AllByRecursion (λ (n : Numbered). n.thread ≢ t) (all_named thread lists sss)
others_later t thread [] sss before = tt
others_later t thread (l ∷ lists) [] before = tt
others_later t thread (l ∷ lists) (ss ∷ sss) before =
    each_append (λ (n : Numbered). n.thread ≢ t) (named_in thread 0 l.items ss) (all_named (thread + 1) lists sss)
    (each_of_thread (λ (n : Numbered). n.thread ≢ t) thread (λ n k e. omega (arith, before, e)) l.items ss)
    (others_later t (thread + 1) lists sss (omega (arith, before)))

-- the first thread's events
made_by_first : (thread : ℕ) (notes : List Note) (ss : List EventSpan) (rest : List Numbered)
    → AllByRecursion (λ (n : Numbered). n.thread ≢ thread) rest
    → made_by thread (named_in thread 0 notes ss ++ rest) ≡ named_in thread 0 notes ss
made_by_first thread notes ss rest others =
    made_by-append thread (named_in thread 0 notes ss) rest
    ∙ ap (λ xs. xs ++ made_by thread rest)
    (made_by_self thread (named_in thread 0 notes ss)
    (each_of_thread (λ (n : Numbered). n.thread ≡ thread) thread (λ n k. refl) notes ss))
    ∙ ap (λ xs. named_in thread 0 notes ss ++ xs) (made_by_others thread rest others)
    ∙ append-nil (named_in thread 0 notes ss)

-- and those of a later one
made_by_later : (t thread : ℕ) (notes : List Note) (ss : List EventSpan) (rest : List Numbered) → thread ≢ t
    → made_by t (named_in thread 0 notes ss ++ rest) ≡ made_by t rest
made_by_later t thread notes ss rest other =
    made_by-append t (named_in thread 0 notes ss) rest
    ∙ ap (λ xs. xs ++ made_by t rest)
    (made_by_others t (named_in thread 0 notes ss)
    (each_of_thread (λ (n : Numbered). n.thread ≢ t) thread (λ n k. other) notes ss))

-- a thread's events rise, and so do those of the threads behind it
one_rises : (t thread : ℕ) (notes : List Note) (ss : List EventSpan) (rest : List Numbered) → CoverFrom 0 (length notes) ss → RisesFrom 0 notes
    → AllByRecursion (λ (n : Numbered). n.thread ≢ thread) rest → (thread ≢ t → RisesFrom 0 (notes_of (made_by t rest)))
    → RisesFrom 0 (notes_of (made_by t (named_in thread 0 notes ss ++ rest)))
one_rises t thread notes ss rest covers rises others later =
    either (thread == t)
    (λ e. let same : thread ≡ t = eqb-true thread t e in
    subst (λ (k : ℕ). RisesFrom 0 (notes_of (made_by k (named_in thread 0 notes ss ++ rest)))) same
    (subst (λ xs. RisesFrom 0 (notes_of xs)) (sym (made_by_first thread notes ss rest others))
    (subst (RisesFrom 0) (sym (named_in_notes thread 0 0 (length notes) notes ss covers (omega arith))) rises)))
    (λ e. let other : thread ≢ t = (λ same. differ (sym e ∙ eq-eqb thread t same)) in
    subst (λ xs. RisesFrom 0 (notes_of xs)) (sym (made_by_later t thread notes ss rest other)) (later other))
  where
    differ : false ≡ true → ⊥
    differ e = absurd (cc e)

module _ (tracker : TrackerSetup) (log : List Event) (m : ℕ) (script : List Note) where
  -- the script's events
  pub script_made : {gss : List (List Given)} {vss : List (Roomed Verdict)} {lists : List (Roomed Note)}
      → ListsFit tracker log m script gss vss lists → (answers : List Answer) (thread end : ℕ) → end ≡ thread + length gss
      → made_by end (all_named thread lists (spans_of vss answers)) ≡ named_in end 0 script (spans_of_answers answers)
  script_made (last l same rises) answers thread end at =
      let here : thread ≡ end = omega (arith, at) in
      subst (λ (k : ℕ). made_by end (all_named k (l ∷ []) (spans_of [] answers)) ≡ named_in end 0 script (spans_of_answers answers)) (sym here)
      (made_by_first end l.items (spans_of_answers answers) [] tt ∙ ap (λ xs. named_in end 0 xs (spans_of_answers answers)) same)
  script_made (more gs gss vs vss l lists fit mark rises later) answers thread end at =
      made_by_later end thread l.items (spans_of_verdicts vs.items) (all_named (thread + 1) lists (spans_of vss answers))
      (omega (arith, at))
      ∙ script_made later answers (thread + 1) end (omega (arith, at))

  -- no thread has a number above the script's
  pub threads_within : {gss : List (List Given)} {vss : List (Roomed Verdict)} {lists : List (Roomed Note)}
      → ListsFit tracker log m script gss vss lists → (answers : List Answer) (thread end : ℕ) → end ≡ thread + length gss
      → AllByRecursion (λ (n : Numbered). n.thread ≤ end) (all_named thread lists (spans_of vss answers))
  threads_within (last l same rises) answers thread end at =
      each_append (λ (n : Numbered). n.thread ≤ end) (named_in thread 0 l.items (spans_of_answers answers)) []
      (each_of_thread (λ (n : Numbered). n.thread ≤ end) thread (λ n k. omega (arith, at)) l.items (spans_of_answers answers)) tt
  threads_within (more gs gss vs vss l lists fit mark rises later) answers thread end at =
      each_append (λ (n : Numbered). n.thread ≤ end) (named_in thread 0 l.items (spans_of_verdicts vs.items))
      (all_named (thread + 1) lists (spans_of vss answers))
      (each_of_thread (λ (n : Numbered). n.thread ≤ end) thread (λ n k. omega (arith, at)) l.items (spans_of_verdicts vs.items))
      (threads_within later answers (thread + 1) end (omega (arith, at)))

  -- what each thread made of the lists rises
  pub made_rises : {gss : List (List Given)} {vss : List (Roomed Verdict)} {lists : List (Roomed Note)}
      → ListsFit tracker log m script gss vss lists → (answers : List Answer) → CoverEach lists (spans_of vss answers) → (t thread : ℕ)
      → RisesFrom 0 (notes_of (made_by t (all_named thread lists (spans_of vss answers))))
  made_rises (last l same rises) answers (covers, tt) t thread =
      one_rises t thread l.items (spans_of_answers answers) [] covers rises tt (λ other. tt)
  made_rises (more gs gss vs vss l lists fit mark rises later) answers (covers, after) t thread =
      let rest : List Numbered = all_named (thread + 1) lists (spans_of vss answers) in
      one_rises t thread l.items (spans_of_verdicts vs.items) rest covers rises
      (others_later thread (thread + 1) lists (spans_of vss answers) (omega arith))
      (λ other. made_rises later answers after t (thread + 1))

-- the events of each thread name the packets and the commands that made them
pub each_named_from : (history : List Numbered) (thread : ℕ) (lists : List (Roomed Note)) (sss : List (List EventSpan)) → CoverEach lists sss
    → ((t : ℕ) → thread ≤ t → made_by t history ≡ made_by t (all_named thread lists sss)) → AreNamedInEach thread history sss
each_named_from history thread [] [] covers made = tt
each_named_from history thread [] (ss ∷ sss) covers made = absurd covers
each_named_from history thread (l ∷ lists) [] covers made = absurd covers
each_named_from history thread (l ∷ lists) (ss ∷ sss) (here, covers) made =
    let rest : List Numbered = all_named (thread + 1) lists sss in
    let own : made_by thread history ≡ named_in thread 0 l.items ss =
    made thread (omega arith) ∙ made_by_first thread l.items ss rest (others_later thread (thread + 1) lists sss (omega arith)) in (
      subst (λ xs. AreNamedFrom 0 xs ss) (sym own) (shares_named thread 0 0 (length l.items) l.items ss here (omega arith)),
      each_named_from history (thread + 1) lists sss covers
          (λ t from. made t (omega (arith, from)) ∙ made_by_later t thread l.items ss rest (omega (arith, from))),
    )

module _ (tracker : TrackerSetup) (m : ℕ) (script : List Note) (history : List Numbered) where
  -- the verdicts of each thread fit what it made of the history
  pub threads_fit : {gss : List (List Given)} {vss : List (Roomed Verdict)} {lists : List (Roomed Note)}
      → ListsFit tracker (events_of history) m script gss vss lists → (answers : List Answer) (thread : ℕ)
      → ((t : ℕ) → thread ≤ t → made_by t history ≡ made_by t (all_named thread lists (spans_of vss answers)))
      → ThreadsFit tracker history thread gss vss
  threads_fit (last l same rises) answers thread made = tt
  threads_fit (more gs gss vs vss l lists fit mark rises later) answers thread made =
      let ss : List EventSpan = spans_of_verdicts vs.items in
      let rest : List Numbered = all_named (thread + 1) lists (spans_of vss answers) in
      let own : made_by thread history ≡ named_in thread 0 l.items ss =
      made thread (omega arith)
      ∙ made_by_first thread l.items ss rest (others_later thread (thread + 1) lists (spans_of vss answers) (omega arith)) in
      let covers : CoverFrom 0 (length l.items) ss =
      verdicts_cover tracker (events_of history) l.items at_start (length l.items) gs vs.items fit (omega arith) in (
        subst (λ xs. VerdictsFit tracker (events_of history) xs at_start gs vs.items)
            (sym (ap notes_of own ∙ named_in_notes thread 0 0 (length l.items) l.items ss covers (omega arith))) fit,
        threads_fit later answers (thread + 1)
            (λ t from. made t (omega (arith, from)) ∙ made_by_later t thread l.items ss rest (omega (arith, from))),
      )

  -- the lists are what the threads of the captures made of it, and what the script did
  pub captures_are : {gss : List (List Given)} {vss : List (Roomed Verdict)} {lists : List (Roomed Note)}
      → ListsFit tracker (events_of history) m script gss vss lists → (answers : List Answer) (thread : ℕ)
      → ((t : ℕ) → thread ≤ t → made_by t history ≡ made_by t (all_named thread lists (spans_of vss answers)))
      → captures_made history thread gss ++ script ∷ [] ≡ items_of lists
  captures_are (last l same rises) answers thread made = ap (λ xs. xs ∷ []) (sym same)
  captures_are (more gs gss vs vss l lists fit mark rises later) answers thread made =
      let ss : List EventSpan = spans_of_verdicts vs.items in
      let rest : List Numbered = all_named (thread + 1) lists (spans_of vss answers) in
      let own : made_by thread history ≡ named_in thread 0 l.items ss =
      made thread (omega arith)
      ∙ made_by_first thread l.items ss rest (others_later thread (thread + 1) lists (spans_of vss answers) (omega arith)) in
      let covers : CoverFrom 0 (length l.items) ss =
      verdicts_cover tracker (events_of history) l.items at_start (length l.items) gs vs.items fit (omega arith) in
      ap₂ (λ (xs : List Note) (xss : List (List Note)). xs ∷ xss)
      (ap notes_of own ∙ named_in_notes thread 0 0 (length l.items) l.items ss covers (omega arith))
      (captures_are later answers (thread + 1)
      (λ t from. made t (omega (arith, from)) ∙ made_by_later t thread l.items ss rest (omega (arith, from))))

  -- and the captures end no later than m
  pub ends_within : {gss : List (List Given)} {vss : List (Roomed Verdict)} {lists : List (Roomed Note)}
      → ListsFit tracker (events_of history) m script gss vss lists → (answers : List Answer) (thread : ℕ)
      → ((t : ℕ) → thread ≤ t → made_by t history ≡ made_by t (all_named thread lists (spans_of vss answers)))
      → captures_end history thread vss ≤ m
  ends_within (last l same rises) answers thread made = omega arith
  ends_within (more gs gss vs vss l lists fit mark rises later) answers thread made =
      let ss : List EventSpan = spans_of_verdicts vs.items in
      let rest : List Numbered = all_named (thread + 1) lists (spans_of vss answers) in
      let own : made_by thread history ≡ named_in thread 0 l.items ss =
      made thread (omega arith)
      ∙ made_by_first thread l.items ss rest (others_later thread (thread + 1) lists (spans_of vss answers) (omega arith)) in
      let covers : CoverFrom 0 (length l.items) ss =
      verdicts_cover tracker (events_of history) l.items at_start (length l.items) gs vs.items fit (omega arith) in
      let here : (past_verdicts at_start (notes_of (made_by thread history)) vs.items).mark ≤ m =
      subst (λ xs. (past_verdicts at_start xs vs.items).mark ≤ m)
      (sym (ap notes_of own ∙ named_in_notes thread 0 0 (length l.items) l.items ss covers (omega arith))) mark in
      let after : captures_end history (thread + 1) vss ≤ m =
      ends_within later answers (thread + 1)
      (λ t from. made t (omega (arith, from)) ∙ made_by_later t thread l.items ss rest (omega (arith, from))) in
      omega (arith, here, after)
