-- The ends of a line: handed out to threads, and gathered again when these have told of their events.
use Rattle.std.proofs.Common.{◌≡◌, ℕ, ◌+◌, ◌≤◌, List, [], ◌∷◌, ◌++◌, length, map, refl, sym, ap, ap₂, subst, ◌∙◌, arith, append_assoc, length-append}
use Rattle.std.specs.Prelude.{All, MatchOption, None, Ok, OnOk, Option, option_map, Some}
use Rattle.std.specs.List.{AllByRecursion, AllZip, flat_map}
use Rattle.std.specs.Option.{option_to_list}
use Rattle.std.proofs.lemmas.Grind.{flat_map-append}
use Rattle.std.proofs.lemmas.List.{append-nil, map-append}
use Rattle.std.proofs.lemmas.List.Elements.{All-from_recursion, recursion_from_All}
use Rattle.atomic_table.specs.Seated.{TableId}
use Rattle.packet_headers.specs.declared.frame.Capture.{Capture}
use Rattle.event_listen.specs.Line.{AreSendingsOf, EarSight, HasSentNothing, IsHearingOf, IsSendingOf, LineSight, SendingSight}
use Rattle.history_book.specs.declared.event.Note.{Note}
use Rattle.history_book.specs.Sight.{Sight}
use Rattle.replay_runs.specs.declared.jobs.Job.{Job}
use Rattle.replay_runs.specs.Heard.{IsHeardOf}
use Rattle.replay_runs.specs.Internal.Jobs.{IsSet}
use Rattle.replay_runs.specs.Internal.Telling.{AreEnds, AreLaid, AreLaidFor, AreTold, Between, CanFinish, ends_in, HandsOut, HasTold, HaveTold, Hears, IsNew, IsReady, queue_of, Told}
use Rattle.replay_runs.proofs.Each.{each_append, each_both, each_end, each_weaker}
use Rattle.replay_runs.proofs.Halves.{zip_append}

-- ---- handing out

-- no thread has an end yet
pub handing_start : {D : Type 0} (all : List SendingSight) (jobs : List (Job D)) → jobs ≡ [] → HandsOut all jobs all
handing_start {D} all jobs none =
    subst (λ (js : List (Job D)). HandsOut all js all) (sym none) (record { order = refl; each = tt })

-- the next end, if there is any, and those behind it
abbrev Takes : (taken : Option SendingSight) (left rest : List SendingSight) → Type 0
Takes taken left rest = MatchOption taken ((left ≡ []) × (rest ≡ [])) (λ s. left ≡ s ∷ rest)

took : (taken : Option SendingSight) (left rest : List SendingSight) → Takes taken left rest → option_to_list taken ++ rest ≡ left
took None left rest (none, no_rest) = no_rest ∙ sym none
took (Some s) left rest is = sym is

took_none : (taken : Option SendingSight) (left rest : List SendingSight) → Takes taken left rest → taken ≡ None → rest ≡ []
took_none None left rest (none, no_rest) e = no_rest
took_none (Some s) left rest is e = absurd (cc e)

still_none : (taken : Option SendingSight) (left rest : List SendingSight) → Takes taken left rest → left ≡ [] → rest ≡ []
still_none None left rest (none, no_rest) e = no_rest
still_none (Some s) left rest is e = absurd (cc (sym is ∙ e))

-- one thread more has one
pub handing_next : {D : Type 0} (all left rest : List SendingSight) (jobs more : List (Job D)) (job : Job D) (taken : Option SendingSight)
    → HandsOut all jobs left → MatchOption taken ((left ≡ []) × (rest ≡ [])) (λ s. left ≡ s ∷ rest) → job.sending ≡ taken → more ≡ jobs ++ job ∷ []
    → HandsOut all more rest
handing_next {D} all left rest jobs more job taken so_far takes is pushed =
    let Q : Job D → Type 0 = λ j. j.sending ≡ None → rest ≡ [] in
    subst (λ (js : List (Job D)). HandsOut all js rest) (sym pushed) (record {
      order = ap (λ (xs : List SendingSight). xs ++ rest)
          (flat_map-append (λ (j : Job D). option_to_list j.sending) jobs (job ∷ [])
          ∙ ap (λ (xs : List SendingSight). ends_in jobs ++ xs) (append-nil (option_to_list job.sending) ∙ ap option_to_list is))
          ∙ append_assoc (ends_in jobs) (option_to_list taken) rest
          ∙ ap (λ (xs : List SendingSight). ends_in jobs ++ xs) (took taken left rest takes)
          ∙ so_far.order;
      each = each_append Q jobs (job ∷ [])
          (each_weaker (λ (j : Job D). j.sending ≡ None → left ≡ []) Q (λ j h e. still_none taken left rest takes (h e)) jobs so_far.each)
          (λ e. took_none taken left rest takes (sym is ∙ e), tt);
    })

-- ---- threads with their ends

-- no thread has an end where there is none
none_there : (P : LineSight → SendingSight → Type 0) (end : Option SendingSight) (others : List SendingSight) → option_to_list end ++ others ≡ [] → Between P None end
none_there P None others e = tt
none_there P (Some s) others e = absurd (cc e)

others_none : (end : Option SendingSight) (others : List SendingSight) → option_to_list end ++ others ≡ [] → others ≡ []
others_none None others e = e
others_none (Some s) others e = absurd (cc e)

module _ {D : Type 0} (sight : D → Sight) where
  quiet : (captures : List Capture) (jobs : List (Job D)) → AllZip (IsSet sight) captures jobs → ends_in jobs ≡ [] → AllByRecursion (IsReady sight None) jobs
  quiet [] [] set none = tt
  quiet [] (j ∷ jobs) set none = absurd set
  quiet (c ∷ captures) [] set none = absurd set
  quiet (c ∷ captures) (j ∷ jobs) (s, set) none = (
    record { own = s.own; new = none_there IsNew j.sending (ends_in jobs) none },
    quiet captures jobs set (others_none j.sending (ends_in jobs) none),
  )

  -- the end of a thread where no thread goes without
  has_new : (line : LineSight) (end : Option SendingSight) (others : List SendingSight) → (end ≡ None → ⊥)
      → AllByRecursion (IsNew line) (option_to_list end ++ others) → Between IsNew (Some line) end
  has_new line None others some new = absurd (some refl)
  has_new line (Some s) others some (h, hs) = h

  others_new : (line : LineSight) (end : Option SendingSight) (others : List SendingSight) → AllByRecursion (IsNew line) (option_to_list end ++ others)
      → AllByRecursion (IsNew line) others
  others_new line None others new = new
  others_new line (Some s) others (h, hs) = hs

  heard : (line : LineSight) (captures : List Capture) (jobs : List (Job D)) (left : List SendingSight) → AllZip (IsSet sight) captures jobs
      → AllByRecursion (λ (j : Job D). j.sending ≡ None → left ≡ []) jobs → (left ≡ [] → ⊥) → AllByRecursion (IsNew line) (ends_in jobs)
      → AllByRecursion (IsReady sight (Some line)) jobs
  heard line [] [] left set each some new = tt
  heard line [] (j ∷ jobs) left set each some new = absurd set
  heard line (c ∷ captures) [] left set each some new = absurd set
  heard line (c ∷ captures) (j ∷ jobs) left (s, set) (e, each) some new = (
    record { own = s.own; new = has_new line j.sending (ends_in jobs) (λ none. some (e none)) new },
    heard line captures jobs left set each some (others_new line j.sending (ends_in jobs) new),
  )

one_at_most : (end : Option SendingSight) → length (option_to_list end) ≤ 1
one_at_most None = omega arith
one_at_most (Some s) = omega arith

-- there are no more ends than threads
ends_short : {D : Type 0} (jobs : List (Job D)) → length (ends_in jobs) ≤ length jobs
ends_short [] = omega arith
ends_short {D} (j ∷ jobs) =
    omega (arith, one_at_most j.sending, ends_short jobs, length-append (option_to_list j.sending) (ends_in jobs))

one_if_some : (line : LineSight) (end : Option SendingSight) → Between IsNew (Some line) end → length (option_to_list end) ≡ 1
one_if_some line None h = absurd h
one_if_some line (Some s) h = refl

-- each thread has one
ends_long : {D : Type 0} (sight : D → Sight) (line : LineSight) (jobs : List (Job D)) → AllByRecursion (IsReady sight (Some line)) jobs
    → length (ends_in jobs) ≡ length jobs
ends_long sight line [] ready = refl
ends_long sight line (j ∷ jobs) (r, ready) =
    omega (arith, one_if_some line j.sending r.new, ends_long sight line jobs ready, length-append (option_to_list j.sending) (ends_in jobs))

-- what holds of the first items of a list
each_front : {X : Type 0} (P : X → Type 0) (xs ys : List X) → AllByRecursion P (xs ++ ys) → AllByRecursion P xs
each_front P [] ys h = tt
each_front P (x ∷ xs) ys (h, hs) = (h, each_front P xs ys hs)

-- new ends of a line
all_new : (line : LineSight) (all : List SendingSight) → All (IsSendingOf line) all → All HasSentNothing all → AllByRecursion (IsNew line) all
all_new line all of unsent =
    each_weaker (λ s. IsSendingOf line s × HasSentNothing s) (IsNew line) (λ s h. record { of = h.0; none = h.1.sent }) all
    (each_both (IsSendingOf line) HasSentNothing all (recursion_from_All (IsSendingOf line) all of) (recursion_from_All HasSentNothing all unsent))

-- the thread of the script has the last one
pub record ScriptHas (line : Option LineSight) (end : Option SendingSight) (left : List SendingSight) : Type 0 where
  pub new : Between IsNew line end
  pub none : left ≡ []

module _ {D : Type 0} (sight : D → Sight) (captures : List Capture) (jobs : List (Job D)) (ears : Option (List EarSight)) (all left rest : List SendingSight)
    (taken : Option SendingSight) (set : AllZip (IsSet sight) captures jobs) (hands : HandsOut all jobs left)
    (takes : MatchOption taken ((left ≡ []) × (rest ≡ [])) (λ s. left ≡ s ∷ rest)) where
  nil_front : (xs ys : List SendingSight) → xs ++ ys ≡ [] → xs ≡ []
  nil_front [] ys e = refl
  nil_front (x ∷ xs) ys e = absurd (cc e)

  nil_back : (xs ys : List SendingSight) → xs ++ ys ≡ [] → ys ≡ []
  nil_back [] ys e = e
  nil_back (x ∷ xs) ys e = absurd (cc e)

  some_left : (line : LineSight) (hears : List EarSight) → AreLaid (length jobs + 1) line hears all → left ≡ [] → ⊥
  some_left line hears laid none =
      absurd (omega (arith, laid.many, ends_short jobs, ap length hands.order, length-append (ends_in jobs) left, ap length none))

  new_ends : (line : LineSight) (hears : List EarSight) → AreLaid (length jobs + 1) line hears all → AllByRecursion (IsNew line) (ends_in jobs ++ left)
  new_ends line hears laid = subst (AllByRecursion (IsNew line)) (sym hands.order) (all_new line all laid.sendings.each laid.unsent)

  pub all_ready : (line : Option LineSight) → AreLaidFor (length jobs + 1) line ears all → AllByRecursion (IsReady sight line) jobs
  all_ready None laid = quiet sight captures jobs set (nil_front (ends_in jobs) left (hands.order ∙ no_ends ears laid))
    where
      no_ends : (e : Option (List EarSight)) → AreLaidFor (length jobs + 1) None e all → all ≡ []
      no_ends None none = none
      no_ends (Some hears) none = absurd none
  all_ready (Some line) laid = by ears laid
    where
      by : (e : Option (List EarSight)) → AreLaidFor (length jobs + 1) (Some line) e all → AllByRecursion (IsReady sight (Some line)) jobs
      by None h = absurd h
      by (Some hears) h =
          heard sight line captures jobs left set hands.each (some_left line hears h) (each_front (IsNew line) (ends_in jobs) left (new_ends line hears h))

  -- the script's thread has the last end
  pub script_has : (line : Option LineSight) → AreLaidFor (length jobs + 1) line ears all → ScriptHas line taken rest
  script_has None laid =
      let none : left ≡ [] = nil_back (ends_in jobs) left (hands.order ∙ no_ends ears laid) in
      record { new = none_there IsNew taken rest (took taken left rest takes ∙ none); none = still_none taken left rest takes none }
    where
      no_ends : (e : Option (List EarSight)) → AreLaidFor (length jobs + 1) None e all → all ≡ []
      no_ends None none = none
      no_ends (Some hears) none = absurd none
  script_has (Some line) laid = by ears laid
    where
      empty : (xs : List SendingSight) → length xs ≡ 0 → xs ≡ []
      empty [] e = refl
      empty (x ∷ xs) e = absurd (omega (arith, e))

      of : (end : Option SendingSight) → Takes end left rest → (left ≡ [] → ⊥) → AllByRecursion (IsNew line) left → length left ≡ 1
          → ScriptHas (Some line) end rest
      of None (none, no_rest) some new one = absurd (some none)
      of (Some s) is some new one =
          let both : AllByRecursion (IsNew line) (s ∷ rest) = subst (AllByRecursion (IsNew line)) is new in
          record { new = both.0; none = empty rest (omega (arith, one, ap length is)) }

      by : (e : Option (List EarSight)) → AreLaidFor (length jobs + 1) (Some line) e all → ScriptHas (Some line) taken rest
      by None h = absurd h
      by (Some hears) h =
          let ready : AllByRecursion (IsReady sight (Some line)) jobs =
          heard sight line captures jobs left set hands.each (some_left line hears h) (each_front (IsNew line) (ends_in jobs) left (new_ends line hears h)) in
          of taken takes (some_left line hears h) (each_end (IsNew line) (ends_in jobs) left (new_ends line hears h))
          (omega (arith, h.many, ends_long sight line jobs ready, ap length hands.order, length-append (ends_in jobs) left))

-- ---- gathering

-- one end more behind those of some threads
pub gathering_next : {D : Type 0} (before now next : List SendingSight) (jobs : List (Job D)) (job : Job D) → now ≡ before ++ ends_in jobs
    → next ≡ now ++ option_to_list job.sending → next ≡ before ++ ends_in (jobs ++ job ∷ [])
gathering_next {D} before now next jobs job so_far put =
    put ∙ ap (λ (xs : List SendingSight). xs ++ option_to_list job.sending) so_far
    ∙ append_assoc before (ends_in jobs) (option_to_list job.sending)
    ∙ ap (λ (xs : List SendingSight). before ++ xs)
    (ap (λ (xs : List SendingSight). ends_in jobs ++ xs) (sym (append-nil (option_to_list job.sending)))
    ∙ sym (flat_map-append (λ (j : Job D). option_to_list j.sending) jobs (job ∷ [])))

-- the queues of ends
abbrev queues : List SendingSight → List TableId
queues ends = map (λ (s : SendingSight). s.queue) ends

one_queue : (old new : Option SendingSight) → queue_of new ≡ queue_of old → queues (option_to_list new) ≡ queues (option_to_list old)
one_queue None None e = refl
one_queue None (Some n) e = absurd (cc e)
one_queue (Some o) None e = absurd (cc e)
one_queue (Some o) (Some n) e = ap (λ (q : Option TableId). option_to_list q) e

module _ {D : Type 0} (sight : D → Sight) where
  -- the ends send to the same queues
  queues_stay : (line : Option LineSight) (jobs done : List (Job D)) → AllZip (Told sight line) jobs done → queues (ends_in done) ≡ queues (ends_in jobs)
  queues_stay line [] [] told = refl
  queues_stay line [] (n ∷ done) told = absurd told
  queues_stay line (o ∷ jobs) [] told = absurd told
  queues_stay line (o ∷ jobs) (n ∷ done) (t, told) =
      map-append (λ (s : SendingSight). s.queue) (option_to_list n.sending) (ends_in done)
      ∙ ap₂ (λ (xs ys : List TableId). xs ++ ys) (one_queue o.sending n.sending t.queue) (queues_stay line jobs done told)
      ∙ sym (map-append (λ (s : SendingSight). s.queue) (option_to_list o.sending) (ends_in jobs))

  -- each has told of its thread's events
  own_told : (line : LineSight) (own : List Note) (end : Option SendingSight) → Between (HasTold own) (Some line) end → (made : List (List Note)) (ends : List SendingSight)
      → AllZip (λ o e. HasTold o line e) made ends → AllZip (λ o e. HasTold o line e) (own ∷ made) (option_to_list end ++ ends)
  own_told line own None h made ends all = absurd h
  own_told line own (Some s) h made ends all = (h, all)

  jobs_told : (line : LineSight) (jobs done : List (Job D)) → AllZip (Told sight (Some line)) jobs done → AllByRecursion (λ (j : Job D). j.ended ≡ Ok tt) done
      → AllZip (λ o e. HasTold o line e) (map (λ (j : Job D). (sight j.desk).own) done) (ends_in done)
  jobs_told line [] [] told ended = tt
  jobs_told line [] (n ∷ done) told ended = absurd told
  jobs_told line (o ∷ jobs) [] told ended = absurd told
  jobs_told line (o ∷ jobs) (n ∷ done) (t, told) (e, ended) =
      own_told line (sight n.desk).own n.sending
      (subst (λ x. OnOk x (Between (HasTold (sight n.desk).own) (Some line) n.sending)) e t.told)
      (map (λ (j : Job D). (sight j.desk).own) done) (ends_in done) (jobs_told line jobs done told ended)

zip_each : {A B : Type 0} (R : A → B → Type 0) (P : B → Type 0) → ((a : A) (b : B) → R a b → P b) → (xs : List A) (ys : List B) → AllZip R xs ys → AllByRecursion P ys
zip_each R P so [] [] h = tt
zip_each R P so [] (y ∷ ys) h = absurd h
zip_each R P so (x ∷ xs) [] h = absurd h
zip_each R P so (x ∷ xs) (y ∷ ys) (h, hs) = (so x y h, zip_each R P so xs ys hs)

-- the gathered ends have told of the events of all threads, the script's behind the others
module _ {D : Type 0} (sight : D → Sight) (line : LineSight) (jobs done : List (Job D)) (all left gathered : List SendingSight) (old new : Option SendingSight)
    (own : List Note) (told : AllZip (Told sight (Some line)) jobs done) (ended : AllByRecursion (λ (j : Job D). j.ended ≡ Ok tt) done)
    (last : Between (HasTold own) (Some line) new) (queue : queue_of new ≡ queue_of old)
    (order : ends_in jobs ++ option_to_list old ≡ all) (is : gathered ≡ ends_in done ++ option_to_list new) where
  pub ends_told : AllZip (λ o e. HasTold o line e) (map (λ (j : Job D). (sight j.desk).own) done ++ own ∷ []) gathered
  ends_told =
      subst (λ es. AllZip (λ o e. HasTold o line e) (map (λ (j : Job D). (sight j.desk).own) done ++ own ∷ []) es) (sym is)
      (zip_append (λ o e. HasTold o line e) (map (λ (j : Job D). (sight j.desk).own) done) (own ∷ []) (ends_in done) (option_to_list new)
      (jobs_told sight line jobs done told ended)
      (subst (λ es. AllZip (λ o e. HasTold o line e) (own ∷ []) es) (append-nil (option_to_list new)) (own_told sight line own new last [] [] tt)))

  pub gathered_ends : AreSendingsOf line all → AreSendingsOf line gathered
  gathered_ends sendings = record {
    queues = ap queues is ∙ map-append (λ (s : SendingSight). s.queue) (ends_in done) (option_to_list new)
        ∙ ap₂ (λ (xs ys : List TableId). xs ++ ys) (queues_stay sight (Some line) jobs done told) (one_queue old new queue)
        ∙ sym (map-append (λ (s : SendingSight). s.queue) (ends_in jobs) (option_to_list old)) ∙ ap queues order ∙ sendings.queues;
    each = All-from_recursion (IsSendingOf line) gathered
        (zip_each (λ o e. HasTold o line e) (IsSendingOf line) (λ o e h. h.of) (map (λ (j : Job D). (sight j.desk).own) done ++ own ∷ []) gathered ends_told);
  }

-- what ends have told of was heard of their threads
told_heard : (line : LineSight) → line.capacity ≡ 1024 → (made : List (List Note)) (ends : List SendingSight) → AllZip (λ o e. HasTold o line e) made ends
    → AllZip IsHeardOf made (map (λ (s : SendingSight). s.sent) ends)
told_heard line room [] [] told = tt
told_heard line room [] (e ∷ ends) told = absurd told
told_heard line room (o ∷ made) [] told = absurd told
told_heard line room (o ∷ made) (e ∷ ends) (t, told) =
    (record { first = t.first; enough = omega (arith, t.enough, room) }, told_heard line room made ends told)

pub heard_of_told : (made : List (List Note)) (lent : Option LineSight) (line : LineSight) (ends : List SendingSight) (heard : List (List Note))
    → lent ≡ Some line → AreTold made lent ends → heard ≡ map (λ (s : SendingSight). s.sent) ends → AllZip IsHeardOf made heard
heard_of_told made lent line ends heard is told whole =
    let h : HaveTold made line ends = subst (λ (l : Option LineSight). AreTold made l ends) is told in
    subst (λ (hs : List (List Note)). AllZip IsHeardOf made hs) (sym whole) (told_heard line h.capacity made ends h.each)

-- a listener hears a new line
pub laid_hears : (threads : ℕ) (line : Option LineSight) (ears : Option (List EarSight)) (ends : List SendingSight) → AreLaidFor threads line ears ends
    → Hears line ears
laid_hears threads None None ends laid = tt
laid_hears threads None (Some ears) ends laid = absurd laid
laid_hears threads (Some line) None ends laid = absurd laid
laid_hears threads (Some line) (Some ears) ends laid = laid.hearing

module _ {D : Type 0} (sight : D → Sight) (captures : List Capture) (jobs done : List (Job D)) (ears heard : Option (List EarSight))
    (all left rest gathered : List SendingSight) (old new : Option SendingSight) (own : List Note) (set : AllZip (IsSet sight) captures jobs)
    (hands : HandsOut all jobs left) (takes : MatchOption old ((left ≡ []) × (rest ≡ [])) (λ s. left ≡ s ∷ rest))
    (ended : AllByRecursion (λ (j : Job D). j.ended ≡ Ok tt) done) (queue : queue_of new ≡ queue_of old)
    (is : gathered ≡ (rest ++ ends_in done) ++ option_to_list new) where
  order : (line : Option LineSight) → AreLaidFor (length jobs + 1) line ears all → ends_in jobs ++ option_to_list old ≡ all
  order line laid =
      ap (λ (xs : List SendingSight). ends_in jobs ++ xs)
      (sym (append-nil (option_to_list old))
      ∙ ap (λ (xs : List SendingSight). option_to_list old ++ xs) (sym (script_has sight captures jobs ears all left rest old set hands takes line laid).none)
      ∙ took old left rest takes)
      ∙ hands.order

  these : (line : Option LineSight) → AreLaidFor (length jobs + 1) line ears all → gathered ≡ ends_in done ++ option_to_list new
  these line laid =
      is ∙ ap (λ (xs : List SendingSight). (xs ++ ends_in done) ++ option_to_list new)
      (script_has sight captures jobs ears all left rest old set hands takes line laid).none

  -- all ends were gathered
  pub all_ends : (line : Option LineSight) → AreLaidFor (length jobs + 1) line ears all → AllZip (Told sight line) jobs done
      → Between (HasTold own) line new → Hears line heard → CanFinish line heard gathered
  all_ends None laid told last hears = none heard hears
    where
      none : (h : Option (List EarSight)) → Hears None h → CanFinish None h gathered
      none None hears = tt
      none (Some h) hears = absurd hears
  all_ends (Some line) laid told last hears = some ears heard laid hears
    where
      some : (e h : Option (List EarSight)) → AreLaidFor (length jobs + 1) (Some line) e all → Hears (Some line) h → CanFinish (Some line) h gathered
      some None h laid' hears' = absurd laid'
      some (Some e) None laid' hears' = absurd hears'
      some (Some e) (Some h) laid' hears' = record {
        hearing = hears';
        sendings = gathered_ends sight line jobs done all left gathered old new own told ended last queue (order (Some line) laid) (these (Some line) laid)
            laid'.sendings;
      }

  -- and have told of the events of their threads
  pub all_told : (line : Option LineSight) → AreLaidFor (length jobs + 1) line ears all → AllZip (Told sight line) jobs done
      → Between (HasTold own) line new → (made : List (List Note)) → made ≡ map (λ (j : Job D). (sight j.desk).own) done ++ own ∷ []
      → AreTold made line gathered
  all_told None laid told last made are = tt
  all_told (Some line) laid told last made are =
      record {
        capacity = capacity ears laid;
        each = subst (λ (ms : List (List Note)). AllZip (λ o e. HasTold o line e) ms gathered) (sym are)
            (ends_told sight line jobs done all left gathered old new own told ended last queue (order (Some line) laid) (these (Some line) laid));
      }
    where
      capacity : (e : Option (List EarSight)) → AreLaidFor (length jobs + 1) (Some line) e all → line.capacity ≡ 1024
      capacity None laid' = absurd laid'
      capacity (Some e) laid' = laid'.capacity
