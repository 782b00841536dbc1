-- What joining desks has done so far.
use Rattle.std.proofs.Common.{◌≡◌, ℕ, ◌+◌, List, [], ◌∷◌, ◌++◌, length, sym, ap, ap₂, subst, ◌∙◌, arith, append_assoc, length-append}
use Rattle.std.specs.Prelude.{Ok}
use Rattle.std.proofs.lemmas.List.{append-nil, map-append}
use Rattle.room_list.specs.Roomed.{Roomed}
use Rattle.history_book.specs.declared.event.Note.{Note}
use Rattle.history_book.specs.declared.verdict.Verdict.{Verdict}
use Rattle.history_book.specs.Join.{CanJoin, Joins}
use Rattle.history_book.specs.Merge.{all_notes}
use Rattle.history_book.specs.Places.{HoldsNothing}
use Rattle.history_book.specs.Point.{StartsWith}
use Rattle.history_book.specs.Sight.{IsKnown, Sight}
use Rattle.replay_runs.specs.declared.jobs.Job.{Job}
use Rattle.replay_runs.specs.Internal.Jobs.{AreFurther, HasJoined, IsFurther}
use Rattle.replay_runs.specs.Run.{items_of}
use Rattle.replay_runs.proofs.Each.{each_append, each_end, each_weaker}
use Rattle.replay_runs.proofs.Marks.{starts_on}

-- all events of lists, and of one more
pub notes_push : (lists : List (Roomed Note)) (l : Roomed Note) → all_notes (lists ++ l ∷ []) ≡ all_notes lists ++ l.items
notes_push [] l = append-nil l.items
notes_push (k ∷ lists) l = ap (λ xs. k.items ++ xs) (notes_push lists l) ∙ sym (append_assoc k.items (all_notes lists) l.items)

-- none has joined yet
pub joining_start : {D : Type 0} (sight : D → Sight) (old : Sight) (lists : List (Roomed Note)) (threads : List (Roomed Verdict)) → IsKnown old
    → lists ≡ [] → threads ≡ [] → HasJoined sight [] old old lists threads
joining_start sight old lists threads known no_lists no_threads = record {
  ended = tt;
  fronts = tt;
  front = ([], sym (append-nil old.front));
  notes = ap items_of no_lists;
  verdicts = no_threads;
  kept = ap₂ (λ (n : ℕ) (notes : List Note). record old { returned = n; gathered = notes }) (omega arith)
      (sym (append-nil old.gathered) ∙ ap (λ ls. old.gathered ++ all_notes ls) (sym no_lists));
  known = known;
}

module _ {D : Type 0} (sight : D → Sight) (jobs : List (Job D)) (old mid : Sight) (lists : List (Roomed Note)) (threads : List (Roomed Verdict))
    (so_far : HasJoined sight jobs old mid lists threads) (job : Job D) (of : IsFurther old.tracker old.sizes (sight job.desk)) where
  -- one more can join
  pub joining_can : HoldsNothing old → CanJoin mid (sight job.desk)
  joining_can empty = record {
    same = of.tracked ∙ sym (ap (λ (s : Sight). s.tracker) so_far.kept);
    empty = record {
      held = ap (λ (s : Sight). s.held) so_far.kept ∙ empty.held;
      owed = ap (λ (s : Sight). s.owed) so_far.kept ∙ empty.owed;
    };
    other_empty = of.empty;
  }

  module _ (new : Sight) (notes : Roomed Note) (joins : Joins mid (sight job.desk) new notes.items) where
    gathered_push : (lists' : List (Roomed Note)) → lists' ≡ lists ++ notes ∷ []
        → mid.gathered ++ (sight job.desk).own ++ (sight job.desk).gathered ≡ old.gathered ++ all_notes lists'
    gathered_push lists' pushed =
        ap (λ xs. mid.gathered ++ (sight job.desk).own ++ xs) of.gathered ∙ append-nil (mid.gathered ++ (sight job.desk).own)
        ∙ ap (λ xs. xs ++ (sight job.desk).own) (ap (λ (s : Sight). s.gathered) so_far.kept)
        ∙ append_assoc old.gathered (all_notes lists) (sight job.desk).own
        ∙ ap (λ xs. old.gathered ++ (all_notes lists ++ xs)) (sym joins.given)
        ∙ ap (λ xs. old.gathered ++ xs) (sym (notes_push lists notes) ∙ ap all_notes (sym pushed))

    kept_push : (lists' : List (Roomed Note)) → lists' ≡ lists ++ notes ∷ []
        → new ≡ record old { front = new.front; returned = old.returned + length (jobs ++ job ∷ []); gathered = old.gathered ++ all_notes lists' }
    kept_push lists' pushed =
        joins.kept
        ∙ ap (λ (s : Sight). record s {
          front = new.front;
          returned = mid.returned + ((sight job.desk).shares + (sight job.desk).returned);
          gathered = mid.gathered ++ (sight job.desk).own ++ (sight job.desk).gathered;
        }) so_far.kept
        ∙ ap₂ (λ (n : ℕ) (xs : List Note). record old { front = new.front; returned = n; gathered = xs })
        (omega (
          arith,
          ap (λ (s : Sight). s.returned) so_far.kept,
          of.shares,
          of.returned,
          length-append jobs (job ∷ []),
        ))
        (gathered_push lists' pushed)

    -- one more has joined
    pub joining_next : (lists' : List (Roomed Note)) (threads' : List (Roomed Verdict)) → IsKnown new → job.ended ≡ Ok tt
        → lists' ≡ lists ++ notes ∷ [] → threads' ≡ threads ++ job.verdicts ∷ []
        → HasJoined sight (jobs ++ job ∷ []) old new lists' threads'
    joining_next lists' threads' known ended pushed told = record {
      ended = each_append (λ (j : Job D). j.ended ≡ Ok tt) jobs (job ∷ []) so_far.ended (ended, tt);
      fronts = each_append (λ (j : Job D). StartsWith new.front (sight j.desk).front) jobs (job ∷ [])
          (each_weaker (λ (j : Job D). StartsWith mid.front (sight j.desk).front) (λ (j : Job D). StartsWith new.front (sight j.desk).front)
          (λ j starts. starts_on new.front mid.front (sight j.desk).front joins.front starts) jobs so_far.fronts)
          (joins.other_front, tt);
      front = starts_on new.front mid.front old.front joins.front so_far.front;
      notes = ap items_of pushed ∙ map-append (λ (l : Roomed Note). l.items) lists (notes ∷ [])
          ∙ ap₂ (λ (xs : List (List Note)) (l : List Note). xs ++ l ∷ []) so_far.notes joins.given
          ∙ sym (map-append (λ (j : Job D). (sight j.desk).own) jobs (job ∷ []));
      verdicts = told ∙ ap (λ vss. vss ++ job.verdicts ∷ []) so_far.verdicts
          ∙ sym (map-append (λ (j : Job D). j.verdicts) jobs (job ∷ []));
      kept = kept_push lists' pushed;
      known = known;
    }

-- the next of the jobs that are left is one of all
pub next_further : {D : Type 0} (sight : D → Sight) (tracker : List ℕ) (sizes : Rattle.history_book.specs.declared.sizes.Sizes.Sizes) (all done left later : List (Job D)) (job : Job D)
    → AreFurther sight tracker sizes all → done ++ left ≡ all → left ≡ job ∷ later → IsFurther tracker sizes (sight job.desk)
next_further {D} sight tracker sizes all done left later job further split next =
    (subst (λ js. AreFurther sight tracker sizes js) next
    (each_end (λ (j : Job D). IsFurther tracker sizes (sight j.desk)) done left (subst (λ js. AreFurther sight tracker sizes js) (sym split) further))).0
