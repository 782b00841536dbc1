-- Making the queues of a line one by one.
use Rattle.std.proofs.Common.{◌≡◌, ℕ, ◌+◌, List, [], ◌∷◌, ◌++◌, length, sym, refl, ap, ◌∙◌, subst, arith, length-append, map}
use Rattle.std.specs.Prelude.{All, Some, false, slice_get}
use Rattle.std.proofs.lemmas.List.Elements.{All-nil}
use Rattle.atomic_table.specs.Seated.{TableId}
use Rattle.crossbeam_queue.specs.declared.array_queue.Slotted.{Slotted}
use Rattle.event_listen.specs.Line.{EarSight, HasSentNothing, IsSendingOf, LineSight, SendingSight}
use Rattle.event_listen.proofs.Lists.{all_more, get_last, get_more, map_more}

-- so many queues are made, with their ends
pub record IsLaid (capacity n : ℕ) (queues : List TableId) (ears : List EarSight) (sendings : List SendingSight) : Type 0 where
  pub count : length queues ≡ n
  pub ears_are : map (λ e. e.queue) ears ≡ queues
  pub unheard : All (λ e. e.heard ≡ []) ears
  pub sendings_are : map (λ s. s.queue) sendings ≡ queues
  pub each : All (IsSendingOf (record { queues = queues; capacity = capacity })) sendings
  pub unsent : All HasSentNothing sendings

pub none_laid : (capacity : ℕ) → IsLaid capacity 0 [] [] []
none_laid capacity = record { count = refl; ears_are = refl; unheard = All-nil _; sendings_are = refl; each = All-nil _; unsent = All-nil _ }

-- one queue more, with its ends
pub laid_more : (capacity n : ℕ) (queues queues' : List TableId) (ears ears' : List EarSight) (sendings sendings' : List SendingSight) (queue : TableId) (ear : EarSight) (sending : SendingSight)
    → IsLaid capacity n queues ears sendings
    → queues' ≡ queues ++ queue ∷ [] → ears' ≡ ears ++ ear ∷ [] → sendings' ≡ sendings ++ sending ∷ []
    → ear ≡ record { queue = queue; heard = [] }
    → sending ≡ record { sender = n; queue = queue; capacity = capacity; sent = []; full = false }
    → IsLaid capacity (n + 1) queues' ears' sendings'
laid_more capacity n queues queues' ears ears' sendings sendings' queue ear sending h queues_are ears_are sendings_are is_ear is_sending =
    let longer : LineSight = record { queues = queues ++ queue ∷ []; capacity = capacity } in
    let stays : All (IsSendingOf longer) sendings = λ i d below. let s = h.each i d below in record { queue = get_more queues (queue ∷ []) _ _ s.queue; capacity = s.capacity } in
    let at_end : slice_get (queues ++ queue ∷ []) n ≡ Some queue = subst (λ (k : ℕ). slice_get (queues ++ queue ∷ []) k ≡ Some queue) h.count (get_last queues queue) in
    let more : IsLaid capacity (n + 1) (queues ++ queue ∷ []) (ears ++ ear ∷ []) (sendings ++ sending ∷ []) = record {
      count = omega (arith, length-append queues (queue ∷ []), h.count);
      ears_are = map_more (λ (e : EarSight). e.queue) ears ear ∙ (λ i. h.ears_are i ++ (is_ear i).queue ∷ []);
      unheard = all_more (λ (e : EarSight). e.heard ≡ []) ears ear h.unheard (ap (λ (e : EarSight). e.heard) is_ear);
      sendings_are = map_more (λ (s : SendingSight). s.queue) sendings sending ∙ (λ i. h.sendings_are i ++ (is_sending i).queue ∷ []);
      each = all_more (IsSendingOf longer) sendings sending stays (subst (IsSendingOf longer) (sym is_sending) (record { queue = at_end; capacity = refl }));
      unsent = all_more HasSentNothing sendings sending h.unsent (subst HasSentNothing (sym is_sending) (record { sent = refl; full = refl }));
    } in
    subst (λ (t : List TableId × List EarSight × List SendingSight). IsLaid capacity (n + 1) t.0 t.1 t.2) (λ i. (sym queues_are i, sym ears_are i, sym sendings_are i)) more

-- each queue has the capacity
pub capacities_more : {S D Q A : Type 0} (capacity : ℕ) (queues queues' : List (Slotted S D Q A)) (queue : Slotted S D Q A)
    → All (λ q. q.cap ≡ capacity) queues → queue.cap ≡ capacity → queues' ≡ queues ++ queue ∷ [] → All (λ q. q.cap ≡ capacity) queues'
capacities_more capacity queues queues' queue h one are = subst (All (λ q. q.cap ≡ capacity)) (sym are) (all_more (λ q. q.cap ≡ capacity) queues queue h one)
