-- Hearing the rest of each queue, the last sender's first.
use Rattle.std.proofs.Common.{◌≡◌, List, [], ◌∷◌, ◌++◌, sym, ap, ◌∙◌, subst, append_assoc, map}
use Rattle.std.specs.Prelude.{All}
use Rattle.std.proofs.lemmas.List.{append-nil}
use Rattle.atomic_table.specs.Seated.{TableId}
use Rattle.history_book.specs.declared.event.Note.{Note}
use Rattle.room_list.specs.Roomed.{Roomed}
use Rattle.event_listen.specs.Line.{EarSight, IsFilled, SendingSight}
use Rattle.event_listen.proofs.Lists.{all_more, map_more, same_ends}

abbrev pub queues_of : List SendingSight → List TableId
queues_of sendings = map (λ s. s.queue) sendings

abbrev pub sent_of : List SendingSight → List (List Note)
sent_of sendings = map (λ s. s.sent) sendings

abbrev pub heard_queues : List EarSight → List TableId
heard_queues ears = map (λ e. e.queue) ears

abbrev pub notes_of : List (Roomed Note) → List (List Note)
notes_of lists = map (λ l. l.items) lists

-- Of all sendings these are left, with as many ears and queues; the lists of the others are those that they sent.
pub record IsFinishing (all : List SendingSight) (queues : List TableId) (ears : List EarSight) (sendings : List SendingSight) (lists : List (Roomed Note)) : Type 0 where
  pub ears_are : heard_queues ears ≡ queues
  pub sendings_are : queues_of sendings ≡ queues
  pub whole : sent_of sendings ++ notes_of lists ≡ sent_of all
  pub filled : All IsFilled sendings → All IsFilled all

pub finish_begins : (all : List SendingSight) (queues : List TableId) (ears : List EarSight) → heard_queues ears ≡ queues → queues_of all ≡ queues → IsFinishing all queues ears all []
finish_begins all queues ears hearing sendings = record { ears_are = hearing; sendings_are = sendings; whole = append-nil (sent_of all); filled = λ h. h }

-- the ends of one sender are taken out, and its notes put before the others'
pub finish_goes_on : (all : List SendingSight) (queues queues' : List TableId) (ears ears' : List EarSight) (sendings sendings' : List SendingSight) (lists lists' : List (Roomed Note))
    (queue : TableId) (ear : EarSight) (sending : SendingSight) (notes : Roomed Note)
    → IsFinishing all queues ears sendings lists
    → queues ≡ queues' ++ queue ∷ [] → ears ≡ ears' ++ ear ∷ [] → sendings ≡ sendings' ++ sending ∷ [] → lists' ≡ notes ∷ lists
    → notes.items ≡ sending.sent → IsFilled sending → IsFinishing all queues' ears' sendings' lists'
finish_goes_on all queues queues' ears ears' sendings sendings' lists lists' queue ear sending notes h queues_are ears_are sendings_are lists_are whole filled =
    let ends = same_ends (heard_queues ears') queues' ear.queue queue
    (sym (map_more (λ (e : EarSight). e.queue) ears' ear) ∙ ap heard_queues (sym ears_are) ∙ h.ears_are ∙ queues_are) in
    let begins = same_ends (queues_of sendings') queues' sending.queue queue
    (sym (map_more (λ (s : SendingSight). s.queue) sendings' sending) ∙ ap queues_of (sym sendings_are) ∙ h.sendings_are ∙ queues_are) in
    record {
      ears_are = ends.0;
      sendings_are = begins.0;
      whole = ap (λ l. sent_of sendings' ++ notes_of l) lists_are ∙ ap (λ l. sent_of sendings' ++ l ∷ notes_of lists) whole
          ∙ sym (append_assoc (sent_of sendings') (sending.sent ∷ []) (notes_of lists))
          ∙ ap (λ l. l ++ notes_of lists) (sym (map_more (λ (s : SendingSight). s.sent) sendings' sending) ∙ ap sent_of (sym sendings_are)) ∙ h.whole;
      filled = λ some. h.filled (subst (All IsFilled) (sym sendings_are) (all_more IsFilled sendings' sending some filled));
    }
