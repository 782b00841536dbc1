-- A sending is taken out of a line's list, and put back at its end.
use Rattle.std.proofs.Common.{◌≡◌, refl, List, [], ◌∷◌, ◌++◌, length, sym, ap, ◌∙◌, subst, arith, map}
use Rattle.std.specs.Prelude.{All}
use Rattle.std.proofs.lemmas.List.{append-nil, length-map, map-append, nil_from_length}
use Rattle.std.proofs.lemmas.List.Elements.{All-append, All-cons, All-nil}
use Rattle.atomic_table.specs.Seated.{TableId}
use Rattle.event_listen.specs.Line.{AreSendingsOf, HasSentNothing, IsSendingOf, LineSight, SendingSight}
use Rattle.event_listen.specs.Pump.{BeginsWith, PumpSays}
use Rattle.event_listen.specs.declared.sending.Pumped.{Pumped}
use Rattle.event_listen.specs.declared.sending.Pumped.TheVariants as pumped
use Rattle.history_book.specs.declared.event.Note.{Note}
use Rattle.shared_tests.proofs.Lists.{all_end, all_front}

pub same_length : (xs ys : List SendingSight) → map (λ (s : SendingSight). s.queue) xs ≡ map (λ (s : SendingSight). s.queue) ys → length xs ≡ length ys
same_length xs ys e = omega (arith, length-map xs (λ (s : SendingSight). s.queue), length-map ys (λ (s : SendingSight). s.queue), ap length e)

-- the last one is of the line, and so are the others
pub last_is : (line : LineSight) (all left : List SendingSight) (last : SendingSight) → All (IsSendingOf line) all → all ≡ left ++ last ∷ [] → IsSendingOf line last
last_is line all left last h is = all_end (IsSendingOf line) left last (subst (All (IsSendingOf line)) is h)

pub back_again : (line : LineSight) (left all : List SendingSight) (last : SendingSight) → All (IsSendingOf line) left → IsSendingOf line last → all ≡ left ++ last ∷ [] → All (IsSendingOf line) all
back_again line left all last h is are = subst (All (IsSendingOf line)) (sym are) (All-append (IsSendingOf line) left (last ∷ []) h (All-cons (IsSendingOf line) last [] is (All-nil (IsSendingOf line))))

-- it is the line's after a pump too
pub stays_of : (line : LineSight) (own : List Note) (old new : SendingSight) (answer : Pumped) → PumpSays own old new answer → IsSendingOf line old → IsSendingOf line new
stays_of line own old new pumped.All says h = subst (IsSendingOf line) (sym says) (record { queue = h.queue; capacity = h.capacity })
stays_of line own old new pumped.Full says h = subst (IsSendingOf line) (sym says.end) (record { queue = h.queue; capacity = h.capacity })

-- any events begin with none
pub begins_with_none : (own sent : List Note) → length sent ≡ 0 → BeginsWith own sent
begins_with_none own sent none = (own, ap (λ l. l ++ own) (sym (nil_from_length sent none)))

-- it has the queue that it had
pub same_queue : (own : List Note) (old new : SendingSight) (answer : Pumped) → PumpSays own old new answer → new.queue ≡ old.queue
same_queue own old new pumped.All says = ap (λ (s : SendingSight). s.queue) says
same_queue own old new pumped.Full says = ap (λ (s : SendingSight). s.queue) says.end

-- the last one of a new line has sent nothing
pub last_begins : (own : List Note) (all left : List SendingSight) (last : SendingSight) → All HasSentNothing all → all ≡ left ++ last ∷ [] → BeginsWith own last.sent
last_begins own all left last h is =
    let nothing = all_end HasSentNothing left last (subst (All HasSentNothing) is h) in
    (own, ap (λ l. l ++ own) (sym nothing.sent))

-- what was sent are first own events still
pub pumped_begins : (own : List Note) (old new : SendingSight) (answer : Pumped) → PumpSays own old new answer → BeginsWith own new.sent
pumped_begins own old new pumped.All says = ([], sym (ap (λ (s : SendingSight). s.sent) says) ∙ sym (append-nil new.sent))
pumped_begins own old new pumped.Full says = says.next

-- the queues are again those that all had, where the last sending was taken out of the list, the others have their queues, and one with
-- its queue is put at the end
pub queues_again : (all left again both : List SendingSight) (old new : SendingSight)
    → all ≡ left ++ old ∷ [] → map (λ (s : SendingSight). s.queue) again ≡ map (λ (s : SendingSight). s.queue) left
    → new.queue ≡ old.queue → both ≡ again ++ new ∷ [] → map (λ (s : SendingSight). s.queue) both ≡ map (λ (s : SendingSight). s.queue) all
queues_again all left again both old new is same queue are =
    let queues : List SendingSight → List TableId = map (λ (s : SendingSight). s.queue) in
    ap queues are ∙ map-append (λ (s : SendingSight). s.queue) again (new ∷ []) ∙ ap (λ q. queues again ++ q ∷ []) queue ∙ ap (λ l. l ++ old.queue ∷ []) same
    ∙ sym (map-append (λ (s : SendingSight). s.queue) left (old ∷ [])) ∙ ap queues (sym is)

-- all are there again where the last one was taken out and one with its queue is put back
pub one_again : (line : LineSight) (all left again : List SendingSight) (old new : SendingSight)
    → AreSendingsOf line all → all ≡ left ++ old ∷ [] → IsSendingOf line new → new.queue ≡ old.queue → again ≡ left ++ new ∷ [] → AreSendingsOf line again
one_again line all left again old new h is of queue are =
    record {
      queues = queues_again all left left again old new is refl queue are ∙ h.queues;
      each = back_again line left again new (all_front (IsSendingOf line) left old (subst (All (IsSendingOf line)) is h.each)) of are;
    }

-- the same of the last two
pub two_again : (line : LineSight) (all left rest again both : List SendingSight) (first second first' second' : SendingSight)
    → AreSendingsOf line all → all ≡ left ++ second ∷ [] → left ≡ rest ++ first ∷ []
    → IsSendingOf line first' → IsSendingOf line second' → first'.queue ≡ first.queue → second'.queue ≡ second.queue
    → again ≡ rest ++ first' ∷ [] → both ≡ again ++ second' ∷ [] → AreSendingsOf line both
two_again line all left rest again both first second first' second' h is is' of of' queue queue' are are' =
    let each : All (IsSendingOf line) left = all_front (IsSendingOf line) left second (subst (All (IsSendingOf line)) is h.each) in
    let each' : All (IsSendingOf line) rest = all_front (IsSendingOf line) rest first (subst (All (IsSendingOf line)) is' each) in
    record {
      queues = queues_again all left again both second second' is (queues_again left rest rest again first first' is' refl queue are) queue' are' ∙ h.queues;
      each = back_again line again both second' (back_again line rest again first' each' of are) of' are';
    }
