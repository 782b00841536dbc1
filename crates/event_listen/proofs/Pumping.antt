-- Sending the own events of a desk one by one.
use Rattle.std.proofs.Common.{◌≡◌, ℕ, ◌+◌, ◌<◌, ◌≤◌, true, List, [], ◌∷◌, ◌++◌, length, sym, refl, ap, ◌∙◌, subst, append_assoc, arith, length-append, slice_get}
use Rattle.std.proofs.lemmas.List.{append-nil, nil_from_length}
use Rattle.std.specs.Prelude.{Some}
use Rattle.history_book.specs.declared.event.Note.{Note}
use Rattle.event_listen.specs.Line.{IsSendingOf, LineSight, SendingSight}
use Rattle.event_listen.specs.Pump.{BeginsWith, SendsSome}

-- the end has sent what it had sent before, and then the next own events, up to the index
pub record IsPumped (own : List Note) (line : LineSight) (old now : SendingSight) (index : ℕ) : Type 0 where
  pub end : IsSendingOf line now
  pub same : now ≡ record old { sent = now.sent }
  pub before : BeginsWith now.sent old.sent
  pub next : BeginsWith own now.sent
  pub counted : length now.sent ≡ index

at_seam : (sent rest : List Note) → slice_get (sent ++ rest) (length sent) ≡ slice_get rest 0
at_seam [] rest = refl
at_seam (x ∷ xs) rest = at_seam xs rest

first_of : (note : Note) (rest : List Note) → slice_get rest 0 ≡ Some note → (more : List Note) × (rest ≡ note ∷ more)
first_of note [] e = absurd (cc)
first_of note (x ∷ xs) e = (xs, cc)

-- the next own event behind those that were sent
next_note : (own sent : List Note) (note : Note) → BeginsWith own sent → slice_get own (length sent) ≡ Some note → BeginsWith own (sent ++ note ∷ [])
next_note own sent note (rest, all) at =
    let more = first_of note rest (sym (at_seam sent rest) ∙ ap (λ l. slice_get l (length sent)) (sym all) ∙ at) in
    (more.0, all ∙ ap (λ l. sent ++ l) more.1 ∙ sym (append_assoc sent (note ∷ []) more.0))

pub pump_begins : (own : List Note) (line : LineSight) (old : SendingSight) → IsSendingOf line old → BeginsWith own old.sent → IsPumped own line old old (length old.sent)
pump_begins own line old end next = record { end = end; same = refl; before = ([], sym (append-nil old.sent)); next = next; counted = refl }

pub pump_goes_on : (own : List Note) (line : LineSight) (old now new : SendingSight) (index : ℕ) (note : Note)
    → IsPumped own line old now index → slice_get own index ≡ Some note → new ≡ record now { sent = now.sent ++ note ∷ [] } → IsPumped own line old new (index + 1)
pump_goes_on own line old now new index note h at is =
    let sent : new.sent ≡ now.sent ++ note ∷ [] = ap (λ s. s.sent) is in
    let same : new ≡ record old { sent = new.sent } =
    is ∙ ap (λ (s : SendingSight). record s { sent = now.sent ++ note ∷ [] }) h.same ∙ ap (λ l. record old { sent = l }) (sym sent) in
    record {
      end = subst (λ (s : SendingSight). IsSendingOf line s) (sym is) (record { queue = h.end.queue; capacity = h.end.capacity });
      same = same;
      before = (h.before.0 ++ note ∷ [], sent ∙ ap (λ l. l ++ note ∷ []) h.before.1 ∙ append_assoc old.sent h.before.0 (note ∷ []));
      next = subst (BeginsWith own) (sym sent) (next_note own now.sent note h.next (subst (λ (k : ℕ). slice_get own k ≡ Some note) (sym h.counted) at));
      counted = omega (arith, ap length sent, length-append now.sent (note ∷ []), h.counted);
    }

-- every own event is sent
pub pump_ends : (own : List Note) (line : LineSight) (old now : SendingSight) (index : ℕ) → IsPumped own line old now index → length own ≤ index → now ≡ record old { sent = own }
pump_ends own line old now index h most =
    let rest = h.next.0 in
    let none : rest ≡ [] = nil_from_length rest (omega (arith, h.counted, ap length h.next.1, length-append now.sent rest)) in
    let all : own ≡ now.sent = h.next.1 ∙ ap (λ l. now.sent ++ l) none ∙ append-nil now.sent in
    h.same ∙ ap (λ l. record old { sent = l }) (sym all)

-- the queue was full
pub pump_stops : (own : List Note) (line : LineSight) (old now new : SendingSight) (index : ℕ)
    → IsPumped own line old now index → index < length own → new ≡ record now { full = true } → now.capacity ≤ length now.sent → SendsSome own old new
pump_stops own line old now new index h some is full =
    let sent : new.sent ≡ now.sent = ap (λ s. s.sent) is in
    record {
      end = is ∙ ap (λ (s : SendingSight). record s { full = true }) h.same ∙ ap (λ l. record old { sent = l; full = true }) (sym sent);
      before = subst (λ (l : List Note). BeginsWith l old.sent) (sym sent) h.before;
      next = subst (BeginsWith own) (sym sent) h.next;
      some = omega (arith, ap length sent, h.counted);
      full = omega (arith, ap length sent, ap (λ s. s.capacity) h.same);
    }
