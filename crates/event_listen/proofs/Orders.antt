-- Each step at a queue keeps its rule.
use Rattle.std.proofs.Common.{◌≡◌, ◌≢◌, ℕ, ◌≤◌, zero, suc, true, false, true≢false, List, [], ◌∷◌, ◌++◌, length, set, sym, refl, ap, ◌∙◌, subst, ⊎_elim, append_assoc, arith, length-append}
use mathlib.Core.Option.{some, some-ne-none}
use lib.ListN.{get_elem?}
use Rattle.crossbeam_queue.specs.Fifo.{Pushes, Pops, Forks, Merges, Learns}
use Rattle.crossbeam_queue.proofs.Lists.{at_set, at_snoc}
use Rattle.history_book.specs.declared.event.Note.{Note}
use Rattle.event_listen.specs.declared.talk.Talk.{Talk}
use Rattle.event_listen.specs.Order.{talk, IsTalkOf, IsInOrder}

-- a value that is new in a longer list stands at its end
at_end : (l : List Talk) (a b : Talk) (j : ℕ) → get_elem? l j ≢ some b → get_elem? (l ++ a ∷ []) j ≡ some b → j ≡ length l
at_end [] a b zero n e = refl
at_end [] a b (suc j) n e = absurd (some-ne-none b (sym e))
at_end (x ∷ xs) a b zero n e = absurd (n e)
at_end (x ∷ xs) a b (suc j) n e = ap suc (at_end xs a b j n e)

-- of each pass with its view
abbrev Each : (ℕ → Talk → Type 0) → List Talk → Type 0
Each F views = (pass : ℕ) (v : Talk) → get_elem? views pass ≡ some v → F pass v

each_set : (F : ℕ → Talk → Type 0) (views : List Talk) (pass : ℕ) (w : Talk) → F pass w → ((j : ℕ) (u : Talk) → j ≢ pass → get_elem? views j ≡ some u → F j u) → Each F (set views pass w)
each_set F views pass w mine others j u e = ⊎_elim (λ (x : (j ≡ pass) × (w ≡ u)). subst (λ (y : ℕ × Talk). F y.0 y.1) (λ i. (sym x.0 i, x.1 i)) mine)
    (λ (x : (j ≢ pass) × (get_elem? views j ≡ some u)). others j u x.0 x.1) (at_set views pass j w u e)

-- the one pass of a new queue may send and hear
pub begins : IsInOrder [] (talk true true [] [] ∷ [])
begins = record {
  sender = 0;
  listener = 0;
  sent = [];
  heard = [];
  order = refl;
  each = each_set (IsTalkOf 0 0 [] []) (talk true true [] [] ∷ []) 0 (talk true true [] []) (record { sends = λ _. (refl, refl); hears = λ _. (refl, refl) })
      (λ j u other e. absurd (other (at_end [] _ u j (λ x. some-ne-none u (sym x)) e)));
}

pub sends : (n pass : ℕ) (v : Talk) (x : Note) → v.sends ≡ true → Pushes IsInOrder n pass v x (λ w. w ≡ talk v.sends v.hears (v.sent ++ x ∷ []) v.heard)
sends n pass v x may notes views _ h at =
    let w : Talk = talk v.sends v.hears (v.sent ++ x ∷ []) v.heard in
    let mine = h.each pass v at in
    let sent = h.sent ++ x ∷ [] in (
      w,
      record {
        sender = h.sender;
        listener = h.listener;
        sent = sent;
        heard = h.heard;
        order = ap (λ l. l ++ x ∷ []) h.order ∙ append_assoc h.heard notes (x ∷ []);
        each = each_set (IsTalkOf h.sender h.listener sent h.heard) views pass w (record { sends = λ _. ((mine.sends may).0, ap (λ l. l ++ x ∷ []) (mine.sends may).1); hears = mine.hears })
            (λ j u other e. record { sends = λ p. absurd (other (((h.each j u e).sends p).0 ∙ sym (mine.sends may).0)); hears = (h.each j u e).hears });
      },
      refl,
    )

pub hears : (pass : ℕ) (v : Talk) → v.hears ≡ true → Pops IsInOrder pass v (λ x w. w ≡ talk v.sends v.hears v.sent (v.heard ++ x ∷ []))
hears pass v may x notes views h at =
    let w : Talk = talk v.sends v.hears v.sent (v.heard ++ x ∷ []) in
    let mine = h.each pass v at in
    let heard = h.heard ++ x ∷ [] in (
      w,
      record {
        sender = h.sender;
        listener = h.listener;
        sent = h.sent;
        heard = heard;
        order = h.order ∙ sym (append_assoc h.heard (x ∷ []) notes);
        each = each_set (IsTalkOf h.sender h.listener h.sent heard) views pass w (record { sends = mine.sends; hears = λ _. ((mine.hears may).0, ap (λ l. l ++ x ∷ []) (mine.hears may).1) })
            (λ j u other e. record { sends = (h.each j u e).sends; hears = λ p. absurd (other (((h.each j u e).hears p).0 ∙ sym (mine.hears may).0)) });
      },
      refl,
    )

-- a pass that may both send and hear is cut into a sender's and a listener's
pub forks : (pass : ℕ) (v : Talk) → v.sends ≡ true → v.hears ≡ true → Forks IsInOrder pass v (talk true false v.sent []) (talk false true [] v.heard)
forks pass v a b notes views h at =
    let l : Talk = talk true false v.sent [] in
    let r : Talk = talk false true [] v.heard in
    let mine = h.each pass v at in
    let vs : List Talk = set views pass l in
    let Old : ℕ → Talk → Type 0 = λ j u. (u.sends ≡ true → (j ≡ h.sender) × (u.sent ≡ h.sent)) × (u.hears ≢ true) in
    let old : Each Old vs = each_set Old views pass l ((λ _. mine.sends a), λ p. true≢false (sym p))
    (λ j u other e. ((h.each j u e).sends, λ p. other (((h.each j u e).hears p).0 ∙ sym (mine.hears b).0))) in
    record {
      sender = h.sender;
      listener = length vs;
      sent = h.sent;
      heard = h.heard;
      order = h.order;
      each = λ j u e. ⊎_elim (λ x. record { sends = (old j u x).0; hears = λ p. absurd ((old j u x).1 p) })
          (λ (is : r ≡ u). record {
            sends = λ p. absurd (true≢false (sym (ap (λ (y : Talk). y.sends) is ∙ p)));
            hears = λ p. (at_end vs r u j (λ x. (old j u x).1 p) e, ap (λ (y : Talk). y.heard) (sym is) ∙ (mine.hears b).1);
          }) (at_snoc vs r u j e);
    }

-- the listener's pass takes in the sender's, and may do both
pub merges : (pass : ℕ) (v : Talk) (other : ℕ) (u : Talk) → v.hears ≡ true → u.sends ≡ true → Merges IsInOrder pass v other u (talk true true u.sent v.heard) (talk false false [] [])
merges pass v other u a b notes views h at two at' =
    let both : Talk = talk true true u.sent v.heard in
    let mine = h.each pass v at in
    let vs : List Talk = set views pass both in
    let was : get_elem? views other ≡ some u = ⊎_elim (λ x. absurd (two x.0)) (λ x. x.1) (at_set views pass other both u at') in
    let theirs = (h.each other u was).sends b in
    let Now : ℕ → Talk → Type 0 = λ j y. j ≢ other → IsTalkOf pass h.listener h.sent h.heard j y in
    let now : Each Now vs = each_set Now views pass both (λ _. record { sends = λ _. (refl, theirs.1); hears = λ _. mine.hears a })
    (λ j y _ e apart. record { sends = λ p. absurd (apart (((h.each j y e).sends p).0 ∙ sym theirs.0)); hears = (h.each j y e).hears }) in
    record {
      sender = pass;
      listener = h.listener;
      sent = h.sent;
      heard = h.heard;
      order = h.order;
      each = each_set (IsTalkOf pass h.listener h.sent h.heard) vs other (talk false false [] []) (record { sends = λ p. absurd (true≢false (sym p)); hears = λ p. absurd (true≢false (sym p)) })
          (λ j y apart e. now j y e apart);
    }

-- what the queue holds was sent
pub fills : (pass : ℕ) (v : Talk) → v.sends ≡ true → Learns IsInOrder pass v (λ notes. length notes ≤ length v.sent)
fills pass v may notes views h at =
    let all : v.sent ≡ h.heard ++ notes = ((h.each pass v at).sends may).1 ∙ h.order in
    omega (arith, ap length all, length-append h.heard notes)

-- a pass that may do both knows what the queue holds
pub rests : (pass : ℕ) (v : Talk) → v.hears ≡ true → Learns IsInOrder pass v (λ notes. v.sends ≡ true → v.sent ≡ v.heard ++ notes)
rests pass v hears notes views h at sends =
    ((h.each pass v at).sends sends).1 ∙ h.order ∙ ap (λ l. l ++ notes) (sym ((h.each pass v at).hears hears).1)
