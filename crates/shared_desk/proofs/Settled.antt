-- The places and links of a clerk at rest, after a place was taken, given up, or made free.
use Rattle.std.specs.List.{list_any}
use Rattle.std.specs.Prelude.{◌==◌, ◌&&◌, not, filter}
use Rattle.std.proofs.Common.{◌≡◌, ◌≢◌, ℕ, ◌+◌, ◌*◌, ◌≤◌, Bool, true, false, List, [], ◌∷◌, refl, sym, ap, subst, ◌∙◌, arith, ⊎_elim}
use Rattle.std.proofs.lemmas.Bool.{and_from, and_left, and_parts, cases_Bool, cases_eq, cond-false, cond_both, eq-eqb, eqb-false, eqb-true, false≢true, ne_eqb, not-true, not_from_false, or_cases, or_left, or_parts, or_right}
use Rattle.track_rule.specs.declared.view.Hook.{Hook}
use Rattle.track_rule.specs.declared.view.Keep.{Keep}
use Rattle.track_rule.specs.declared.view.Places.{Places}
use Rattle.track_rule.specs.declared.view.Purpose.TheVariants.{Taken}
use Rattle.track_rule.specs.Free.{is_among, taken_out, unlisted}
use Rattle.track_rule.specs.Layout.{place_of}
use Rattle.track_rule.specs.Links.{RaisesNone, hooks_of}
use Rattle.track_rule.specs.References.{held_times, is_at, is_for_new, is_held, is_taken, without}
use Rattle.track_rule.specs.Steps.{NewHooks, hooks_then, keep, owned_then}
use Rattle.track_rule.specs.Sums.{bit}
use Rattle.bucket_table.specs.Finding.{has_hook}
use Rattle.shared_desk.specs.Rest.{AreSettled, IsPrepared, IsSettled}
use Rattle.shared_desk.proofs.Lists.{among_gone, among_others, any_filter, any_less, each_less, none_filter, none_less, none_of, other_bit, others_less, same_bit, total_less}

-- hooks of no place that has none
no_hooks : (place link : ℕ) → place_of link ≡ place → (hooks : List Hook) → has_hook place hooks ≡ false → hooks_of link hooks ≡ 0
no_hooks place link at [] e = refl
no_hooks place link at (x ∷ xs) e =
    let parts = or_parts (place_of x.link == place) (has_hook place xs) e in
    omega (arith, no_hooks place link at xs parts.1, other_bit x.link link (λ k. eqb-false (place_of x.link) place parts.0 (ap place_of k ∙ at)))

-- hooks that a filter keeps
count_filter : (link : ℕ) (keep : Hook → Bool) → ((x : Hook) → x.link ≡ link → keep x ≡ true) → (hooks : List Hook) → hooks_of link (filter keep hooks) ≡ hooks_of link hooks
count_filter link keep kept [] = refl
count_filter link keep kept (x ∷ xs) =
    cond_both (keep x) (x ∷ filter keep xs) (filter keep xs) (λ ys. hooks_of link ys ≡ bit (x.link == link) + hooks_of link xs)
    (λ e. omega (arith, count_filter link keep kept xs))
    (λ e. omega (arith, count_filter link keep kept xs, other_bit x.link link (λ k. false≢true (sym e ∙ kept x k))))

fewer_hooks : (link : ℕ) (keep : Hook → Bool) (hooks : List Hook) → hooks_of link (filter keep hooks) ≤ hooks_of link hooks
fewer_hooks link keep [] = omega arith
fewer_hooks link keep (x ∷ xs) =
    cond_both (keep x) (x ∷ filter keep xs) (filter keep xs) (λ ys. hooks_of link ys ≤ bit (x.link == link) + hooks_of link xs)
    (λ e. omega (arith, fewer_hooks link keep xs)) (λ e. omega (arith, fewer_hooks link keep xs))

-- a further place that was taken
module _ (place : ℕ) (places : Places) (old new : List Hook) (h : AreSettled places old) (unheld : held_times place places.held ≡ 0)
    (n : NewHooks place old new) (raises : RaisesNone old new) where
  abbrev after : Places
  after = record places { held = keep place Taken ∷ places.held; owned = place ∷ places.owned }

  none_before : has_hook place old ≡ false
  none_before =
      ⊎_elim
      (λ (e : has_hook place old ≡ true).
      let t : is_taken place places.held ≡ true = h.links place e in
      absurd (omega (arith, unheld, (h.taken place t).once)))
      (λ (e : has_hook place old ≡ false). e)
      (cases_Bool (has_hook place old))

  count_after : (link : ℕ) → hooks_of link new ≡ bit (n.original.link == link) + (bit (n.reply.link == link) + hooks_of link old)
  count_after link = ap (hooks_of link) n.all

  its_own : IsPrepared place after new
  its_own = record {
    once = omega (arith, unheld, same_bit place place refl);
    owned = or_left (place == place) (is_among place places.owned) (eq-eqb place place refl);
    original = omega (
      arith,
      count_after (1 + 2 * place),
      no_hooks place (1 + 2 * place) (omega arith) old none_before,
      same_bit n.original.link (1 + 2 * place) n.links.0,
      other_bit n.reply.link (1 + 2 * place) (λ e. omega (arith, e, n.links.1)),
    );
    reply = omega (
      arith,
      count_after (2 + 2 * place),
      no_hooks place (2 + 2 * place) (omega arith) old none_before,
      other_bit n.original.link (2 + 2 * place) (λ e. omega (arith, e, n.links.0)),
      same_bit n.reply.link (2 + 2 * place) n.links.1,
    );
  }

  count_same : (link p : ℕ) → place ≢ p → place_of link ≡ p → hooks_of link new ≡ hooks_of link old
  count_same link p other at =
      omega (
        arith,
        count_after link,
        other_bit n.original.link link (λ e. other (omega (arith, e, n.links.0, at))),
        other_bit n.reply.link link (λ e. other (omega (arith, e, n.links.1, at))),
      )

  of_another : (p : ℕ) → place ≢ p → IsPrepared p places old → IsPrepared p after new
  of_another p other o = record {
    once = omega (arith, o.once, other_bit place p other);
    owned = or_right (place == p) (is_among p places.owned) o.owned;
    original = count_same (1 + 2 * p) p other (omega arith) ∙ o.original;
    reply = count_same (2 + 2 * p) p other (omega arith) ∙ o.reply;
  }

  taken_before : (p : ℕ) → place ≢ p → is_taken p after.held ≡ true → is_taken p places.held ≡ true
  taken_before p other e =
      ⊎_elim (λ k. absurd (other (eqb-true place p (and_parts (place == p) true k).0))) (λ k. k)
      (or_cases (place == p && true) (is_taken p places.held) e)

  taken_then : (p : ℕ) → (place ≢ p → is_taken p places.held ≡ true) → is_taken p after.held ≡ true
  taken_then p before =
      ⊎_elim (λ (k : place ≡ p). or_left (place == p && true) (is_taken p places.held) (and_from (place == p) true (eq-eqb place p k) refl))
      (λ (k : place ≢ p). or_right (place == p && true) (is_taken p places.held) (before k)) (cases_eq place p)

  link_before : (p : ℕ) → place ≢ p → has_hook p new ≡ true → has_hook p old ≡ true
  link_before p other e =
      ⊎_elim (λ k. absurd (other (original_place n.original.link n.links.0 ∙ eqb-true (place_of n.original.link) p k)))
      (λ k. ⊎_elim (λ j. absurd (other (reply_place n.reply.link n.links.1 ∙ eqb-true (place_of n.reply.link) p j))) (λ j. j)
      (or_cases (place_of n.reply.link == p) (has_hook p old) k))
      (or_cases (place_of n.original.link == p) (has_hook p (n.reply ∷ old)) (subst (λ hs. has_hook p hs ≡ true) n.all e))
    where
      original_place : (x : ℕ) → x ≡ 1 + 2 * place → place ≡ place_of x
      original_place x is = omega (arith, is)

      reply_place : (x : ℕ) → x ≡ 2 + 2 * place → place ≡ place_of x
      reply_place x is = omega (arith, is)

  pub settled_taken : AreSettled (record places { held = keep place Taken ∷ places.held; owned = place ∷ places.owned }) new
  settled_taken = record {
    purposes = (tt, h.purposes);
    taken = λ p e. ⊎_elim (λ (k : place ≡ p). subst (λ (q : ℕ). IsPrepared q after new) k its_own)
        (λ (k : place ≢ p). of_another p k (h.taken p (taken_before p k e))) (cases_eq place p);
    down = λ p. raises p (h.down p);
    some = omega (
      arith,
      count_after 0,
      h.some,
      other_bit n.original.link 0 (λ e. omega (arith, e, n.links.0)),
      other_bit n.reply.link 0 (λ e. omega (arith, e, n.links.1)),
    );
    links = λ p e. taken_then p (λ k. h.links p (link_before p k e));
    owned = λ p e. taken_then p (λ k. h.owned p
        (⊎_elim (λ j. absurd (k (eqb-true place p j))) (λ j. j) (or_cases (place == p) (is_among p places.owned) e)));
    clear = h.clear;
  }

-- one reference less
module _ (place : ℕ) (places : Places) (hooks : List Hook) (h : AreSettled places hooks) (there : is_held place places.held ≡ true) where
  left : List Keep
  left = without place places.held

  at_place : (p : ℕ) → place ≢ p → (k : Keep) → is_at place k ≡ true → is_at p k ≡ false
  at_place p other k e = ne_eqb k.place p (λ i. other (sym (eqb-true k.place place e) ∙ i))

  none_taken : is_taken place (without place places.held) ≡ false
  none_taken = ⊎_elim
      (λ (t : is_taken place places.held ≡ true).
      let less = total_less (is_at place) (without place) refl (λ k ks. refl) (λ k. bit (is_at place k)) 1 (λ k e. ap bit e) places.held there in
      any_less (is_at place) (λ k. is_at place k && is_for_new k.purpose) (λ k e. and_left (is_at place k) (is_for_new k.purpose) e)
      (without place places.held)
      (none_of (is_at place) (without place places.held) (omega (arith, less, (h.taken place t).once))))
      (λ (t : is_taken place places.held ≡ false).
      none_less (is_at place) (without place) refl (λ k ks. refl) (λ k. is_at place k && is_for_new k.purpose) places.held t)
      (cases_Bool (is_taken place places.held))

  other_taken : (p : ℕ) → place ≢ p → is_taken p (without place places.held) ≡ is_taken p places.held
  other_taken p other =
      others_less (is_at place) (without place) refl (λ k ks. refl) (λ k. is_at p k && is_for_new k.purpose)
      (λ k e. and_left (is_at p k) (is_for_new k.purpose) (at_place p other k e)) places.held

  other_owned : (p : ℕ) → place ≢ p → is_among p (owned_then place places.held places.owned) ≡ is_among p places.owned
  other_owned p other =
      cond_both (is_taken place (without place places.held)) places.owned (unlisted (place ∷ []) places.owned)
      (λ ps. is_among p ps ≡ is_among p places.owned) (λ e. refl) (λ e. among_others p place places.owned other)

  other_link : (test : Hook → Bool) (p : ℕ) → place ≢ p → ((x : Hook) → test x ≡ true → place_of x.link ≡ p)
      → list_any test (hooks_then place places.held hooks) ≡ list_any test hooks
  other_link test p other its =
      cond_both (held_times place places.held == 1) (filter (λ (x : Hook). not (place_of x.link == place)) hooks) hooks
      (λ hs. list_any test hs ≡ list_any test hooks)
      (λ e. any_filter test (λ (x : Hook). not (place_of x.link == place))
      (λ x k. not_from_false (place_of x.link == place) (ne_eqb (place_of x.link) place (λ i. other (sym i ∙ its x k)))) hooks) (λ e. refl)

  other_count : (link p : ℕ) → place ≢ p → place_of link ≡ p → hooks_of link (hooks_then place places.held hooks) ≡ hooks_of link hooks
  other_count link p other at =
      cond_both (held_times place places.held == 1) (filter (λ (x : Hook). not (place_of x.link == place)) hooks) hooks
      (λ hs. hooks_of link hs ≡ hooks_of link hooks)
      (λ e. count_filter link (λ (x : Hook). not (place_of x.link == place))
      (λ x k. not_from_false (place_of x.link == place) (ne_eqb (place_of x.link) place (λ i. other (sym i ∙ ap place_of k ∙ at)))) hooks) (λ e. refl)

  none_at_end : hooks_of 0 (hooks_then place places.held hooks) ≡ 0
  none_at_end =
      cond_both (held_times place places.held == 1) (filter (λ (x : Hook). not (place_of x.link == place)) hooks) hooks
      (λ hs. hooks_of 0 hs ≡ 0) (λ e. omega (arith, h.some, fewer_hooks 0 (λ (x : Hook). not (place_of x.link == place)) hooks)) (λ e. h.some)

  none_linked : has_hook place (hooks_then place places.held hooks) ≡ true → ⊥
  none_linked =
      cond_both (held_times place places.held == 1) (filter (λ (x : Hook). not (place_of x.link == place)) hooks) hooks
      (λ hs. has_hook place hs ≡ true → ⊥)
      (λ e k. false≢true (sym (none_filter (λ (x : Hook). place_of x.link == place) (λ (x : Hook). not (place_of x.link == place))
      (λ x j. not-true (place_of x.link == place) j) hooks) ∙ k))
      (λ e k. eqb-false (held_times place places.held) 1 e (h.taken place (h.links place k)).once)

  not_owned : is_among place (owned_then place places.held places.owned) ≡ true → ⊥
  not_owned e =
      false≢true (sym (among_gone place places.owned)
      ∙ sym (ap (is_among place) (cond-false (is_taken place (without place places.held)) places.owned (unlisted (place ∷ []) places.owned) none_taken)) ∙ e)

  pub settled_released : (owed : List ℕ) → ((p : ℕ) → is_among p places.owed ≡ true → is_among p owed ≡ true)
      → RaisesNone hooks (hooks_then place places.held hooks)
      → AreSettled (record places { held = without place places.held; owned = owned_then place places.held places.owned; owed = owed })
      (hooks_then place places.held hooks)
  settled_released owed more raises = record {
    purposes = each_less (is_at place) (without place) refl (λ k ks. refl) (λ (k : Keep). IsSettled k.purpose) places.held h.purposes;
    taken = λ p e. ⊎_elim
        (λ (k : place ≡ p). absurd (false≢true (sym none_taken ∙ ap (λ (q : ℕ). is_taken q (without place places.held)) k ∙ e)))
        (λ (k : place ≢ p).
        let o : IsPrepared p places hooks = h.taken p (sym (other_taken p k) ∙ e) in
        record {
          once = omega (
            arith,
            o.once,
            total_less (is_at place) (without place) refl (λ i is. refl) (λ i. bit (is_at p i)) 0 (λ i j. ap bit (at_place p k i j)) places.held there,
          );
          owned = other_owned p k ∙ o.owned;
          original = other_count (1 + 2 * p) p k (omega arith) ∙ o.original;
          reply = other_count (2 + 2 * p) p k (omega arith) ∙ o.reply;
        }) (cases_eq place p);
    down = λ p. raises p (h.down p);
    some = none_at_end;
    links = λ p e. ⊎_elim
        (λ (k : place ≡ p). absurd (none_linked (ap (λ (q : ℕ). has_hook q (hooks_then place places.held hooks)) k ∙ e)))
        (λ (k : place ≢ p).
        other_taken p k ∙ h.links p (sym (other_link (λ (x : Hook). place_of x.link == p) p k (λ x j. eqb-true (place_of x.link) p j)) ∙ e))
        (cases_eq place p);
    owned = λ p e. ⊎_elim
        (λ (k : place ≡ p). absurd (not_owned (ap (λ (q : ℕ). is_among q (owned_then place places.held places.owned)) k ∙ e)))
        (λ (k : place ≢ p). other_taken p k ∙ h.owned p (sym (other_owned p k) ∙ e)) (cases_eq place p);
    clear = λ p e. more p (h.clear p e);
  }

-- a place that is owed no longer
pub settled_recycled : (place : ℕ) (places : Places) (hooks : List Hook) → AreSettled places hooks
    → AreSettled (record places { owed = taken_out place places.owed; clear = unlisted (place ∷ []) places.clear }) hooks
settled_recycled place places hooks h = record {
  purposes = h.purposes;
  taken = λ p e. let o : IsPrepared p places hooks = h.taken p e in
      record { once = o.once; owned = o.owned; original = o.original; reply = o.reply };
  down = h.down;
  some = h.some;
  links = h.links;
  owned = h.owned;
  clear = λ p e. ⊎_elim
      (λ (k : place ≡ p). absurd (false≢true (sym (among_gone place places.clear) ∙ ap (λ (q : ℕ). is_among q (unlisted (place ∷ []) places.clear)) k ∙ e)))
      (λ (k : place ≢ p).
      others_less (λ q. q == place) (taken_out place) refl (λ q qs. refl) (λ q. q == p)
      (λ q j. ne_eqb q p (λ i. k (sym (eqb-true q place j) ∙ i))) places.owed
      ∙ h.clear p (sym (among_others p place places.clear k) ∙ e)) (cases_eq place p);
}
