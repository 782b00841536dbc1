-- A clerk that confirmed a flow, or found an entry in its way.
use Rattle.std.specs.List.{AllByRecursion}
use Rattle.std.specs.Prelude.{◌==◌, ◌||◌, ◌&&◌, if◌then◌else◌, is_none}
use Rattle.std.proofs.Common.{◌≡◌, ◌≢◌, ℕ, ◌+◌, ◌-◌, ◌*◌, ◌<◌, ◌≤◌, Bool, true, false, List, [], ◌∷◌, ◌++◌, length, map, refl, sym, ap, subst, ◌∙◌, arith, ⊎_elim, length-append}
use Rattle.std.proofs.lemmas.Bool.{and_parts, cases_Bool, cases_eq, cond_both, eq-eqb, eqb-true, false≢true, ne_eqb, or_cases, or_from, or_left, or_parts, or_right}
use Rattle.room_list.specs.Roomed.{Roomed}
use Rattle.history_book.specs.Desk.{ConfirmSays, IsClash}
use Rattle.history_book.specs.Entry.{is_lawful_flow, record_for}
use Rattle.history_book.specs.Held as desk
use Rattle.history_book.specs.History.{after}
use Rattle.history_book.specs.Sight.{IsKnown}
use Rattle.history_book.specs.WentOn.{Saw}
use Rattle.history_book.specs.declared.desk.Hold.{Hold}
use Rattle.history_book.specs.declared.event.Event.TheVariants as event
use Rattle.history_book.specs.declared.event.Note.{Note}
use Rattle.history_book.specs.declared.outcome.ConfirmOutcome.{ConfirmOutcome}
use Rattle.history_book.specs.declared.outcome.ConfirmOutcome.TheVariants.{Confirmed, Clash}
use Rattle.history_book.specs.declared.record.Flow.{Flow}
use Rattle.tuple_core.specs.declared.Direction.{Direction}
use Rattle.track_rule.specs.CommitSteps.{dropped, held_for}
use Rattle.track_rule.specs.Free.{is_among, unlisted}
use Rattle.track_rule.specs.Layout.{place_of}
use Rattle.track_rule.specs.Links.{hooks_of, is_up}
use Rattle.track_rule.specs.References.{held_times, is_at, is_for_new, is_taken}
use Rattle.track_rule.specs.Sights.{PassSight}
use Rattle.track_rule.specs.Sums.{bit}
use Rattle.track_rule.specs.declared.view.Hook.{Hook}
use Rattle.track_rule.specs.declared.view.Keep.{Keep}
use Rattle.track_rule.specs.declared.view.Places.{Places}
use Rattle.track_rule.specs.declared.view.Purpose.TheVariants.{For}
use Rattle.bucket_table.specs.LockedChain.{original_link, reply_link}
use Rattle.shared_desk.specs.Commit.{is_any_up}
use Rattle.shared_desk.specs.Confirm.{CanConfirmFlow, ConfirmsFlow, IsConfirmed, IsInTheWay}
use Rattle.shared_desk.specs.Noting.{made_by, room_for}
use Rattle.bucket_table.specs.Finding.{has_hook}
use Rattle.shared_desk.specs.Rest.{AreSettled, IsAtRest, IsPrepared, IsSettled}
use Rattle.shared_desk.specs.Sights.{hold_of, sight_of}
use Rattle.shared_desk.specs.Tuples.{standing}
use Rattle.shared_desk.proofs.Committing.{taken_held}
use Rattle.shared_desk.proofs.Entered.{holds_for, known_confirmed, none_taken, taken_back}
use Rattle.shared_desk.proofs.Hooks.{same_any, same_count, same_up}
use Rattle.shared_desk.proofs.Known.{known_later, counted}
use Rattle.shared_desk.proofs.Linking.{dropped_count, none_up}
use Rattle.shared_desk.proofs.Lists.{among_gone, among_others, same_bit}
use Rattle.shared_desk.proofs.Noted.{made_here}
use Rattle.shared_desk.proofs.Opening.{dropped_down}
use Rattle.shared_desk.proofs.Places.{held_below}
use Rattle.shared_desk.proofs.Resting.{clerk_at, idle_still, saw_more, settled_closed, then_of}

-- HOOKS

-- where no place has a link in a chain, no hook is up
pub none_any : (hooks : List Hook) → ((p : ℕ) → is_up p hooks ≡ false) → is_any_up hooks ≡ false
none_any [] h = refl
none_any (x ∷ xs) h =
    or_from x.up (is_any_up xs) (first x.up (h (place_of x.link)) (eq-eqb (place_of x.link) (place_of x.link) refl))
    (none_any xs (λ p. (or_parts (place_of x.link == p && x.up) (is_up p xs) (h p)).1))
  where
    first : (u : Bool) → ((place_of x.link == place_of x.link && u) || is_up (place_of x.link) xs) ≡ false → (place_of x.link == place_of x.link) ≡ true → u ≡ false
    first true e t = absurd (false≢true (sym (or_parts (place_of x.link == place_of x.link && true) (is_up (place_of x.link) xs) e).0 ∙ (λ i. t i && true)))
    first false e t = refl

-- a link of the place is there where one of its two hooks is, or one at no link
link_cases : (p : ℕ) (hooks : List Hook) → has_hook p hooks ≡ true → hooks_of 0 hooks ≡ 0 → 0 < hooks_of (original_link p) hooks + hooks_of (reply_link p) hooks
link_cases p [] e z = absurd (false≢true e)
link_cases p (x ∷ xs) e z =
    ⊎_elim
    (λ (t : (place_of x.link == p) ≡ true). first x.link refl (eqb-true (place_of x.link) p t))
    (λ (t : has_hook p xs ≡ true). omega (arith, link_cases p xs t (omega (arith, z))))
    (or_cases (place_of x.link == p) (has_hook p xs) e)
  where
    first : (n : ℕ) → x.link ≡ n → place_of n ≡ p → 0 < hooks_of (original_link p) (x ∷ xs) + hooks_of (reply_link p) (x ∷ xs)
    first n is at =
        ⊎_elim (λ (k : n ≡ 0). absurd (omega (arith, z, same_bit x.link 0 (is ∙ k))))
        (λ (k : n ≢ 0).
        ⊎_elim (λ (j : n ≡ 1 + 2 * p). omega (arith, same_bit x.link (1 + 2 * p) (is ∙ j)))
        (λ (j : n ≢ 1 + 2 * p). omega (arith, same_bit x.link (2 + 2 * p) (is ∙ two n k j at)))
        (cases_eq n (1 + 2 * p)))
        (cases_eq n 0)
      where
        two : (n : ℕ) → n ≢ 0 → n ≢ 1 + 2 * p → place_of n ≡ p → n ≡ 2 + 2 * p
        two n k j at = omega (arith, k, j, at)

-- a hook that goes is one less at its link
dropped_own : (x : ℕ) (hooks : List Hook) → hooks_of x hooks ≡ 1 → hooks_of x (dropped x hooks) ≡ 0
dropped_own x [] e = absurd (omega (arith, e))
dropped_own x (h ∷ hs) e =
    ⊎_elim
    (λ (t : (h.link == x) ≡ true). omega (arith, e, ap bit t, ap (λ (b : Bool). hooks_of x (if b then hs else h ∷ dropped x hs)) t))
    (λ (t : (h.link == x) ≡ false).
    omega (arith, ap bit t, ap (λ (b : Bool). hooks_of x (if b then hs else h ∷ dropped x hs)) t, dropped_own x hs (omega (arith, e, ap bit t))))
    (cases_Bool (h.link == x))

fewer_links : (x p : ℕ) (hooks : List Hook) → has_hook p (dropped x hooks) ≡ true → has_hook p hooks ≡ true
fewer_links x p [] e = e
fewer_links x p (h ∷ hs) e =
    ⊎_elim
    (λ (t : (h.link == x) ≡ true).
    or_right (place_of h.link == p) (has_hook p hs) (sym (ap (λ (b : Bool). has_hook p (if b then hs else h ∷ dropped x hs)) t) ∙ e))
    (λ (t : (h.link == x) ≡ false).
    ⊎_elim (λ (k : (place_of h.link == p) ≡ true). or_left (place_of h.link == p) (has_hook p hs) k)
    (λ (k : has_hook p (dropped x hs) ≡ true). or_right (place_of h.link == p) (has_hook p hs) (fewer_links x p hs k))
    (or_cases (place_of h.link == p) (has_hook p (dropped x hs)) (sym (ap (λ (b : Bool). has_hook p (if b then hs else h ∷ dropped x hs)) t) ∙ e)))
    (cases_Bool (h.link == x))

same_links : (p : ℕ) (a b : List Hook) → standing a ≡ standing b → has_hook p a ≡ has_hook p b
same_links p a b e = same_any (λ q. place_of q.0 == p) a b e

-- REFERENCES

held_again : (p place id : ℕ) (ks : List Keep) → held_times p (held_for place id ks) ≡ held_times p ks
held_again p place id [] = refl
held_again p place id (k ∷ ks) =
    cond_both (is_at place k && is_for_new k.purpose) (record k { purpose = For id } ∷ ks) (k ∷ held_for place id ks)
    (λ xs. held_times p xs ≡ bit (is_at p k) + held_times p ks) (λ e. refl) (λ e. omega (arith, held_again p place id ks))

purposes_then : (place id : ℕ) (ks : List Keep) → AllByRecursion (λ (k : Keep). IsSettled k.purpose) ks → AllByRecursion (λ (k : Keep). IsSettled k.purpose) (held_for place id ks)
purposes_then place id [] h = h
purposes_then place id (k ∷ ks) h =
    cond_both (is_at place k && is_for_new k.purpose) (record k { purpose = For id } ∷ ks) (k ∷ held_for place id ks)
    (AllByRecursion (λ (k : Keep). IsSettled k.purpose)) (λ e. (tt, h.1)) (λ e. (h.0, purposes_then place id ks h.1))

-- of another place it is as it was
taken_else : (p place id : ℕ) (ks : List Keep) → p ≢ place → is_taken p (held_for place id ks) ≡ is_taken p ks
taken_else p place id [] other = refl
taken_else p place id (k ∷ ks) other =
    cond_both (is_at place k && is_for_new k.purpose) (record k { purpose = For id } ∷ ks) (k ∷ held_for place id ks)
    (λ xs. is_taken p xs ≡ ((is_at p k && is_for_new k.purpose) || is_taken p ks))
    (λ e.
    let away : (k.place == p) ≡ false = ne_eqb k.place p (λ i. other (sym i ∙ eqb-true k.place place (and_parts (is_at place k) (is_for_new k.purpose) e).0)) in
    ap (λ (b : Bool). (b && false) || is_taken p ks) away ∙ sym (ap (λ (b : Bool). (b && is_for_new k.purpose) || is_taken p ks) away))
    (λ e. ap (λ b. (is_at p k && is_for_new k.purpose) || b) (taken_else p place id ks other))

-- a place that was held once is taken no longer
taken_gone : (place id : ℕ) (ks : List Keep) → held_times place ks ≡ 1 → is_taken place ks ≡ true → is_taken place (held_for place id ks) ≡ false
taken_gone place id [] once taken = absurd (false≢true taken)
taken_gone place id (k ∷ ks) once taken =
    ⊎_elim
    (λ (t : (is_at place k && is_for_new k.purpose) ≡ true).
    let rest : held_times place ks ≡ 0 = omega (arith, once, ap bit (and_parts (is_at place k) (is_for_new k.purpose) t).0) in
    ap (λ (b : Bool). is_taken place (if b then record k { purpose = For id } ∷ ks else k ∷ held_for place id ks)) t
    ∙ (λ i. off (k.place == place) i || none_taken place ks rest i))
    (λ (t : (is_at place k && is_for_new k.purpose) ≡ false).
    let later : is_taken place ks ≡ true = sym (ap (λ (b : Bool). b || is_taken place ks) t) ∙ taken in
    ap (λ (b : Bool). is_taken place (if b then record k { purpose = For id } ∷ ks else k ∷ held_for place id ks)) t
    ∙ (λ i. t i || taken_gone place id ks (once_later later) later i))
    (cases_Bool (is_at place k && is_for_new k.purpose))
  where
    off : (b : Bool) → (b && false) ≡ false
    off true = refl
    off false = refl

    once_later : is_taken place ks ≡ true → held_times place ks ≡ 1
    once_later e = omega (arith, once, taken_held place ks e)

-- THE CLERK AT REST

settled_confirmed : (place id : ℕ) (places : Places) (hooks new : List Hook) → AreSettled places hooks → is_taken place places.held ≡ true
    → standing new ≡ standing (dropped (reply_link place) (dropped (original_link place) hooks))
    → AreSettled (record places { held = held_for place id places.held; owned = unlisted (place ∷ []) places.owned }) new
settled_confirmed place id places hooks new h taken stands =
    let own : IsPrepared place places hooks = h.taken place taken in
    record {
      purposes = purposes_then place id places.held h.purposes;
      taken = λ p e.
          let other : p ≢ place = λ i. false≢true (sym (taken_gone place id places.held own.once taken) ∙ ap (λ (q : ℕ). is_taken q (held_for place id places.held)) (sym i) ∙ e) in
          let o : IsPrepared p places hooks = h.taken p (sym (taken_else p place id places.held other) ∙ e) in
          record {
            once = held_again p place id places.held ∙ o.once;
            owned = among_others p place places.owned (λ i. other (sym i)) ∙ o.owned;
            original = same_count (1 + 2 * p) new (dropped (reply_link place) (dropped (original_link place) hooks)) stands
                ∙ dropped_count (reply_link place) (1 + 2 * p) (dropped (original_link place) hooks) (λ i. omega (arith, i))
                ∙ dropped_count (original_link place) (1 + 2 * p) hooks (λ i. other (omega (arith, i))) ∙ o.original;
            reply = same_count (2 + 2 * p) new (dropped (reply_link place) (dropped (original_link place) hooks)) stands
                ∙ dropped_count (reply_link place) (2 + 2 * p) (dropped (original_link place) hooks) (λ i. other (omega (arith, i)))
                ∙ dropped_count (original_link place) (2 + 2 * p) hooks (λ i. omega (arith, i)) ∙ o.reply;
          };
      down = λ p. same_up p new (dropped (reply_link place) (dropped (original_link place) hooks)) stands
          ∙ none_up p (dropped (reply_link place) (dropped (original_link place) hooks))
          (dropped_down (reply_link place) (dropped (original_link place) hooks) (dropped_down (original_link place) hooks (none_any hooks h.down)));
      some = no_end;
      links = λ p e.
          let there : has_hook p (dropped (reply_link place) (dropped (original_link place) hooks)) ≡ true =
          sym (same_links p new (dropped (reply_link place) (dropped (original_link place) hooks)) stands) ∙ e in
          let before : has_hook p hooks ≡ true = fewer_links (original_link place) p hooks (fewer_links (reply_link place) p (dropped (original_link place) hooks) there) in
          let other : p ≢ place = λ i. gone own.original own.reply (ap (λ (q : ℕ). has_hook q (dropped (reply_link place) (dropped (original_link place) hooks))) (sym i) ∙ there) in
          taken_else p place id places.held other ∙ h.links p before;
      owned = λ p e.
          let other : p ≢ place = λ i. false≢true (sym (among_gone place places.owned) ∙ ap (λ (q : ℕ). is_among q (unlisted (place ∷ []) places.owned)) (sym i) ∙ e) in
          taken_else p place id places.held other ∙ h.owned p (sym (among_others p place places.owned (λ i. other (sym i))) ∙ e);
      clear = h.clear;
    }
  where
    none_left : hooks_of 0 (dropped (reply_link place) (dropped (original_link place) hooks)) ≡ 0
    none_left =
        dropped_count (reply_link place) 0 (dropped (original_link place) hooks) (λ i. omega (arith, i))
        ∙ dropped_count (original_link place) 0 hooks (λ i. omega (arith, i)) ∙ h.some

    no_end : hooks_of 0 new ≡ 0
    no_end = same_count 0 new (dropped (reply_link place) (dropped (original_link place) hooks)) stands ∙ none_left

    gone : hooks_of (original_link place) hooks ≡ 1 → hooks_of (reply_link place) hooks ≡ 1
        → has_hook place (dropped (reply_link place) (dropped (original_link place) hooks)) ≡ true → ⊥
    gone one one' e =
        omega (
          arith,
          link_cases place (dropped (reply_link place) (dropped (original_link place) hooks)) e none_left,
          dropped_count (reply_link place) (original_link place) (dropped (original_link place) hooks) (λ i. omega (arith, i)),
          dropped_own (original_link place) hooks one,
          dropped_own (reply_link place) (dropped (original_link place) hooks)
              (dropped_count (original_link place) (reply_link place) hooks (λ i. omega (arith, i)) ∙ one'),
        )

settled_again : (places : Places) (hooks new : List Hook) → AreSettled places hooks → standing new ≡ standing hooks → AreSettled places new
settled_again places hooks new h stands = record {
  purposes = h.purposes;
  taken = λ p e. let o : IsPrepared p places hooks = h.taken p e in record {
    once = o.once;
    owned = o.owned;
    original = same_count (1 + 2 * p) new hooks stands ∙ o.original;
    reply = same_count (2 + 2 * p) new hooks stands ∙ o.reply;
  };
  down = λ p. same_up p new hooks stands ∙ h.down p;
  some = same_count 0 new hooks stands ∙ h.some;
  links = λ p e. h.links p (sym (same_links p new hooks stands) ∙ e);
  owned = h.owned;
  clear = h.clear;
}

desk_held : (place : ℕ) (hs : List Hold) → desk.is_taken place hs ≡ true → desk.is_held place hs ≡ true
desk_held place [] e = absurd (false≢true e)
desk_held place (x ∷ xs) e =
    ⊎_elim (λ (t : (x.place == place && is_none x.id) ≡ true). or_left (x.place == place) (desk.is_held place xs) (and_parts (x.place == place) (is_none x.id) t).0)
    (λ (t : desk.is_taken place xs ≡ true). or_right (x.place == place) (desk.is_held place xs) (desk_held place xs t))
    (or_cases (x.place == place && is_none x.id) (desk.is_taken place xs) e)

module _ (v : PassSight) (notes : Roomed Note) (spare place : ℕ) (flow : Flow) (h : IsAtRest v notes spare)
    (taken : desk.is_taken place (map hold_of v.view.places.held) ≡ true) where
  took : is_taken place v.view.places.held ≡ true
  took = taken_back place v.view.places.held h.settled.purposes taken

  held_too : desk.is_held place (map hold_of v.view.places.held) ≡ true
  held_too = desk_held place (map hold_of v.view.places.held) taken

  pub can_confirm_flow : is_lawful_flow flow ≡ true → 1 ≤ spare → CanConfirmFlow place flow v
  can_confirm_flow protocol room =
      let own : IsPrepared place v.view.places v.view.buckets.hooks = h.settled.taken place took in
      record {
        fresh = record {
          below = held_below (sight_of (clerk_at v spare)) place h.knows held_too;
          owned = own.owned;
          original = own.original;
          reply = own.reply;
          low = h.settled.down place;
        };
        taken = took;
        down = none_any v.view.buckets.hooks h.settled.down;
        idle = λ i. record { hand = h.idle.hand i; middle = h.idle.middle i };
        expected = h.idle.expected;
        closed = settled_closed v.view.places.held h.settled.purposes;
        free = h.idle.free;
        carried = h.idle.carried;
        shut = h.idle.shut;
        few = omega (arith, room, h.knows.spared);
        protocol = protocol;
      }

  -- the flow is an entry
  module _ (id : ℕ) (w : PassSight) (c : IsConfirmed place flow id v w) (room : 1 ≤ spare) where
    pub rest_entered : IsAtRest w (record notes { items = notes.items ++ record { number = id; event = event.Confirm (record_for flow id place) } ∷ [] }) (spare - 1)
    rest_entered =
        subst (λ p. IsAtRest p (record notes { items = notes.items ++ record { number = id; event = event.Confirm (record_for flow id place) } ∷ [] }) (spare - 1)) (sym c.same) (record {
          idle = idle_still v _ h.idle refl refl refl refl refl refl;
          settled = settled_confirmed place id v.view.places v.view.buckets.hooks w.view.buckets.hooks h.settled took c.stands;
          own = ap (λ ns. ns ++ record { number = id; event = event.Confirm (record_for flow id place) } ∷ []) h.own;
          room = omega (arith, h.room, room, length-append notes.items (record { number = id; event = event.Confirm (record_for flow id place) } ∷ []));
          knows = counted _ _ (subst (λ hs. IsKnown (record (sight_of (clerk_at v spare)) {
            front = c.log ++ event.Confirm (record_for flow id place) ∷ [];
            own = v.view.seen.own ++ record { number = id; event = event.Confirm (record_for flow id place) } ∷ [];
            held = hs;
            spare = spare - 1;
          })) (sym (holds_for place id v.view.places.held (h.settled.taken place took).once took))
              (known_confirmed (sight_of (clerk_at v spare)) flow place id (spare - 1) c.log h.knows c.all.front c.number c.legal (omega (arith, c.all.few, c.all.passes))
              (omega (arith, room, h.knows.spared)) c.all.alone));
        })

    pub says_entered : ConfirmSays place flow (sight_of (clerk_at v spare)) (then_of v (clerk_at w (spare - 1))) (Confirmed id)
    says_entered =
        subst (λ p. ConfirmSays place flow (sight_of (clerk_at v spare)) (then_of v (clerk_at p (spare - 1))) (Confirmed id)) (sym c.same) (record {
          made = made_here (sight_of (clerk_at v spare)) (map hold_of (held_for place id v.view.places.held)) (event.Confirm (record_for flow id place)) id c.log c.all.front c.number room;
          held = holds_for place id v.view.places.held (h.settled.taken place took).once took;
          owed = refl;
        })

  -- an entry stood in its way
  module _ (id : ℕ) (direction : Direction) (both : Bool) (at : ℕ) (w : PassSight) (c : IsInTheWay place flow id direction both at v w) where
    pub rest_blocked : IsAtRest w notes spare
    rest_blocked =
        subst (λ p. IsAtRest p notes spare) (sym c.same) (record {
          idle = idle_still v _ h.idle refl refl refl refl refl refl;
          settled = settled_again v.view.places v.view.buckets.hooks w.view.buckets.hooks h.settled c.stands;
          own = h.own;
          room = h.room;
          knows = counted _ _ (known_later (sight_of (clerk_at v spare)) w.view.seen.front h.knows c.all.front c.all.legal
              (omega (arith, c.all.few, c.all.passes)) c.all.alone);
        })

    pub says_blocked : ConfirmSays place flow (sight_of (clerk_at v spare)) (then_of v (clerk_at w spare)) (Clash id direction both at)
    says_blocked = (
      record {
        saw = subst (λ p. Saw (sight_of (clerk_at v spare)) (then_of v (clerk_at p spare))) (sym c.same)
            (saw_more (sight_of (clerk_at v spare)) _ c.all.front refl refl refl
            (record { tracker = refl; sizes = refl; shares = refl; returned = refl; gathered = refl }));
        low = omega (arith, c.point, ap length c.all.front.1, length-append v.view.seen.front c.all.front.0);
        fact = record {
          within = omega (arith, c.point);
          fact = subst (λ (n : ℕ). IsClash place flow id direction both (after w.view.seen.front n)) (sym c.point) c.clash;
        };
      },
      record {
        held = ap (λ (p : PassSight). map hold_of p.view.places.held) c.same;
        owed = ap (λ (p : PassSight). p.view.places.owed) c.same;
      },
    )

  -- whichever it was
  pub rest_confirming : (o : ConfirmOutcome) (w : PassSight) (notes' : Roomed Note) (spare' : ℕ) → ConfirmsFlow place flow o v w → 1 ≤ spare
      → notes' ≡ made_by place flow o notes → spare' ≡ room_for o spare → IsAtRest w notes' spare'
  rest_confirming (Confirmed id) w notes' spare' c room is is' =
      subst (IsAtRest w notes') (sym is') (subst (λ ns. IsAtRest w ns (spare - 1)) (sym is) (rest_entered id w c room))
  rest_confirming (Clash id direction both at) w notes' spare' c room is is' =
      subst (IsAtRest w notes') (sym is') (subst (λ ns. IsAtRest w ns spare) (sym is) (rest_blocked id direction both at w c))

  pub says_confirming : (o : ConfirmOutcome) (w : PassSight) (spare' : ℕ) → ConfirmsFlow place flow o v w → 1 ≤ spare → spare' ≡ room_for o spare
      → ConfirmSays place flow (sight_of (clerk_at v spare)) (then_of v (clerk_at w spare')) o
  says_confirming (Confirmed id) w spare' c room is =
      subst (λ n. ConfirmSays place flow (sight_of (clerk_at v spare)) (then_of v (clerk_at w n)) (Confirmed id)) (sym is) (says_entered id w c room)
  says_confirming (Clash id direction both at) w spare' c room is =
      subst (λ n. ConfirmSays place flow (sight_of (clerk_at v spare)) (then_of v (clerk_at w n)) (Clash id direction both at)) (sym is) (says_blocked id direction both at w c)
