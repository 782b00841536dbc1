-- A clerk that destroyed the entry for which it holds a place.
use Rattle.shared_desk.proofs.Known.{counted}
use Rattle.std.specs.Prelude.{◌&&◌, ◌^◌}
use Rattle.std.proofs.Common.{◌≡◌, ℕ, ◌-◌, ◌<◌, ◌≤◌, true, false, Option, None, List, [], ◌∷◌, ◌++◌, map, refl, sym, ap, subst, ◌∙◌, arith, ⊎_elim, length-append}
use Rattle.std.proofs.lemmas.Bool.{and_parts, cases_Bool, false≢true, or_cases}
use Rattle.room_list.specs.Roomed.{Roomed}
use Rattle.history_book.specs.Desk.{Destroys, IsRecord, KillSays}
use Rattle.history_book.specs.Held.{held_id, is_held_for_entry}
use Rattle.history_book.specs.Laws.{StatesStay}
use Rattle.history_book.specs.Legality.{reason_moment_of}
use Rattle.history_book.specs.State.{record_of}
use Rattle.history_book.specs.declared.event.Note.{Note}
use Rattle.history_book.specs.declared.event.Why.{Why}
use Rattle.history_book.specs.declared.outcome.KillOutcome.{KillOutcome}
use Rattle.history_book.specs.declared.outcome.KillOutcome.TheVariants as kill
use Rattle.history_book.specs.declared.record.Record.{Record}
use Rattle.track_rule.specs.KeptWords.{is_for, is_kept_for}
use Rattle.track_rule.specs.References.{held_times, is_at, is_for_new, is_taken}
use Rattle.track_rule.specs.Sights.{PassSight}
use Rattle.track_rule.specs.Sums.{bit}
use Rattle.track_rule.specs.declared.view.Hook.{Hook}
use Rattle.track_rule.specs.declared.view.Keep.{Keep}
use Rattle.track_rule.specs.declared.view.Places.{Places}
use Rattle.track_rule.specs.declared.view.Purpose.{Purpose}
use Rattle.track_rule.specs.declared.view.Purpose.TheVariants.{Taken, Testing, Shown, For}
use Rattle.shared_desk.specs.Commit.{seen_with}
use Rattle.shared_desk.specs.Killing.{IsAsFound, IsKilled, Kills, SuitsKill, destroy_of}
use Rattle.shared_desk.specs.Noting.{room_after, with_note}
use Rattle.bucket_table.specs.Finding.{has_hook}
use Rattle.shared_desk.specs.Rest.{AreSettled, IsAtRest, IsPrepared}
use Rattle.shared_desk.specs.Sights.{hold_of, sight_of}
use Rattle.shared_desk.specs.Touching.{IsNotLive, Notes}
use Rattle.shared_desk.proofs.Entered.{none_taken}
use Rattle.shared_desk.proofs.Making.{none_any}
use Rattle.shared_desk.proofs.Noted.{known_made, looks_left, made_here, noted_one, rest_left, so_before}
use Rattle.shared_desk.proofs.Peeking.{kept}
use Rattle.shared_desk.proofs.Resting.{clerk_at, idle_still, then_of}

-- a place that is held for an id is held
kept_times : (place id : ℕ) (ks : List Keep) → is_kept_for place id ks ≡ true → 0 < held_times place ks
kept_times place id [] e = absurd (false≢true e)
kept_times place id (k ∷ ks) e =
    ⊎_elim
    (λ (t : (is_for id k.purpose && is_at place k) ≡ true). omega (arith, ap bit (and_parts (is_for id k.purpose) (is_at place k) t).1))
    (λ (t : is_kept_for place id ks ≡ true). omega (arith, kept_times place id ks t))
    (or_cases (is_for id k.purpose && is_at place k) (is_kept_for place id ks) e)

-- one that is held once is not held for a new entry too
not_new : (id : ℕ) (p : Purpose) → is_for id p ≡ true → is_for_new p ≡ true → ⊥
not_new id Taken e f = false≢true e
not_new id Testing e f = false≢true f
not_new id (Shown i) e f = false≢true f
not_new id (For i) e f = false≢true f

not_taken : (place id : ℕ) (ks : List Keep) → held_times place ks ≡ 1 → is_kept_for place id ks ≡ true → is_taken place ks ≡ true → ⊥
not_taken place id [] once e f = false≢true e
not_taken place id (k ∷ ks) once e f =
    ⊎_elim
    (λ (t : (is_for id k.purpose && is_at place k) ≡ true).
    let this = and_parts (is_for id k.purpose) (is_at place k) t in
    let none : held_times place ks ≡ 0 = omega (arith, once, ap bit this.1) in
    ⊎_elim
    (λ (n : (is_at place k && is_for_new k.purpose) ≡ true). not_new id k.purpose this.0 (and_parts (is_at place k) (is_for_new k.purpose) n).1)
    (λ (n : is_taken place ks ≡ true). false≢true (sym (none_taken place ks none) ∙ n))
    (or_cases (is_at place k && is_for_new k.purpose) (is_taken place ks) f))
    (λ (t : is_kept_for place id ks ≡ true).
    let some : 0 < held_times place ks = kept_times place id ks t in
    ⊎_elim
    (λ (n : (is_at place k && is_for_new k.purpose) ≡ true).
    absurd (omega (arith, once, some, ap bit (and_parts (is_at place k) (is_for_new k.purpose) n).0)))
    (λ (n : is_taken place ks ≡ true).
    ⊎_elim
    (λ (a : is_at place k ≡ true). absurd (omega (arith, once, some, ap bit a)))
    (λ (a : is_at place k ≡ false). not_taken place id ks (omega (arith, once, ap bit a)) t n)
    (cases_Bool (is_at place k)))
    (or_cases (is_at place k && is_for_new k.purpose) (is_taken place ks) f))
    (or_cases (is_for id k.purpose && is_at place k) (is_kept_for place id ks) e)

-- the clerk carries no reference before nor then
settled_still : (places : Places) (ended : List ℕ) (hooks : List Hook) → AreSettled places hooks → AreSettled (record places { ended = ended }) hooks
settled_still places ended hooks h = record {
  purposes = h.purposes;
  taken = λ p e. let o : IsPrepared p places hooks = h.taken p e in record { once = o.once; owned = o.owned; original = o.original; reply = o.reply };
  down = h.down;
  some = h.some;
  links = h.links;
  owned = h.owned;
  clear = h.clear;
}

module _ (v : PassSight) (notes : Roomed Note) (spare place : ℕ) (why : Why) (h : IsAtRest v notes spare)
    (held : is_held_for_entry place (map hold_of v.view.places.held) ≡ true) (room : 1 ≤ spare) where
  kept_here : is_kept_for place (held_id place (map hold_of v.view.places.held)) v.view.places.held ≡ true
  kept_here = kept v notes spare place h held

  bare : has_hook place v.view.buckets.hooks ≡ false
  bare =
      ⊎_elim
      (λ (e : has_hook place v.view.buckets.hooks ≡ true).
      let taken : is_taken place v.view.places.held ≡ true = h.settled.links place e in
      absurd (not_taken place (held_id place (map hold_of v.view.places.held)) v.view.places.held (h.settled.taken place taken).once kept_here taken))
      (λ (e : has_hook place v.view.buckets.hooks ≡ false). e)
      (cases_Bool (has_hook place v.view.buckets.hooks))

  pub suits_kill : reason_moment_of why ≤ 10 ^ 16 → SuitsKill place why v
  suits_kill timely = record {
    id = held_id place (map hold_of v.view.places.held);
    kept = kept_here;
    timely = timely;
    shut = h.idle.shut;
    expected = h.idle.expected;
    clear = record { carried = h.idle.carried; down = none_any v.view.buckets.hooks h.settled.down; bare = bare; few = omega (arith, room, h.knows.spared) };
  }

  -- the entry was destroyed
  module _ (number : ℕ) (q : Record) (w : PassSight) (t : IsKilled place why number q v.view.commit v w) where
    its_id : held_id place (map hold_of v.view.places.held) ≡ q.id
    its_id = t.its (held_id place (map hold_of v.view.places.held)) kept_here

    abbrev after : PassSight
    after = record v {
      view = record v.view {
        seen = seen_with t.ended.log number (destroy_of q why) v.view.seen;
        places = record v.view.places { ended = w.view.places.ended };
        walk = w.view.walk;
        readings = w.view.readings;
      };
    }

    rest_killed : (m : Note) → w.view.seen.own ≡ v.view.seen.own ++ m ∷ [] → IsAtRest w (record notes { items = notes.items ++ m ∷ [] }) (spare - 1)
    rest_killed m own =
        subst (λ k. IsAtRest k (record notes { items = notes.items ++ m ∷ [] }) (spare - 1)) (sym t.same) (record {
          idle = idle_still v _ h.idle refl refl refl refl refl refl;
          settled = settled_still v.view.places w.view.places.ended v.view.buckets.hooks h.settled;
          own = ap (λ ns. ns ++ m ∷ []) h.own ∙ sym own ∙ ap (λ (k : PassSight). k.view.seen.own) t.same;
          room = omega (arith, h.room, room, length-append notes.items (m ∷ []));
          knows = counted _ _ (known_made (sight_of (clerk_at v spare)) (destroy_of q why) number (spare - 1) t.ended.log h.knows t.ended.all.front t.ended.number_is t.ended.legal
              (omega (arith, t.ended.all.few, t.ended.all.passes)) (omega (arith, room, h.knows.spared)) t.ended.all.alone);
        })

    destroys : StatesStay → Destroys q.id why (sight_of (clerk_at v spare)) (then_of v (clerk_at after (spare - 1))) number q
    destroys stay = record {
      made = made_here (sight_of (clerk_at v spare)) (map hold_of v.view.places.held) (destroy_of q why) number t.ended.log t.ended.all.front t.ended.number_is room;
      found = so_before stay t.ended.log (destroy_of q why) number (IsRecord q.id q) t.ended.number_is t.ended.found;
      reason = t.reason;
      same = record { held = refl; owed = refl };
    }

    says_killed : StatesStay → KillSays place why (sight_of (clerk_at v spare)) (then_of v (clerk_at w (spare - 1))) (kill.Killed number q)
    says_killed stay =
        subst (λ k. KillSays place why (sight_of (clerk_at v spare)) (then_of v (clerk_at k (spare - 1))) (kill.Killed number q)) (sym t.same)
        (subst (λ (i : ℕ). Destroys i why (sight_of (clerk_at v spare)) (then_of v (clerk_at after (spare - 1))) number q) (sym its_id) (destroys stay))

  pub rest_killing : (o : KillOutcome) (w : PassSight) (made : Option Note) → Kills place why o v w → Notes made v.view.seen.own w.view.seen.own
      → IsAtRest w (with_note made notes) (room_after made spare)
  rest_killing (kill.Killed number q) w made t is =
      let one = noted_one made v.view.seen.own w.view.seen.own (record { number = number; event = destroy_of q why }) is (ap (λ (k : PassSight). k.view.seen.own) t.same) in
      subst (λ (m : Option Note). IsAtRest w (with_note m notes) (room_after m spare)) (sym one.1) (rest_killed number q w t one.0 one.2)
  rest_killing (kill.Gone at) w made t is = rest_left v notes spare place h held at IsNotLive w t made is
  rest_killing (kill.Not q at) w made t is = rest_left v notes spare place h held at (IsAsFound q) w t.left made is

  pub says_killing : StatesStay → (o : KillOutcome) (w : PassSight) (made : Option Note) → Kills place why o v w → Notes made v.view.seen.own w.view.seen.own
      → KillSays place why (sight_of (clerk_at v spare)) (then_of v (clerk_at w (room_after made spare))) o
  says_killing stay (kill.Killed number q) w made t is =
      let one = noted_one made v.view.seen.own w.view.seen.own (record { number = number; event = destroy_of q why }) is (ap (λ (k : PassSight). k.view.seen.own) t.same) in
      subst (λ (m : Option Note). KillSays place why (sight_of (clerk_at v spare)) (then_of v (clerk_at w (room_after m spare))) (kill.Killed number q))
      (sym one.1) (says_killed number q w t stay)
  says_killing stay (kill.Gone at) w made t is =
      looks_left v notes spare place h held at IsNotLive w t made is (λ s. record_of (held_id place (map hold_of v.view.places.held)) s ≡ None) (λ fact. fact)
  says_killing stay (kill.Not q at) w made t is =
      let looks = looks_left v notes spare place h held at (IsAsFound q) w t.left made is (IsRecord (held_id place (map hold_of v.view.places.held)) q) (λ fact. fact) in
      (looks.0, t.reason, looks.1)
