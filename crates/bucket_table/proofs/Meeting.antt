-- A place is tested, and given up where no entry with the tuple is live there.
use Rattle.std.proofs.Common.{◌≡◌, ◌≢◌, ℕ, ◌+◌, ◌-◌, ◌%◌, ◌<◌, ◌≤◌, Bool, true, false, Option, Some, None, List, [], ◌∷◌, ◌++◌, length, refl, sym, ap, subst, ◌∙◌, arith, ⊎_elim, inl, inr, append_assoc}
use Rattle.std.specs.Prelude.{◌==◌, ◌&&◌, ◌||◌, ◌*◌, not, if◌then◌else◌, filter, is_some, nat_le, nat_lt}
use Rattle.std.specs.List.{list_all, list_any, slice_get}
use Rattle.std.proofs.lemmas.Bool.{and_from, and_parts, and_right, cases_Bool, cond_both, eq-eqb, eqb-false, eqb-true, false≢true, le-leb, ne_eqb, or_parts, or_right}
use Rattle.std.proofs.lemmas.List.Folds.{list_any-append}
use Rattle.track_rule.specs.ChangesOnly.{has_change, is_last_given, is_refs_of}
use Rattle.tuple_core.specs.declared.Direction.{Direction}
use Rattle.history_book.specs.Desk.{IsLiveIn}
use Rattle.history_book.specs.declared.event.Event.{Event}
use Rattle.history_book.specs.declared.sizes.Sizes.{Sizes}
use Rattle.track_rule.specs.BucketSteps.{LoadsGen}
use Rattle.track_rule.specs.Free.{is_among, unlisted}
use Rattle.track_rule.specs.History.{state_after}
use Rattle.track_rule.specs.KeptWords.{is_kept_for, link_of}
use Rattle.track_rule.specs.Layout.{gen_word, place_of, refs_word}
use Rattle.track_rule.specs.Notes.{note_where}
use Rattle.track_rule.specs.Links.{is_up, kind_of}
use Rattle.track_rule.specs.PhaseSteps.{holds_open}
use Rattle.track_rule.specs.Readings.{Gave, added, found, noted, of_word, read_from, stored}
use Rattle.track_rule.specs.Records.{is_hand_of}
use Rattle.track_rule.specs.References.{held_times, is_at, is_held, is_taken, without}
use Rattle.track_rule.specs.Sights.{PassSight, sizes_of}
use Rattle.track_rule.specs.Steps.{AreAll, LoadsRefs, LowersRefs, MissedRefs, RaisedRefs, hooks_else, hooks_then, is_second, keep, let_go_of, owned_then, raised, read_refs}
use Rattle.track_rule.specs.Sums.{bit, times}
use Rattle.track_rule.specs.declared.view.Hand.{Hand}
use Rattle.track_rule.specs.declared.view.Hook.{Hook}
use Rattle.track_rule.specs.declared.view.Keep.{Keep}
use Rattle.track_rule.specs.declared.view.Places.{Places}
use Rattle.track_rule.specs.declared.view.Purpose.TheVariants.{For, Testing}
use Rattle.track_rule.specs.declared.view.Reading.{Reading}
use Rattle.track_rule.specs.declared.view.View.{View}
use Rattle.track_rule.specs.declared.view.Walk.{Walk}
use Rattle.bucket_table.specs.Finding.{AgainSays, CanDropReference, CanTest, DropsReference, HasEntry, IsDirected, IsElse, IsLastGiven, IsNewlyOwed, IsTesting, LosesEntry, MeetSays, ReadsAgain, ShowsLive, ShowsNone, TestMoved, TestSays, Tests, has_hook, is_of_test, others_of, owed_more, movement}
use Rattle.bucket_table.specs.Following.{HasPassed}
use Rattle.bucket_table.specs.declared.finding.FindOnce.{FindOnce}
use Rattle.bucket_table.specs.declared.finding.FindOnce.TheVariants.{Found, Absent, Moved}
use Rattle.bucket_table.specs.declared.lookup.Goal.{Goal}
use Rattle.bucket_table.proofs.Following.{added_is, gave_two}
use Rattle.bucket_table.proofs.Testing.{all_back, below_not, note_lost, tests_on, walks_test}

-- THE ENTRY

-- a live entry that has the tuple
pub entry_is : (g : Goal) (place id at : ℕ) (direction : Direction) (v u w : PassSight) → ShowsLive place id at v u → IsDirected g place direction u w
    → HasEntry g place id direction at (others_of v.view.places.held) v w
entry_is g place id at direction v u w s d =
    let front : w.view.seen.front ≡ u.view.seen.front = ap (λ (x : PassSight). x.view.seen.front) d.walks.same in
    let held : w.view.places.held ≡ u.view.places.held = ap (λ (x : PassSight). x.view.places.held) d.walks.same in
    let kept : is_kept_for place id u.view.places.held ≡ true =
    ap (is_kept_for place id) s.held ∙ (λ i. (eq-eqb id id refl i && eq-eqb place place refl i) || is_kept_for place id (others_of v.view.places.held)) in
    record {
      tests = tests_on place v u s.tests w (walks_test place u w d.walks);
      held = held ∙ s.held;
      owed = ap (λ (x : PassSight). x.view.places.owed) d.walks.same ∙ s.owed;
      all = subst (AreAll v.view) (sym front) s.all;
      point = s.point ∙ ap (λ (l : List Event). length l) (sym front);
      was = record { subject = s.was.subject; event = ap (λ (l : List Event). slice_get l id) front ∙ s.was.event; its_place = s.was.its_place };
      live = subst (λ (l : List Event). IsLiveIn place id (state_after l)) (sym front) s.live;
      untaken = s.untaken;
      agreed = s.agreed;
      directed = d.directed id kept s.was;
    }

-- one that has another tuple
pub entry_else : (g : Goal) (link place id at : ℕ) (v u w : PassSight) → ShowsLive place id at v u → IsElse g link u w → LosesEntry g link place v w
entry_else g link place id at v u w s d = record {
  tests = tests_on place v u s.tests w (walks_test place u w d.walks);
  still = record {
    why = For id;
    not_new = refl;
    held = ap (λ (x : PassSight). x.view.places.held) d.walks.same ∙ s.held;
    owed = ap (λ (x : PassSight). x.view.places.owed) d.walks.same ∙ s.owed;
  };
  lost = λ here h. d.lost (s.stays g link h);
}

pub entry_none : (g : Goal) (link place : ℕ) (v w : PassSight) → ShowsNone place v w → LosesEntry g link place v w
entry_none g link place v w s = record { tests = s.tests; still = s.still; lost = λ here h. s.lost g link here h }

-- WHAT BECAME 0

or_true : (b : Bool) → (b || true) ≡ true
or_true true = refl
or_true false = refl

-- before other readings, and behind them
pub last_before : (o : Option ℕ) (z : Sizes) (xs ys : List Reading) → IsLastGiven o z xs → IsLastGiven o z (xs ++ ys)
last_before None z xs ys e = tt
last_before (Some p) z xs ys e =
    list_any-append (λ (r : Reading). r.own && is_last_given z r) xs ys ∙ ap (λ (b : Bool). b || has_change is_last_given z ys) e

pub last_behind : (o : Option ℕ) (z : Sizes) (xs ys : List Reading) → IsLastGiven o z ys → IsLastGiven o z (xs ++ ys)
last_behind None z xs ys e = tt
last_behind (Some p) z xs ys e =
    list_any-append (λ (r : Reading). r.own && is_last_given z r) xs ys ∙ ap (λ (b : Bool). has_change is_last_given z xs || b) e ∙ or_true (has_change is_last_given z xs)

-- it is one of the references
its_refs : (n : ℕ) → (n == n && true) ≡ true
its_refs n = ap (λ (b : Bool). b && true) (eq-eqb n n refl)

-- GIVING UP

-- a filter that keeps all
module _ {X : Type 0} (keeps drops : X → Bool) (either : (x : X) → drops x ≡ false → keeps x ≡ true) where
  filter_all : (xs : List X) → list_any drops xs ≡ false → filter keeps xs ≡ xs
  filter_all [] e = refl
  filter_all (x ∷ xs) e =
      let parts = or_parts (drops x) (list_any drops xs) e in
      ap (λ (b : Bool). if b then x ∷ filter keeps xs else filter keeps xs) (either x parts.0) ∙ ap (λ ys. x ∷ ys) (filter_all xs parts.1)

-- what is held is held some times
held_some : (place : ℕ) (ks : List Keep) → is_held place ks ≡ true → 0 < held_times place ks
held_some place [] e = absurd (false≢true e)
held_some place (k ∷ ks) e =
    ⊎_elim (λ (t : is_at place k ≡ true). omega (arith, ap bit t))
    (λ (t : is_at place k ≡ false). omega (arith, held_some place ks (sym (ap (λ (b : Bool). b || is_held place ks) t) ∙ e)))
    (cases_Bool (is_at place k))

module _ (place : ℕ) (v : PassSight) (can : CanDropReference place v) where
  others : List Keep
  others = others_of v.view.places.held

  pub given_held : without place v.view.places.held ≡ others_of v.view.places.held
  given_held =
      ap (without place) can.held
      ∙ ap (λ (b : Bool). if b then others_of v.view.places.held else keep place can.why ∷ without place (others_of v.view.places.held)) (eq-eqb place place refl)

  its_times : held_times place v.view.places.held ≡ 1 + held_times place (others_of v.view.places.held)
  its_times = ap (held_times place) can.held ∙ ap (λ (b : Bool). bit b + held_times place (others_of v.view.places.held)) (eq-eqb place place refl)

  pub given_owned : owned_then place v.view.places.held v.view.places.owned ≡ v.view.places.owned
  given_owned =
      ap (λ (ks : List Keep). if is_taken place ks then v.view.places.owned else unlisted (place ∷ []) v.view.places.owned) given_held
      ∙ cond_both (is_taken place (others_of v.view.places.held)) v.view.places.owned (unlisted (place ∷ []) v.view.places.owned) (λ xs. xs ≡ v.view.places.owned)
      (λ e. refl)
      (λ e.
      filter_all (λ p. not (is_among p (place ∷ []))) (λ p. p == place)
      (λ p other. ap (λ (b : Bool). not (b || false)) (ne_eqb place p (λ same. eqb-false p place other (sym same))))
      v.view.places.owned (none_owned e))
    where
      none_owned : is_taken place (others_of v.view.places.held) ≡ false → is_among place v.view.places.owned ≡ false
      none_owned e =
          ⊎_elim (λ (t : is_among place v.view.places.owned ≡ true). absurd (false≢true (sym e ∙ can.owned place t)))
          (λ (t : is_among place v.view.places.owned ≡ false). t) (cases_Bool (is_among place v.view.places.owned))

  pub given_hooks : hooks_then place v.view.places.held v.view.buckets.hooks ≡ v.view.buckets.hooks
  given_hooks =
      cond_both (held_times place v.view.places.held == 1) (hooks_else place v.view.buckets.hooks) v.view.buckets.hooks (λ xs. xs ≡ v.view.buckets.hooks)
      (λ e.
      filter_all (λ (h : Hook). not (place_of h.link == place)) (λ (h : Hook). place_of h.link == place) (λ h other. ap not other) v.view.buckets.hooks
      (none_there (eqb-true (held_times place v.view.places.held) 1 e)))
      (λ e. refl)
    where
      none_there : held_times place v.view.places.held ≡ 1 → has_hook place v.view.buckets.hooks ≡ false
      none_there one =
          ⊎_elim
          (λ (t : has_hook place v.view.buckets.hooks ≡ true).
          absurd (omega (arith, one, its_times, held_some place (others_of v.view.places.held) (can.hooks place t))))
          (λ (t : has_hook place v.view.buckets.hooks ≡ false). t) (cases_Bool (has_hook place v.view.buckets.hooks))

  -- a store of the references
  stored_test : (n : ℕ) → is_of_test (sizes_of v) place (stored (refs_word (sizes_of v) place) n) ≡ true
  stored_test n =
      and_from (not (nat_le 3 (refs_word (sizes_of v) place) && nat_lt (refs_word (sizes_of v) place) (3 + (sizes_of v).buckets))) (is_refs_of place (sizes_of v) (stored (refs_word (sizes_of v) place) n))
      (ap not (and_right (nat_le 3 (refs_word (sizes_of v) place)) (nat_lt (refs_word (sizes_of v) place) (3 + (sizes_of v).buckets)) (below_not (refs_word (sizes_of v) place) (3 + (sizes_of v).buckets) (omega arith))))
      (its_refs (refs_word (sizes_of v) place))

  -- what is left where the reference is given up, and this is owed then
  abbrev gave_up : List ℕ → View
  gave_up owed = record v.view {
    places = record v.view.places {
      held = without place v.view.places.held;
      owed = owed;
      owned = owned_then place v.view.places.held v.view.places.owned;
    };
    buckets = record v.view.buckets { hooks = hooks_then place v.view.places.held v.view.buckets.hooks };
  }

  -- with what is owed then, the pass is as it was
  gives_test : (w : PassSight) (n : ℕ) (owed : List ℕ) → w ≡ record v { view = noted (stored (refs_word (sizes_of v) place) n) (gave_up owed) } → Tests place v w
  gives_test w n owed same = record {
    more = stored (refs_word (sizes_of v) place) n ∷ [];
    same = same ∙ (λ i. record v {
      view = record v.view {
        seen = record v.view.seen { front = sym (ap (λ (x : PassSight). x.view.seen.front) same) i };
        places = record v.view.places {
          held = sym (ap (λ (x : PassSight). x.view.places.held) same) i;
          owed = sym (ap (λ (x : PassSight). x.view.places.owed) same) i;
          owned = given_owned i;
        };
        buckets = record v.view.buckets { hooks = given_hooks i };
        walk = sym (ap (λ (x : PassSight). x.view.walk) same) i;
        readings = v.view.readings ++ stored (refs_word (sizes_of v) place) n ∷ [];
      };
    });
    seen = inl (ap (λ (x : PassSight). x.view.seen.front) same);
    quiet = and_from (is_of_test (sizes_of v) place (stored (refs_word (sizes_of v) place) n)) true (stored_test n) refl;
  }

  module _ (n : ℕ) (w : PassSight) (lowers : LowersRefs place v.view n w.view) (kept : w ≡ record v { view = w.view }) where
    -- whether it was the last one
    lowered : (last : Bool) → (n == 1) ≡ last
        → w ≡ record v { view = noted (stored (refs_word (sizes_of v) place) (n - 1)) (gave_up (if last then place ∷ v.view.places.owed else v.view.places.owed)) }
    lowered last e =
        kept ∙ ap (λ (x : View). record v { view = x }) (lowers.view
        ∙ ap (λ (b : Bool). let_go_of b place n v.view) (ap (is_among place) can.carried)
        ∙ ap (λ (b : Bool). noted (stored (refs_word (sizes_of v) place) (n - 1)) (gave_up (if b then place ∷ v.view.places.owed else v.view.places.owed))) e)

    pub gives_some : n ≢ 1 → DropsReference None place v w
    gives_some other =
        let same = lowered false (ne_eqb n 1 other) in
        record {
          tests = gives_test w (n - 1) v.view.places.owed same;
          held = ap (λ (x : PassSight). x.view.places.held) same ∙ given_held;
          owed_is = ap (λ (x : PassSight). x.view.places.owed) same;
          which = tt;
          owes = tt;
          last = tt;
          walk = ap (λ (x : PassSight). x.view.walk) same;
        }

    pub gives_last : n ≡ 1 → DropsReference (Some place) place v w
    unfolding gives_test
    gives_last last =
        let same : w ≡ record v { view = noted (stored (refs_word (sizes_of v) place) 0) (gave_up (place ∷ v.view.places.owed)) } =
        lowered true (eq-eqb n 1 last)
        ∙ ap (λ (k : ℕ). record v { view = noted (stored (refs_word (sizes_of v) place) (k - 1)) (gave_up (place ∷ v.view.places.owed)) }) last in
        record {
          tests = gives_test w 0 (place ∷ v.view.places.owed) same;
          held = ap (λ (x : PassSight). x.view.places.held) same ∙ given_held;
          owed_is = ap (λ (x : PassSight). x.view.places.owed) same;
          which = refl;
          owes = (can.below, lowers.owed, omega (arith, lowers.mine, lowers.count.own, last, its_times));
          last = ap (λ (b : Bool). (true && ((b && true) && 0 == 0)) || false)
              (and_from (nat_le (3 + 2 * (sizes_of v).buckets) (refs_word (sizes_of v) place)) (kind_of (sizes_of v) (refs_word (sizes_of v) place) == 0)
              (le-leb (3 + 2 * (sizes_of v).buckets) (refs_word (sizes_of v) place) (omega arith)) (eq-eqb (kind_of (sizes_of v) (refs_word (sizes_of v) place)) 0 (omega arith)));
          walk = ap (λ (x : PassSight). x.view.walk) same;
        }

-- THE GENERATION AGAIN

pub reads_again : (g : Goal) (word now : ℕ) (v w : PassSight) → word ≡ gen_word (sizes_of v) g.bucket → LoadsGen g.bucket v.view now w.view → w ≡ record v { view = w.view }
    → ReadsAgain g word g.generation now v w
reads_again g word now v w word_is loads kept = record {
  word_is = word_is;
  was_is = refl;
  same = kept ∙ ap (λ (x : View). record v { view = x }) (loads.view ∙ (λ i. record v.view {
    walk = sym (ap (λ (x : View). x.walk) loads.view) i;
    readings = v.view.readings ++ found (gen_word (sizes_of v) g.bucket) now ∷ [];
  }));
  other = λ even h. ne_eqb g.generation now (λ e. passed_by e h even);
  sole = loads.sole;
}
  where
    passed_by : g.generation ≡ now → HasPassed g v.view → g.generation % 2 ≡ 0 → ⊥
    passed_by e h even =
        false≢true (sym (loads.again h.note h.walk (record { bucket_is = h.its.bucket_is; generation_is = h.its.generation_is ∙ e }) (omega (arith, e, even))).0 ∙ h.passed)

-- who owed nothing of it before owes it newly
owes_from : (o : Option ℕ) (n m : ℕ) (xs ys : List ℕ) (ks ls : List Keep) → n ≡ m → xs ≡ ys → ks ≡ ls → IsNewlyOwed o n xs ks → IsNewlyOwed o m ys ls
owes_from o n m xs ys ks ls a b c h =
    subst (λ (k : ℕ). IsNewlyOwed o k ys ls) a (subst (λ (zs : List ℕ). IsNewlyOwed o n zs ls) b (subst (IsNewlyOwed o n xs) c h))

-- THE TEST

module _ (g : Goal) (place : ℕ) (met : Direction) (v u : PassSight) (can : CanDropReference place v) (loses : LosesEntry g (link_of met place) place v u) where
  same_others : others_of u.view.places.held ≡ others_of v.view.places.held
  same_others = ap others_of loses.still.held

  pub can_still : CanDropReference place u
  can_still = record {
    why = loses.still.why;
    not_new = loses.still.not_new;
    held = loses.still.held ∙ ap (λ (ks : List Keep). keep place loses.still.why ∷ ks) (sym same_others);
    below = subst (λ (x : PassSight). place < (sizes_of x).entries) (sym loses.tests.same) can.below;
    carried = ap (λ (x : PassSight). x.view.places.carried) loses.tests.same ∙ can.carried;
    down = λ p. ap (λ (x : PassSight). is_up p x.view.buckets.hooks) loses.tests.same ∙ can.down p;
    hooks = λ p has. ap (is_held p) same_others ∙ can.hooks p (sym (ap (λ (x : PassSight). has_hook p x.view.buckets.hooks) loses.tests.same) ∙ has);
    owned = λ p has. ap (is_taken p) same_others ∙ can.owned p (sym (ap (λ (x : PassSight). is_among p x.view.places.owned) loses.tests.same) ∙ has);
  }

  pub test_moved : (r : FindOnce) (o : Option ℕ) (b w : PassSight) → DropsReference o place u b → AgainSays r g o b w → TestSays r g place met v w
  unfolding tests_on
  test_moved (Found p id direction at) o b w gives again = absurd again
  test_moved (Absent at) o b w gives again = absurd again
  test_moved (Moved word was now q) o b w gives again =
      subst (λ (k : Option ℕ). TestMoved g (link_of met place) place (movement word was now k) (others_of v.view.places.held) v w) (sym again.0) (record {
        between = b;
        tests = tests_on place v u loses.tests b gives.tests;
        held = gives.held ∙ same_others;
        owed_is = gives.owed_is ∙ ap (owed_more o) loses.still.owed;
        which = gives.which;
        owes = owes_from o _ _ _ _ _ _ (ap (λ (x : PassSight). (sizes_of x).entries) loses.tests.same) loses.still.owed same_others gives.owes;
        last = last_behind o (sizes_of v) loses.tests.more gives.tests.more
            (subst (λ (x : PassSight). IsLastGiven o (sizes_of x) gives.tests.more) loses.tests.same gives.last);
        lost = λ here h.
            let before = loses.lost here h in
            record { note = before.note; walk = gives.walk ∙ before.walk; its = before.its; passed = before.passed };
        reads = again.1;
      })

-- THE HOLD

-- readings of the references alone, none of them a first one
refs_quiet : (z : Sizes) (place : ℕ) (rs : List Reading) → list_all (is_refs_of place z) rs ≡ true → list_all (is_of_test z place) rs ≡ true
refs_quiet z place [] e = refl
refs_quiet z place (r ∷ rs) e =
    let t = and_parts (is_refs_of place z r) (list_all (is_refs_of place z) rs) e in
    let high : 3 + z.buckets ≤ r.word = omega (arith, eqb-true r.word (refs_word z place) (and_parts (r.word == refs_word z place) (not (is_some r.free)) t.0).0) in
    and_from (is_of_test z place r) (list_all (is_of_test z place) rs)
    (and_from (not (nat_le 3 r.word && nat_lt r.word (3 + z.buckets))) (not r.own || is_refs_of place z r)
    (ap not (and_right (nat_le 3 r.word) (nat_lt r.word (3 + z.buckets)) (below_not r.word (3 + z.buckets) high))) (or_right (not r.own) (is_refs_of place z r) t.0))
    (refs_quiet z place rs t.1)

-- what only reads the references
only_tests : (place : ℕ) (walk : Option Walk) (rs : List Reading) (v u : PassSight)
    → u ≡ record v { view = record v.view { walk = walk; readings = v.view.readings ++ rs } }
    → list_all (is_refs_of place (sizes_of v)) rs ≡ true → Tests place v u
only_tests place walk rs v u same here = record {
  more = rs;
  same = same ∙ (λ i. record v {
    view = record v.view {
      seen = record v.view.seen { front = sym (ap (λ (x : PassSight). x.view.seen.front) same) i };
      places = record v.view.places {
        held = sym (ap (λ (x : PassSight). x.view.places.held) same) i;
        owed = sym (ap (λ (x : PassSight). x.view.places.owed) same) i;
      };
      walk = sym (ap (λ (x : PassSight). x.view.walk) same) i;
      readings = v.view.readings ++ rs;
    };
  });
  seen = inl (ap (λ (x : PassSight). x.view.seen.front) same);
  quiet = refs_quiet (sizes_of v) place rs here;
}

-- readings of one word
one_here : (n : ℕ) → ((n == n && true) && true) ≡ true
one_here n = ap (λ (b : Bool). (b && true) && true) (eq-eqb n n refl)

two_here : (n : ℕ) → ((n == n && true) && ((n == n && true) && true)) ≡ true
two_here n = (λ i. (eq-eqb n n refl i && true) && ((eq-eqb n n refl i && true) && true))

-- a load of the references that found some
some_read : (place seen : ℕ) (v m : View) → LoadsRefs place v seen m → seen ≢ 0 → m ≡ noted (found (refs_word v.passes.sizes place) seen) v
some_read place seen v m loads some =
    loads.view ∙ ap (λ (b : Bool). noted (found (refs_word v.passes.sizes place) seen) (record v { walk = note_where b place v.walk })) (ne_eqb seen 0 some)

module _ (place seen : ℕ) (v m u : PassSight) (can : CanTest v) (below : place < (sizes_of v).entries)
    (loads : LoadsRefs place v.view seen m.view) (kept : m ≡ record v { view = m.view }) (some : seen ≢ 0)
    (raises : RaisedRefs place seen m.view u.view) (kept' : u ≡ record m { view = u.view }) where
  abbrev read : View
  read = noted (found (refs_word (sizes_of v) place) seen) v.view

  read_is : m.view ≡ read
  read_is = some_read place seen v.view m.view loads some

  not_second : is_second place v.view ≡ false
  not_second = ap (λ (h : Option Hand). (is_taken place v.view.places.held && is_hand_of place h == 1) && not (is_among place v.view.places.carried)) can.hand
      ∙ ap (λ (b : Bool). b && not (is_among place v.view.places.carried)) (off (is_taken place v.view.places.held))
    where
      off : (b : Bool) → (b && false) ≡ false
      off true = refl
      off false = refl

  same : u ≡ record v { view = raised false place seen read }
  same =
      kept' ∙ ap (λ (x : PassSight). record x { view = u.view }) kept
      ∙ ap (λ (x : View). record v { view = x }) (raises.view ∙ ap (λ (x : View). raised (is_second place x) place seen x) read_is ∙ ap (λ (b : Bool). raised b place seen read) not_second)

  its_places : u.view.places ≡ record v.view.places { held = keep place Testing ∷ v.view.places.held }
  its_places = ap (λ (x : PassSight). x.view.places) same

  its_held : u.view.places.held ≡ keep place Testing ∷ v.view.places.held
  its_held = ap (λ (x : Places). x.held) its_places

  its_owed : times place v.view.places.owed ≡ 0
  its_owed = sym (ap (λ (x : View). times place x.places.owed) read_is) ∙ raises.owed

  pub hold_tests : Tests place v u
  hold_tests = record {
    more = found (refs_word (sizes_of v) place) seen ∷ stored (refs_word (sizes_of v) place) (seen + 1) ∷ [];
    same = same ∙ (λ i. record v {
      view = record v.view {
        places = record v.view.places { held = sym its_held i; owed = sym (ap (λ (x : Places). x.owed) its_places) i };
        readings = append_assoc v.view.readings (found (refs_word (sizes_of v) place) seen ∷ []) (stored (refs_word (sizes_of v) place) (seen + 1) ∷ []) i;
        walk = sym (ap (λ (x : PassSight). x.view.walk) same) i;
        seen = record v.view.seen { front = sym (ap (λ (x : PassSight). x.view.seen.front) same) i };
      };
    });
    seen = inl (ap (λ (x : PassSight). x.view.seen.front) same);
    quiet = refs_quiet (sizes_of v) place (found (refs_word (sizes_of v) place) seen ∷ stored (refs_word (sizes_of v) place) (seen + 1) ∷ []) (two_here (refs_word (sizes_of v) place));
  }

  pub hold_testing : IsTesting place Testing u
  hold_testing = record {
    held = its_held ∙ ap (λ (ks : List Keep). keep place Testing ∷ ks) (sym (ap others_of its_held));
    closed = ap (λ (ks : List Keep). holds_open (others_of ks)) its_held ∙ can.closed;
  }

  pub hold_can : CanDropReference place u
  hold_can = record {
    why = Testing;
    not_new = refl;
    held = hold_testing.held;
    below = subst (λ (x : PassSight). place < (sizes_of x).entries) (sym same) below;
    carried = ap (λ (x : Places). x.carried) its_places ∙ can.carried;
    down = λ p. ap (λ (x : PassSight). is_up p x.view.buckets.hooks) same ∙ can.down p;
    hooks = λ p has.
        ap (λ (ks : List Keep). is_held p (others_of ks)) its_held ∙ can.hooks p (sym (ap (λ (x : PassSight). has_hook p x.view.buckets.hooks) same) ∙ has);
    owned = λ p has.
        ap (λ (ks : List Keep). is_taken p (others_of ks)) its_held ∙ can.owned p (sym (ap (λ (x : Places). is_among p x.owned) its_places) ∙ has);
  }

  pub met_held : (g : Goal) (met : Direction) (w : PassSight) (r : FindOnce) → TestSays r g place met u w → MeetSays r g place met v w
  unfolding tests_on hold_tests
  met_held g met w (Found p id direction at) t = (
    t.0,
    its_owed,
    record {
      tests = tests_on place v u hold_tests w t.1.tests;
      held = t.1.held ∙ ap (λ (ks : List Keep). keep place (For id) ∷ others_of ks) its_held;
      owed = t.1.owed ∙ ap (λ (x : Places). x.owed) its_places;
      all = all_back place v u hold_tests w.view.seen.front t.1.all;
      point = t.1.point;
      was = t.1.was;
      live = t.1.live;
      untaken = sym (ap (λ (ks : List Keep). is_taken place (others_of ks)) its_held) ∙ t.1.untaken;
      agreed = λ j kept. t.1.agreed j (ap (λ (ks : List Keep). is_kept_for place j (others_of ks)) its_held ∙ kept);
      directed = t.1.directed;
    },
  )
  met_held g met w (Absent at) t = absurd t
  met_held g met w (Moved word was now o) t = inl (record {
    between = t.between;
    tests = tests_on place v u hold_tests t.between t.tests;
    held = t.held ∙ ap others_of its_held;
    owed_is = t.owed_is ∙ ap (λ (x : Places). owed_more o x.owed) its_places;
    which = t.which;
    owes = owes_from o _ _ _ _ _ _ (ap (λ (x : PassSight). (sizes_of x).entries) same) (ap (λ (x : Places). x.owed) its_places) (ap others_of its_held) t.owes;
    last = last_behind o (sizes_of v) hold_tests.more t.tests.more
        (subst (λ (x : PassSight). IsLastGiven o (sizes_of x) t.tests.more) same t.last);
    lost = λ here h. t.lost here (record { note = h.note; walk = ap (λ (x : PassSight). x.view.walk) same ∙ h.walk; is = h.is });
    reads = t.reads;
  })

pub met_zero : (g : Goal) (place n : ℕ) (met : Direction) (v u w : PassSight) (r : FindOnce) → LoadsRefs place v.view n u.view → u ≡ record v { view = u.view } → n ≡ 0
    → AgainSays r g None u w → MeetSays r g place met v w
met_zero g place n met v u w (Found p id direction at) loads kept zero again = absurd again
met_zero g place n met v u w (Absent at) loads kept zero again = absurd again
met_zero g place n met v u w (Moved word was now o) loads kept zero again =
    let same : u ≡ record v { view = read_refs place n v.view } = kept ∙ ap (λ (x : View). record v { view = x }) loads.view in
    inl (
    subst (λ (k : Option ℕ). TestMoved g (link_of met place) place (movement word was now k) v.view.places.held v w) (sym again.0) (record {
      between = u;
      tests = only_tests place (note_where (n == 0) place v.view.walk) (found (refs_word (sizes_of v) place) n ∷ []) v u same (one_here (refs_word (sizes_of v) place));
      held = ap (λ (x : PassSight). x.view.places.held) same;
      owed_is = ap (λ (x : PassSight). x.view.places.owed) same;
      which = tt;
      owes = tt;
      last = tt;
      lost = λ here h.
          note_lost g (link_of met place) place true v.view u.view
          (ap (λ (x : PassSight). x.view.walk) same ∙ ap (λ (b : Bool). note_where b place v.view.walk) (eq-eqb n 0 zero)) h refl here;
      reads = again.1;
    }))

-- the references changed as the place was to be held
module _ (g : Goal) (place seen now : ℕ) (met : Direction) (v u w : PassSight) (loads : LoadsRefs place v.view seen u.view) (kept : u ≡ record v { view = u.view }) (some : seen ≢ 0)
    (missed : MissedRefs place seen u.view now w.view) (kept' : w ≡ record u { view = w.view }) where
  abbrev word_of : ℕ
  word_of = refs_word (sizes_of v) place

  abbrev both : List Reading
  both = found word_of seen ∷ found word_of now ∷ []

  first : u.view ≡ noted (found word_of seen) v.view
  first = some_read place seen v.view u.view loads some

  two_read : w ≡ record v { view = record v.view { walk = note_where (now == 0) place v.view.walk; readings = v.view.readings ++ both } }
  two_read =
      kept' ∙ ap (λ (x : PassSight). record x { view = w.view }) kept
      ∙ ap (λ (x : View). record v { view = x }) (missed.view ∙ ap (read_refs place now) first
      ∙ ap (λ (rs : List Reading). record v.view { walk = note_where (now == 0) place v.view.walk; readings = rs })
      (append_assoc v.view.readings (found word_of seen ∷ []) (found word_of now ∷ [])))

  differ : seen ≢ now
  differ e = eqb-false now seen missed.other (sym e)

  -- the last one of a list
  read_last : (word m : ℕ) (rs : List Reading) (r : Reading) → (r.word == word) ≡ true → read_from m word (rs ++ r ∷ []) ≡ r.value
  read_last word m [] r e = ap (λ (b : Bool). if b then r.value else m) e
  read_last word m (x ∷ xs) r e = read_last word (if x.word == word then x.value else m) xs r e

  both_are : of_word word_of both ≡ both
  both_are = (λ i. if eq-eqb word_of word_of refl i then found word_of seen ∷ (if eq-eqb word_of word_of refl i then found word_of now ∷ [] else []) else (if eq-eqb word_of word_of refl i then found word_of now ∷ [] else []))

  pub met_moved : (word : ℕ) → word ≡ word_of → MeetSays (Moved word seen now None) g place met v w
  met_moved word word_is = inr (record {
    tests = only_tests place (note_where (now == 0) place v.view.walk) both v w two_read (two_here word_of);
    held = ap (λ (x : PassSight). x.view.places.held) two_read;
    owed_is = ap (λ (x : PassSight). x.view.places.owed) two_read;
    none = refl;
    word_is = word_is;
    gave = subst (λ (k : ℕ). Gave k seen now (added v.view w.view)) (sym word_is)
        (gave_two word_of seen now (added v.view w.view)
        (ap (of_word word_of) (added_is v.view w.view both (ap (λ (x : PassSight). x.view.readings) two_read)) ∙ both_are) differ);
    many = λ one. differ (sym (missed.count.sole (ap (λ (x : View). x.passes.sizes.passes) first ∙ one)
        ∙ ap (λ (x : View). read_from 0 (refs_word x.passes.sizes place) x.readings) first
        ∙ read_last word_of 0 v.view.readings (found word_of seen) (eq-eqb word_of word_of refl)));
  })
