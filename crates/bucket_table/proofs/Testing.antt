-- A place is tested: how the steps of it follow one another.
use Rattle.std.proofs.Common.{◌≡◌, ℕ, ◌+◌, ◌-◌, ◌<◌, ◌≤◌, Bool, true, false, Option, Some, List, [], ◌∷◌, ◌++◌, length, refl, sym, ap, subst, ◌∙◌, ⊎_elim, inl, inr, arith, append_assoc, append-nil}
use Rattle.std.specs.Prelude.{◌==◌, ◌&&◌, ◌||◌, not, if◌then◌else◌, nat_le, nat_lt}
use Rattle.std.specs.List.{list_all}
use Rattle.std.proofs.lemmas.Bool.{and_from, and_parts, and_right, cond_both, eq-eqb, leb-true, or_left, or_right}
use Rattle.std.proofs.lemmas.Bool.Decides.{nat_tests}
use Rattle.history_book.specs.Entry.{confirmed_by}
use Rattle.history_book.specs.Point.{StartsWith}
use Rattle.history_book.specs.declared.event.Event.{Event}
use Rattle.history_book.specs.declared.sizes.Sizes.{Sizes}
use Rattle.track_rule.specs.Layout.{phase_word, place_of}
use Rattle.track_rule.specs.Notes.{has_met, lost_note, lost_noted, note_where}
use Rattle.track_rule.specs.PhaseSteps.{LoadsPhase, has_place_of, kept_for, purpose_at, saw_confirm, test_at}
use Rattle.track_rule.specs.Readings.{found}
use Rattle.track_rule.specs.References.{WasConfirmed}
use Rattle.track_rule.specs.Sights.{PassSight, sizes_of}
use Rattle.track_rule.specs.Steps.{AreAll, Looks, at_point, found_history, keep}
use Rattle.track_rule.specs.declared.view.MetLink.{MetLink}
use Rattle.track_rule.specs.declared.view.Purpose.{Purpose}
use Rattle.track_rule.specs.declared.view.Purpose.TheVariants.{Shown, For}
use Rattle.track_rule.specs.declared.view.Reading.{Reading}
use Rattle.track_rule.specs.declared.view.View.{View}
use Rattle.bucket_table.specs.Finding.{IsTesting, Tests, is_of_test, others_of}
use Rattle.bucket_table.specs.Following.{HasMet, HasPassed, HasSeen, WalksOn, is_of_walk, met_with}
use Rattle.bucket_table.specs.declared.lookup.Goal.{Goal}
use Rattle.bucket_table.proofs.Looking.{all_append}

-- tests of numbers
pub below_is : (m n : ℕ) → m < n → nat_lt m n ≡ true
below_is m n low = grind (arith, nat_tests)

pub below_not : (m n : ℕ) → n ≤ m → nat_lt m n ≡ false
below_not m n high = grind (arith, nat_tests)

-- a reading of a word behind the generations
pub high_test : (z : Sizes) (place word n : ℕ) → 3 + z.buckets ≤ word → is_of_test z place (found word n) ≡ true
high_test z place word n high =
    and_from (not (nat_le 3 word && nat_lt word (3 + z.buckets))) true (ap not (and_right (nat_le 3 word) (nat_lt word (3 + z.buckets)) (below_not word (3 + z.buckets) high))) refl

walk_tests : (z : Sizes) (place : ℕ) (rs : List Reading) → list_all (is_of_walk z) rs ≡ true → list_all (is_of_test z place) rs ≡ true
walk_tests z place [] e = refl
walk_tests z place (r ∷ rs) e =
    let t = and_parts (is_of_walk z r) (list_all (is_of_walk z) rs) e in
    let parts = and_parts (nat_le (3 + z.buckets) r.word) (not r.own) t.0 in
    and_from (is_of_test z place r) (list_all (is_of_test z place) rs)
    (and_from (not (nat_le 3 r.word && nat_lt r.word (3 + z.buckets))) (not r.own || _)
    (ap not (and_right (nat_le 3 r.word) (nat_lt r.word (3 + z.buckets)) (below_not r.word (3 + z.buckets) (leb-true (3 + z.buckets) r.word parts.0))))
    (or_left (not r.own) _ parts.1))
    (walk_tests z place rs t.1)

-- no event was seen, or all that are; so the front goes on
pub starts : (v u : PassSight) → HasSeen v u → StartsWith u.view.seen.front v.view.seen.front
starts v u seen =
    ⊎_elim
    (λ (e : u.view.seen.front ≡ v.view.seen.front). ([], e ∙ sym (append-nil v.view.seen.front)))
    (λ (a : AreAll v.view u.view.seen.front). a.front)
    seen

starts_twice : (a b c : List Event) → StartsWith c b → StartsWith b a → StartsWith c a
starts_twice a b c (ys, e) (xs, f) = (xs ++ ys, e ∙ ap (λ (es : List Event). es ++ ys) f ∙ append_assoc a xs ys)

module _ (place : ℕ) (v u : PassSight) (t : Tests place v u) where
  pub all_back : (log : List Event) → AreAll u.view log → AreAll v.view log
  all_back log all =
      let b = subst (λ (x : PassSight). AreAll x.view log) t.same all in
      record {
        front = starts_twice v.view.seen.front u.view.seen.front log b.front (starts v u t.seen);
        told = b.told;
        legal = b.legal;
        few = b.few;
        passes = b.passes;
        shares = b.shares;
        alone = b.alone;
      }

  -- one test after another
  unfoldable pub tests_on : (w : PassSight) → Tests place u w → Tests place v w
  tests_on w s = record {
    more = t.more ++ s.more;
    same = s.same
        ∙ ap (λ (x : PassSight). record x {
          view = record x.view {
            seen = record x.view.seen { front = w.view.seen.front };
            places = record x.view.places { held = w.view.places.held; owed = w.view.places.owed };
            walk = w.view.walk;
            readings = x.view.readings ++ s.more;
          };
        }) t.same
        ∙ ap (λ (rs : List Reading). record v {
          view = record v.view {
            seen = record v.view.seen { front = w.view.seen.front };
            places = record v.view.places { held = w.view.places.held; owed = w.view.places.owed };
            walk = w.view.walk;
            readings = rs;
          };
        }) (append_assoc v.view.readings t.more s.more);
    seen = ⊎_elim
        (λ (e : w.view.seen.front ≡ u.view.seen.front).
        ⊎_elim
        (λ (f : u.view.seen.front ≡ v.view.seen.front). inl (e ∙ f))
        (λ (a : AreAll v.view u.view.seen.front). inr (subst (AreAll v.view) (sym e) a)) t.seen)
        (λ (a : AreAll u.view w.view.seen.front). inr (all_back w.view.seen.front a))
        s.seen;
    quiet = all_append (is_of_test (sizes_of v) place) t.more s.more t.quiet (subst (λ (z : Sizes). list_all (is_of_test z place) s.more ≡ true) (ap sizes_of t.same) s.quiet);
  }

-- a walk goes on
pub walks_test : (place : ℕ) (v w : PassSight) → WalksOn v w → Tests place v w
walks_test place v w walks =
    let front : w.view.seen.front ≡ v.view.seen.front = ap (λ (x : PassSight). x.view.seen.front) walks.same in
    record {
      more = walks.more;
      same = walks.same ∙ (λ i. record v {
        view = record v.view {
          seen = record v.view.seen { front = sym front i };
          places = record v.view.places {
            held = sym (ap (λ (x : PassSight). x.view.places.held) walks.same) i;
            owed = sym (ap (λ (x : PassSight). x.view.places.owed) walks.same) i;
          };
          walk = w.view.walk;
          readings = v.view.readings ++ walks.more;
        };
      });
      seen = inl front;
      quiet = walk_tests (sizes_of v) place walks.more walks.quiet;
    }

-- what the walk notes where no entry is live at a place of which it met a link, and where one is
module _ (g : Goal) (link place : ℕ) (lost : Bool) (v w : View) (walk : w.walk ≡ note_where lost place v.walk) (h : HasMet g link v) where
  pub note_lost : lost ≡ true → place_of link ≡ place → HasPassed g w
  note_lost is here = record {
    note = lost_noted place h.note;
    walk = walk ∙ ap (λ (b : Bool). note_where b place v.walk) is ∙ ap (lost_note place) h.walk;
    its = record { bucket_is = h.is.its.bucket_is; generation_is = h.is.its.generation_is };
    passed = ap (λ (met : List MetLink). h.note.passed || has_met place met) h.is.met
        ∙ or_right h.note.passed (has_met place (met_with link g.first g.second ∷ h.is.before))
        (or_left (place_of link == place) (has_met place h.is.before) (eq-eqb (place_of link) place here));
  }

  pub note_stays : lost ≡ false → HasMet g link w
  note_stays is = record {
    note = h.note;
    walk = walk ∙ ap (λ (b : Bool). note_where b place v.walk) is ∙ h.walk;
    is = h.is;
  }

-- the newest reference after a load of the phase
pub test_live : (front : List Event) (place n : ℕ) (why : Purpose) → 3 ≤ n → test_at front place n (keep place why) ≡ keep place (purpose_at front place (n - 3) why)
test_live front place n why live =
    λ i. keep place (if below_is 2 n live i && eq-eqb place place refl i then purpose_at front place (n - 3) why else why)

pub test_dead : (front : List Event) (place n : ℕ) (why : Purpose) → n < 3 → test_at front place n (keep place why) ≡ keep place why
test_dead front place n why dead =
    λ i. keep place (if below_not 2 n (omega (arith, dead)) i && place == place then purpose_at front place (n - 3) why else why)

-- a place that is held for an id is held for it once its Confirm was seen
pub purpose_kept : (front front' : List Event) (place id j : ℕ) → saw_confirm front' id place ≡ true → purpose_at front' place j (kept_for front place id) ≡ For id
purpose_kept front front' place id j seen =
    cond_both (saw_confirm front id place) (For id) (Shown id) (λ p. purpose_at front' place j p ≡ For id) (λ e. refl)
    (λ e. ap (λ (b : Bool). if b then For id else Shown id) seen)

pub saw_is : (front : List Event) (id place : ℕ) → WasConfirmed front id place → saw_confirm front id place ≡ true
saw_is front id place was =
    ap (λ (o : Option Event). has_place_of place (confirmed_by o)) was.event ∙ eq-eqb was.subject.place place was.its_place

-- a load of the phase of the place that is tested
module _ (place n : ℕ) (why : Purpose) (v w : PassSight) (t : IsTesting place why v) (loads : LoadsPhase place v.view n w.view) (kept : w ≡ record v { view = w.view }) where
  phase_view : w.view ≡ record v.view {
    places = record v.view.places { held = test_at v.view.seen.front place n (keep place why) ∷ others_of v.view.places.held };
    walk = w.view.walk;
    readings = w.view.readings;
  }
  phase_view = loads.newest (keep place why) (others_of v.view.places.held) t.held t.closed

  pub phase_front : w.view.seen.front ≡ v.view.seen.front
  phase_front = ap (λ (x : View). x.seen.front) phase_view

  pub phase_held : w.view.places.held ≡ test_at v.view.seen.front place n (keep place why) ∷ others_of v.view.places.held
  phase_held = ap (λ (x : View). x.places.held) phase_view

  pub phase_owed : w.view.places.owed ≡ v.view.places.owed
  phase_owed = ap (λ (x : View). x.places.owed) phase_view

  pub phase_walk : w.view.walk ≡ note_where (nat_lt n 3) place v.view.walk
  phase_walk = ap (λ (x : View). x.walk) loads.view

  pub phase_test : Tests place v w
  phase_test = record {
    more = found (phase_word (sizes_of v) place) n ∷ [];
    same = kept ∙ ap (λ (x : View). record v { view = x }) (phase_view ∙ (λ i. record v.view {
      seen = record v.view.seen { front = sym phase_front i };
      places = record v.view.places { held = sym phase_held i; owed = sym phase_owed i };
      walk = w.view.walk;
      readings = ap (λ (x : View). x.readings) loads.view i;
    }));
    seen = inl phase_front;
    quiet = and_from (is_of_test (sizes_of v) place (found (phase_word (sizes_of v) place) n)) true (high_test (sizes_of v) place (phase_word (sizes_of v) place) n (omega arith)) refl;
  }

-- a load of the history word
module _ (place word : ℕ) (v w : PassSight) (looks : Looks v.view word w.view) (kept : w ≡ record v { view = w.view }) where
  pub look_held : w.view.places.held ≡ v.view.places.held
  look_held = ap (λ (x : View). x.places.held) looks.same

  pub look_owed : w.view.places.owed ≡ v.view.places.owed
  look_owed = ap (λ (x : View). x.places.owed) looks.same

  pub look_test : Tests place v w
  look_test = record {
    more = found_history word v.view ∷ [];
    same = kept ∙ ap (λ (x : View). record v { view = x }) (looks.same ∙ (λ i. record v.view {
      seen = record v.view.seen { front = w.view.seen.front };
      places = record v.view.places { held = sym look_held i; owed = sym look_owed i };
      walk = sym (ap (λ (x : View). x.walk) looks.same) i;
      readings = v.view.readings ++ found_history word v.view ∷ [];
    }));
    seen = inr looks.all;
    quiet = refl;
  }

  pub look_stays : (g : Goal) (link : ℕ) → HasMet g link v.view → HasMet g link w.view
  look_stays g link h = record {
    note = record h.note { at = Some (length w.view.seen.front) };
    walk = ap (λ (x : View). x.walk) looks.same ∙ ap (at_point (length w.view.seen.front)) h.walk;
    is = record {
      its = record { bucket_is = h.is.its.bucket_is; generation_is = h.is.its.generation_is };
      before = h.is.before;
      met = h.is.met;
    };
  }
