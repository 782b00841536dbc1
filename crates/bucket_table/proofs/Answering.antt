-- What came of looking once for a tuple.
use Rattle.std.proofs.Common.{◌≡◌, ◌≢◌, ℕ, ◌+◌, ◌<◌, ◌≤◌, Bool, true, false, Option, None, List, [], ◌∷◌, ◌++◌, refl, sym, ap, subst, ◌∙◌, ⊎_elim, inl, inr, arith, append_assoc}
use Rattle.std.specs.Prelude.{◌==◌, ◌&&◌, ◌||◌, not, if◌then◌else◌, nat_le, nat_lt}
use Rattle.std.specs.List.{list_all}
use Rattle.std.proofs.lemmas.Bool.{and_from, and_parts, cases_eq, cond_both, eq-eqb, eqb-false, false≢true, le-leb, ne_eqb, or_parts, or_right}
use Rattle.tuple_core.specs.Words.{address_word, flow_word}
use Rattle.tuple_core.specs.declared.Direction.{Direction}
use Rattle.tuple_core.specs.declared.Tuple.{Tuple}
use Rattle.history_book.specs.Point.{StartsWith}
use Rattle.history_book.specs.declared.event.Event.{Event}
use Rattle.history_book.specs.declared.sizes.Sizes.{Sizes}
use Rattle.track_rule.specs.Chains.{shuts_of}
use Rattle.track_rule.specs.ChangesOnly.{changes_only, is_refs_of}
use Rattle.track_rule.specs.KeptWords.{is_kept_for, link_of}
use Rattle.track_rule.specs.Layout.{gen_word, place_of, refs_word, side_of}
use Rattle.track_rule.specs.Readings.{Gave, IsSole, added, changes, found, of_word, read_from, turns_over}
use Rattle.track_rule.specs.References.{is_taken}
use Rattle.track_rule.specs.Sights.{PassSight, sizes_of}
use Rattle.track_rule.specs.Steps.{AreAll, keep}
use Rattle.track_rule.specs.Sums.{times}
use Rattle.track_rule.specs.declared.view.Purpose.TheVariants.{For}
use Rattle.track_rule.specs.declared.view.Reading.{Reading}
use Rattle.bucket_table.specs.Finding.{FindOnceSays, FindsEntry, HasEntry, HasMoved, HoldMoved, IsLastGiven, IsNewlyOwed, MeetSays, TestMoved, Tests, direction_by, is_of_test, owed_more, movement}
use Rattle.bucket_table.specs.Following.{HasMet, HasSeen, IsLink, IsMoved, OnlyReads, bucket_in, direction_at_side, direction_of, met_with, walk_to}
use Rattle.bucket_table.specs.declared.finding.FindOnce.{FindOnce}
use Rattle.bucket_table.specs.declared.finding.FindOnce.TheVariants.{Found, Absent, Moved}
use Rattle.bucket_table.specs.declared.lookup.Goal.{Goal}
use Rattle.bucket_table.proofs.Following.{added_is, gave_two, many_of, read_on, stands_now, word_low}
use Rattle.bucket_table.proofs.Meeting.{last_before, last_behind}
use Rattle.bucket_table.proofs.Looking.{all_append}
use Rattle.bucket_table.proofs.Testing.{below_is}

-- READINGS

-- a test reads no generation
quiet_word : (z : Sizes) (place word : ℕ) (rs : List Reading) → 2 < word → word < 3 + z.buckets → list_all (is_of_test z place) rs ≡ true → of_word word rs ≡ []
quiet_word z place word [] high low e = refl
quiet_word z place word (r ∷ rs) high low e =
    let t = and_parts (is_of_test z place r) (list_all (is_of_test z place) rs) e in
    let not_gen = (and_parts (not (nat_le 3 r.word && nat_lt r.word (3 + z.buckets))) (not r.own || is_refs_of place z r) t.0).0 in
    let other : r.word ≢ word = λ same.
    false≢true (sym (ap not (and_from (nat_le 3 r.word) (nat_lt r.word (3 + z.buckets)) (le-leb 3 r.word (omega (arith, same, high))) (below_is r.word (3 + z.buckets) (omega (arith, same, low))))) ∙ not_gen) in
    ap (λ (b : Bool). if b then r ∷ of_word word rs else of_word word rs) (ne_eqb r.word word other) ∙ quiet_word z place word rs high low t.1

-- and changes no word but the references of its place
quiet_own : (z : Sizes) (place : ℕ) (rs : List Reading) → list_all (is_of_test z place) rs ≡ true → changes_only (is_refs_of place z) rs ≡ true
quiet_own z place [] e = refl
quiet_own z place (r ∷ rs) e =
    let t = and_parts (is_of_test z place r) (list_all (is_of_test z place) rs) e in
    and_from (not r.own || is_refs_of place z r) (changes_only (is_refs_of place z) rs)
    (and_parts (not (nat_le 3 r.word && nat_lt r.word (3 + z.buckets))) (not r.own || is_refs_of place z r) t.0).1 (quiet_own z place rs t.1)

-- what changes no word changes only such
only_none : (may : Reading → Bool) (rs : List Reading) → changes (λ word. true) rs ≡ false → changes_only may rs ≡ true
only_none may [] e = refl
only_none may (r ∷ rs) e =
    let t = or_parts (r.own && true) (changes (λ word. true) rs) e in
    and_from (not r.own || may r) (changes_only may rs) (none r.own (may r) t.0) (only_none may rs t.1)
  where
    none : (a b : Bool) → (a && true) ≡ false → (not a || b) ≡ true
    none true b e = absurd (false≢true (sym e))
    none false b e = refl

of_word_append : (word : ℕ) (xs ys : List Reading) → of_word word (xs ++ ys) ≡ of_word word xs ++ of_word word ys
of_word_append word [] ys = refl
of_word_append word (r ∷ rs) ys =
    cond_both (r.word == word) (r ∷ of_word word rs) (of_word word rs) (λ zs. (if r.word == word then r ∷ of_word word (rs ++ ys) else of_word word (rs ++ ys)) ≡ zs ++ of_word word ys)
    (λ e. ap (λ (b : Bool). if b then r ∷ of_word word (rs ++ ys) else of_word word (rs ++ ys)) e ∙ ap (λ zs. r ∷ zs) (of_word_append word rs ys))
    (λ e. ap (λ (b : Bool). if b then r ∷ of_word word (rs ++ ys) else of_word word (rs ++ ys)) e ∙ of_word_append word rs ys)

read_of_word : (a word : ℕ) (rs : List Reading) → read_from a word rs ≡ read_from a word (of_word word rs)
read_of_word a word [] = refl
read_of_word a word (r ∷ rs) =
    cond_both (r.word == word) (r ∷ of_word word rs) (of_word word rs) (λ zs. read_from (if r.word == word then r.value else a) word rs ≡ read_from a word zs)
    (λ e. read_of_word (if r.word == word then r.value else a) word rs)
    (λ e. ap (λ (b : Bool). read_from (if b then r.value else a) word rs) e ∙ read_of_word a word rs)

-- what turned over in later readings did so in all
turns_later : (was now : ℕ) (xs ys : List Reading) → turns_over was now ys ≡ true → turns_over was now (xs ++ ys) ≡ true
turns_later was now [] ys e = e
turns_later was now (x ∷ xs) ys e = one_more x (xs ++ ys) (turns_later was now xs ys e)
  where
    one_more : (r : Reading) (rs : List Reading) → turns_over was now rs ≡ true → turns_over was now (r ∷ rs) ≡ true
    one_more r [] h = absurd (false≢true h)
    one_more r (s ∷ rest) h = or_right (r.value == was && s.value == now && not s.own) (turns_over was now (s ∷ rest)) h

-- THE WAY OF A LINK

link_back : (link : ℕ) → 0 < link → link_of (direction_of link) (place_of link) ≡ link
link_back link some =
    ⊎_elim
    (λ (e : side_of link ≡ 0). ap (λ (n : ℕ). link_of (direction_at_side n) (place_of link)) e ∙ omega (arith, e, some))
    (λ (e : side_of link ≢ 0). ap (λ (n : ℕ). link_of (direction_at_side n) (place_of link)) (one_side (side_of link) (omega arith) e) ∙ omega (arith, e, some))
    (cases_eq (side_of link) 0)
  where
    one_side : (n : ℕ) → n < 2 → n ≢ 0 → n ≡ 1
    one_side n low other = omega (arith, low, other)

-- AFTER A WALK

-- the pass has only read, and then tested a place
module _ (place : ℕ) (v u w : PassSight) (reads : OnlyReads v u) (tests : Tests place u w) where
  after_readings : w.view.readings ≡ v.view.readings ++ (added v.view u.view ++ tests.more)
  after_readings =
      ap (λ (x : PassSight). x.view.readings) tests.same ∙ ap (λ (rs : List Reading). rs ++ tests.more) reads.stand
      ∙ append_assoc v.view.readings (added v.view u.view) tests.more

  after_added : added v.view w.view ≡ added v.view u.view ++ tests.more
  after_added = added_is v.view w.view (added v.view u.view ++ tests.more) after_readings

  after_own : changes_only (is_refs_of place (sizes_of v)) (added v.view u.view ++ tests.more) ≡ true
  after_own =
      all_append (λ (r : Reading). not r.own || is_refs_of place (sizes_of v) r) (added v.view u.view) tests.more
      (only_none (is_refs_of place (sizes_of v)) (added v.view u.view) reads.own)
      (subst (λ (z : Sizes). changes_only (is_refs_of place z) tests.more ≡ true) (ap sizes_of reads.same)
      (quiet_own (sizes_of u) place tests.more tests.quiet))

  after_same : w ≡ record v {
    view = record v.view {
      seen = record v.view.seen { front = w.view.seen.front };
      places = record v.view.places { held = w.view.places.held; owed = w.view.places.owed };
      walk = w.view.walk;
      readings = w.view.readings;
    };
  }
  after_same =
      tests.same
      ∙ (λ i. record u {
        view = record u.view {
          seen = record u.view.seen { front = w.view.seen.front };
          places = record u.view.places { held = w.view.places.held; owed = w.view.places.owed };
          walk = w.view.walk;
          readings = sym (ap (λ (x : PassSight). x.view.readings) tests.same) i;
        };
      })
      ∙ ap (λ (x : PassSight). record x {
        view = record x.view {
          seen = record x.view.seen { front = w.view.seen.front };
          places = record x.view.places { held = w.view.places.held; owed = w.view.places.owed };
          walk = w.view.walk;
          readings = w.view.readings;
        };
      }) reads.same

  -- where the walk saw no further event
  module _ (front : u.view.seen.front ≡ v.view.seen.front) where
    all_after : (log : List Event) → AreAll u.view log → AreAll v.view log
    all_after log all =
        let b = subst (λ (x : PassSight). AreAll x.view log) reads.same all in
        record {
          front = subst (StartsWith log) front b.front;
          told = b.told;
          legal = b.legal;
          few = b.few;
          passes = b.passes;
          shares = b.shares;
          alone = b.alone;
        }

    seen_after : HasSeen v w
    seen_after =
        ⊎_elim (λ (e : w.view.seen.front ≡ u.view.seen.front). inl (e ∙ front))
        (λ (a : AreAll u.view w.view.seen.front). inr (all_after w.view.seen.front a)) tests.seen

module _ (t : Tuple) (g : Goal) (place : ℕ) (met : Direction) (v u : PassSight) (some : 1 ≤ (sizes_of v).passes) (mine : shuts_of (bucket_in (sizes_of v) t) v.view ≡ 0)
    (link : IsLink t place met g.generation v u) (bucket : g.bucket ≡ bucket_in (sizes_of v) t) (below : g.bucket < (sizes_of v).buckets)
    (first : g.first ≡ address_word t) (second : g.second ≡ flow_word t) where
  same_sizes : sizes_of u ≡ sizes_of v
  same_sizes = ap sizes_of link.reads.same

  pub low_place : place < (sizes_of v).entries
  low_place = omega (arith, link.place_is, link.some, link.below)

  its_link : link.link ≡ link_of met place
  its_link = sym (link_back link.link link.some) ∙ (λ i. link_of (sym link.direction_is i) (sym link.place_is i))

  its_place : place_of (link_of met place) ≡ place
  its_place = ap place_of (sym its_link) ∙ sym link.place_is

  met_there : HasMet g (link_of met place) u.view
  met_there = record {
    note = walk_to (bucket_in (sizes_of v) t) g.generation (met_with link.link (address_word t) (flow_word t) ∷ link.before);
    walk = link.walk;
    is = record {
      its = record { bucket_is = sym bucket; generation_is = refl };
      before = link.before;
      met = λ i. met_with (its_link i) (sym first i) (sym second i) ∷ link.before;
    };
  }

  found_says : (id at : ℕ) (d : Direction) (w : PassSight) → times place u.view.places.owed ≡ 0 → HasEntry g place id d at u.view.places.held u w → FindsEntry t place id d at v w
  found_says id at d w owed h =
      let held : w.view.places.held ≡ keep place (For id) ∷ v.view.places.held =
      h.held ∙ ap (λ ks. keep place (For id) ∷ ks) (ap (λ (x : PassSight). x.view.places.held) link.reads.same) in
      let owes : w.view.places.owed ≡ v.view.places.owed = h.owed ∙ ap (λ (x : PassSight). x.view.places.owed) link.reads.same in
      record {
        same = after_same place v u w link.reads h.tests ∙ (λ i. record v {
          view = record v.view {
            seen = record v.view.seen { front = w.view.seen.front };
            places = record v.view.places { held = held i; owed = owes i };
            walk = w.view.walk;
            readings = w.view.readings;
          };
        });
        stand = stands_now v.view w.view (added v.view u.view ++ h.tests.more) (after_readings place v u w link.reads h.tests);
        own = ap (changes_only (is_refs_of place (sizes_of v))) (after_added place v u w link.reads h.tests) ∙ after_own place v u w link.reads h.tests;
        below = low_place;
        owed = sym (ap (λ (x : PassSight). times place x.view.places.owed) link.reads.same) ∙ owed;
        untaken = sym (ap (λ (x : PassSight). is_taken place x.view.places.held) link.reads.same) ∙ h.untaken;
        agreed = λ j kept. h.agreed j (ap (λ (x : PassSight). is_kept_for place j x.view.places.held) link.reads.same ∙ kept);
        all = all_after place v u w link.reads h.tests link.front w.view.seen.front h.all;
        point = h.point;
        was = h.was;
        live = h.live;
        directed = (λ i. direction_by (sym first i) (sym second i) h.was.subject) ∙ h.directed;
      }

  owes_before : (o : Option ℕ) → IsNewlyOwed o (sizes_of u).entries u.view.places.owed u.view.places.held → IsNewlyOwed o (sizes_of v).entries v.view.places.owed v.view.places.held
  owes_before o h = subst (λ (x : PassSight). IsNewlyOwed o (sizes_of x).entries x.view.places.owed x.view.places.held) link.reads.same h

  moved_says : (word was now : ℕ) (o : Option ℕ) (w : PassSight) → TestMoved g (link_of met place) place (movement word was now o) u.view.places.held u w → HasMoved t word was now o v w
  moved_says word was now o w m =
      let sizes : sizes_of m.between ≡ sizes_of v = ap sizes_of m.tests.same ∙ same_sizes in
      let low : gen_word (sizes_of v) g.bucket < 3 + (sizes_of v).buckets = word_low (sizes_of v) g.bucket below in
      let gens : of_word (gen_word (sizes_of v) g.bucket) (added v.view u.view) ≡ found (gen_word (sizes_of v) g.bucket) g.generation ∷ [] =
      subst (λ (k : ℕ). of_word (gen_word (sizes_of v) k) (added v.view u.view) ≡ found (gen_word (sizes_of v) k) g.generation ∷ []) (sym bucket) link.loads in
      let quiet : of_word (gen_word (sizes_of v) g.bucket) m.tests.more ≡ [] =
      quiet_word (sizes_of v) place (gen_word (sizes_of v) g.bucket) m.tests.more (omega arith) low
      (subst (λ (z : Sizes). list_all (is_of_test z place) m.tests.more ≡ true) same_sizes m.tests.quiet) in
      let before : of_word (gen_word (sizes_of v) g.bucket) (added v.view u.view ++ m.tests.more) ≡ found (gen_word (sizes_of v) g.bucket) g.generation ∷ [] =
      of_word_append (gen_word (sizes_of v) g.bucket) (added v.view u.view) m.tests.more ∙ (λ i. gens i ++ quiet i) in
      let same : w ≡ record m.between { view = record m.between.view { walk = w.view.walk; readings = m.between.view.readings ++ (found (gen_word (sizes_of v) g.bucket) now ∷ []) } } =
      m.reads.same ∙ ap (λ (z : Sizes). record m.between { view = record m.between.view { walk = w.view.walk; readings = m.between.view.readings ++ (found (gen_word z g.bucket) now ∷ []) } }) sizes in
      let readings : w.view.readings ≡ v.view.readings ++ ((added v.view u.view ++ m.tests.more) ++ (found (gen_word (sizes_of v) g.bucket) now ∷ [])) =
      ap (λ (x : PassSight). x.view.readings) same
      ∙ ap (λ (rs : List Reading). rs ++ (found (gen_word (sizes_of v) g.bucket) now ∷ [])) (after_readings place v u m.between link.reads m.tests)
      ∙ append_assoc v.view.readings (added v.view u.view ++ m.tests.more) (found (gen_word (sizes_of v) g.bucket) now ∷ []) in
      let all : added v.view w.view ≡ (added v.view u.view ++ m.tests.more) ++ (found (gen_word (sizes_of v) g.bucket) now ∷ []) = added_is v.view w.view _ readings in
      let front : w.view.seen.front ≡ m.between.view.seen.front = ap (λ (x : PassSight). x.view.seen.front) same in
      let other : g.generation ≢ now = eqb-false g.generation now (m.reads.other link.even (m.lost its_place met_there)) in
      let sole : IsSole v.view → now ≡ g.generation =
      λ e. m.reads.sole (ap (λ (z : Sizes). z.passes) sizes ∙ e)
      ∙ ap (λ (z : Sizes). read_from 0 (gen_word z g.bucket) m.between.view.readings) sizes
      ∙ ap (read_from 0 (gen_word (sizes_of v) g.bucket)) (after_readings place v u m.between link.reads m.tests)
      ∙ read_on 0 (gen_word (sizes_of v) g.bucket) v.view.readings (added v.view u.view ++ m.tests.more)
      ∙ read_of_word (read_from 0 (gen_word (sizes_of v) g.bucket) v.view.readings) (gen_word (sizes_of v) g.bucket) (added v.view u.view ++ m.tests.more)
      ∙ ap (read_from (read_from 0 (gen_word (sizes_of v) g.bucket) v.view.readings) (gen_word (sizes_of v) g.bucket)) before
      ∙ (λ i. if eq-eqb (gen_word (sizes_of v) g.bucket) (gen_word (sizes_of v) g.bucket) refl i then g.generation else read_from 0 (gen_word (sizes_of v) g.bucket) v.view.readings) in
      let here : word ≡ gen_word (sizes_of v) g.bucket = m.reads.word_is ∙ ap (λ (z : Sizes). gen_word z g.bucket) sizes in
      record {
        same = same
            ∙ ap (λ (x : PassSight). record x { view = record x.view { walk = w.view.walk; readings = m.between.view.readings ++ (found (gen_word (sizes_of v) g.bucket) now ∷ []) } })
            (after_same place v u m.between link.reads m.tests)
            ∙ (λ i. record v {
              view = record v.view {
                seen = record v.view.seen { front = sym front i };
                places = record v.view.places {
                  held = (m.held ∙ ap (λ (x : PassSight). x.view.places.held) link.reads.same) i;
                  owed = (m.owed_is ∙ ap (λ (x : PassSight). owed_more o x.view.places.owed) link.reads.same) i;
                };
                walk = w.view.walk;
                readings = sym (ap (λ (x : PassSight). x.view.readings) same) i;
              };
            });
        seen = ⊎_elim (λ (e : m.between.view.seen.front ≡ v.view.seen.front). inl (front ∙ e))
            (λ (a : AreAll v.view m.between.view.seen.front). inr (subst (AreAll v.view) (sym front) a)) (seen_after place v u m.between link.reads m.tests link.front);
        stand = stands_now v.view w.view _ readings;
        tested = place;
        own = ap (changes_only (is_refs_of place (sizes_of v))) all
            ∙ all_append (λ (r : Reading). not r.own || is_refs_of place (sizes_of v) r) (added v.view u.view ++ m.tests.more) (found (gen_word (sizes_of v) g.bucket) now ∷ [])
            (after_own place v u m.between link.reads m.tests) refl;
        which = m.which;
        owes = owes_before o m.owes;
        last = subst (λ (rs : List Reading). IsLastGiven o (sizes_of v) rs) (sym all)
            (last_before o (sizes_of v) (added v.view u.view ++ m.tests.more) (found (gen_word (sizes_of v) g.bucket) now ∷ [])
            (last_behind o (sizes_of v) (added v.view u.view) m.tests.more (subst (λ (z : Sizes). IsLastGiven o z m.tests.more) same_sizes m.last)));
        cause = inl (record {
          word_is = here ∙ ap (gen_word (sizes_of v)) bucket;
          mine = mine;
          cause = inr (subst (λ (k : ℕ). Gave k was now (added v.view w.view)) (sym here)
              (subst (λ (k : ℕ). Gave (gen_word (sizes_of v) g.bucket) k now (added v.view w.view)) (sym m.reads.was_is)
              (gave_two (gen_word (sizes_of v) g.bucket) g.generation now (added v.view w.view)
              (ap (of_word (gen_word (sizes_of v) g.bucket)) all
              ∙ of_word_append (gen_word (sizes_of v) g.bucket) (added v.view u.view ++ m.tests.more) (found (gen_word (sizes_of v) g.bucket) now ∷ [])
              ∙ (λ i. before i ++ (if eq-eqb (gen_word (sizes_of v) g.bucket) (gen_word (sizes_of v) g.bucket) refl i then found (gen_word (sizes_of v) g.bucket) now ∷ [] else [])))
              other)));
        });
        many = many_of (sizes_of v).passes g.generation now some other sole;
      }

  hold_says : (word was now : ℕ) (o : Option ℕ) (w : PassSight) → HoldMoved place word was now o u w → HasMoved t word was now o v w
  hold_says word was now o w m =
      subst (λ (k : Option ℕ). HasMoved t word was now k v w) (sym m.none) (record {
        same = after_same place v u w link.reads m.tests ∙ (λ i. record v {
          view = record v.view {
            seen = record v.view.seen { front = w.view.seen.front };
            places = record v.view.places {
              held = (m.held ∙ ap (λ (x : PassSight). x.view.places.held) link.reads.same) i;
              owed = (m.owed_is ∙ ap (λ (x : PassSight). x.view.places.owed) link.reads.same) i;
            };
            walk = w.view.walk;
            readings = w.view.readings;
          };
        });
        seen = seen_after place v u w link.reads m.tests link.front;
        stand = stands_now v.view w.view (added v.view u.view ++ m.tests.more) (after_readings place v u w link.reads m.tests);
        tested = place;
        own = ap (changes_only (is_refs_of place (sizes_of v))) (after_added place v u w link.reads m.tests) ∙ after_own place v u w link.reads m.tests;
        which = tt;
        owes = tt;
        last = tt;
        cause = inr (record {
          place = place;
          below = low_place;
          word_is = m.word_is ∙ ap (λ (z : Sizes). refs_word z place) same_sizes;
          gave = record {
            differ = m.gave.differ;
            turns = ap (λ (rs : List Reading). turns_over was now (of_word word rs)) (after_added place v u w link.reads m.tests)
                ∙ ap (turns_over was now) (of_word_append word (added v.view u.view) m.tests.more)
                ∙ turns_later was now (of_word word (added v.view u.view)) (of_word word m.tests.more)
                (sym (ap (λ (rs : List Reading). turns_over was now (of_word word rs)) (added_is u.view w.view m.tests.more (ap (λ (x : PassSight). x.view.readings) m.tests.same))) ∙ m.gave.turns);
          };
        });
        many = ⊎_elim (λ (e : (sizes_of v).passes ≡ 1). absurd (m.many (ap (λ (z : Sizes). z.passes) same_sizes ∙ e)))
            (λ (e : (sizes_of v).passes ≢ 1). omega (arith, e, some)) (cases_eq (sizes_of v).passes 1);
      })

  pub meets_says : (r : FindOnce) (w : PassSight) → MeetSays r g place met u w → FindOnceSays r t v w
  meets_says (Found p id d at) w (same, owed, h) = subst (λ (k : ℕ). FindsEntry t k id d at v w) (sym same) (found_says id at d w owed h)
  meets_says (Absent at) w m = absurd m
  meets_says (Moved word was now o) w m =
      ⊎_elim (λ (k : TestMoved g (link_of met place) place (movement word was now o) u.view.places.held u w). moved_says word was now o w k)
      (λ (k : HoldMoved place word was now o u w). hold_says word was now o w k) m

-- the walk moved
pub walk_moved : (t : Tuple) (word was now : ℕ) (v w : PassSight) → IsMoved t word was now v w → HasMoved t word was now None v w
walk_moved t word was now v w m = record {
  same = m.reads.same;
  seen = m.seen;
  stand = m.reads.stand;
  tested = 0;
  own = only_none (is_refs_of 0 (sizes_of v)) (added v.view w.view) m.reads.own;
  which = tt;
  owes = tt;
  last = tt;
  cause = inl (record { word_is = m.word_is; mine = m.mine; cause = m.cause });
  many = m.many;
}
