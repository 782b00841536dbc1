-- What came of following a chain, from its loads.
use Rattle.std.proofs.Common.{◌≡◌, ◌≢◌, ℕ, zero, suc, ◌+◌, ◌%◌, ◌<◌, ◌≤◌, Bool, true, false, Option, Some, None, List, [], ◌∷◌, ◌++◌, length, drop, refl, sym, ap, subst, ◌∙◌, ⊎_elim, inl, inr, arith, append_assoc, append-nil}
use Rattle.std.specs.Prelude.{◌==◌, ◌&&◌, ◌||◌, not, if◌then◌else◌, nat_le}
use Rattle.std.specs.List.{list_all, list_any}
use Rattle.std.proofs.Math.Seq.{drop-append_seam}
use Rattle.std.proofs.lemmas.Bool.{and_parts, and_right, cases_Bool, cases_eq, eq-eqb, false≢true, leb-true, ne_eqb, or_from, or_parts}
use Rattle.history_book.specs.Point.{StartsWith}
use Rattle.history_book.specs.declared.event.Event.{Event}
use Rattle.history_book.specs.declared.sizes.Sizes.{Sizes}
use Rattle.tuple_core.specs.Words.{address_word, flow_word}
use Rattle.tuple_core.specs.declared.Tuple.{Tuple}
use Rattle.track_rule.specs.BucketSteps.{IsChainOf, IsNoteOf, LoadsGen, LoadsLink, WasChain}
use Rattle.track_rule.specs.Chains.{shuts_of}
use Rattle.track_rule.specs.History.{events_in}
use Rattle.track_rule.specs.Layout.{gen_word, head_word, place_of}
use Rattle.track_rule.specs.Links.{last_link}
use Rattle.track_rule.specs.Notes.{fresh_walk, is_after, is_other, link_note, met_then, note_then}
use Rattle.track_rule.specs.Readings.{Gave, IsSole, added, changes, found, is_found, noted, of_word, read_from, turns_over}
use Rattle.track_rule.specs.Sights.{PassSight, sizes_of}
use Rattle.track_rule.specs.Steps.{AreAll, Looks, at_point, found_history}
use Rattle.track_rule.specs.Walks.{HasLive, IsRead, Matches, rev_onto}
use Rattle.track_rule.specs.declared.view.ChainLink.{ChainLink}
use Rattle.track_rule.specs.declared.view.MetLink.{MetLink}
use Rattle.track_rule.specs.declared.view.Reading.{Reading}
use Rattle.track_rule.specs.declared.view.View.{View}
use Rattle.track_rule.specs.declared.view.Walk.{Walk}
use Rattle.bucket_table.specs.Following.{EndSays, FollowSays, IsBegun, IsEnd, IsLink, IsMoved, IsStart, LooksAgain, OnlyReads, SearchEnded, SearchFound, SearchLong, SearchSays, StandsNoMore, StandsStill, WalksOn, bucket_in, direction_of, has_words, is_another, is_of_walk, met_with, note_at, walk_on, walk_seen, walk_through, walk_to}
use Rattle.bucket_table.specs.declared.lookup.Followed.{Followed}
use Rattle.bucket_table.specs.declared.lookup.Followed.TheVariants.{Link, End, Moved}
use Rattle.bucket_table.specs.declared.lookup.Goal.{Goal}
use Rattle.bucket_table.proofs.Looking.{one_walk, walks_on}
use Rattle.bucket_table.proofs.Reading.{changes_append}

-- THE BEGINNING

-- after the load of the head the walk begins with its link
pub begins : (z : Sizes) (g : Goal) (m : Walk) (n : ℕ) → IsNoteOf g.bucket g.generation m → link_note z (head_word z g.bucket) n (Some m) ≡ Some (note_at g n [])
begins z g m n k =
    let here : (head_word z m.bucket == head_word z g.bucket) ≡ true = eq-eqb (head_word z m.bucket) (head_word z g.bucket) (ap (head_word z) k.bucket_is) in
    let after : Bool → Walk = λ a. (if a then met_then n (fresh_walk m.bucket m.generation) else
    (if not m.ended && is_after z (head_word z g.bucket) m.met then met_then n m else m)) in
    (λ i. Some (after (here i))) ∙ (λ i. Some (met_then n (fresh_walk (k.bucket_is i) (k.generation_is i))))

pub start_is : (g : Goal) (n : ℕ) (v u w : PassSight) → LoadsGen g.bucket v.view g.generation u.view → u ≡ record v { view = u.view }
    → LoadsLink (head_word (sizes_of v) g.bucket) u.view n w.view → IsStart g n w.view
start_is g n v u w gen kept link =
    let sizes : u.view.passes.sizes ≡ v.view.passes.sizes = ap (λ (x : View). x.passes.sizes) gen.view in
    ap (λ (x : View). x.walk) link.view
    ∙ (λ i. link_note (sizes i) (head_word (sizes_of v) g.bucket) n (ap (λ (x : View). x.walk) gen.view i))
    ∙ begins (sizes_of v) g (note_then g.bucket g.generation v.view.walk) n gen.walk

pub head_walk : (b n : ℕ) (v w : PassSight) → LoadsLink (head_word (sizes_of v) b) v.view n w.view → w ≡ record v { view = w.view } → WalksOn v w
head_walk b n v w loads kept = one_walk v w (head_word (sizes_of v) b) n (link_note (sizes_of v) (head_word (sizes_of v) b) n v.view.walk) kept loads.view (omega arith)

pub begun_is : (g : Goal) (v u w : PassSight) → LoadsGen g.bucket v.view g.generation u.view → u ≡ record v { view = u.view } → WalksOn u w → IsBegun g v w
begun_is g v u w gen kept walks =
    let same : u ≡ record v {
      view = record v.view {
        walk = Some (note_then g.bucket g.generation v.view.walk);
        readings = v.view.readings ++ found (gen_word (sizes_of v) g.bucket) g.generation ∷ [];
      };
    } = kept ∙ ap (λ (x : View). record v { view = x }) gen.view in
    record {
      more = walks.more;
      same = walks.same
          ∙ ap (λ (x : PassSight). record x { view = record x.view { walk = w.view.walk; readings = x.view.readings ++ walks.more } }) same
          ∙ ap (λ (rs : List Reading). record v { view = record v.view { walk = w.view.walk; readings = rs } })
          (append_assoc v.view.readings (found (gen_word (sizes_of v) g.bucket) g.generation ∷ []) walks.more);
      quiet = subst (λ (z : Sizes). list_all (is_of_walk z) walks.more ≡ true) (ap sizes_of same) walks.quiet;
    }

-- from the load of the generation to the end of the search
pub begun_from : (g : Goal) (z : Sizes) (word n : ℕ) (v u h w : PassSight) → z ≡ sizes_of v → word ≡ head_word z g.bucket → LoadsGen g.bucket v.view g.generation u.view
    → u ≡ record v { view = u.view } → LoadsLink word u.view n h.view → h ≡ record u { view = h.view } → WalksOn h w → IsBegun g v w
begun_from g z word n v u h w sizes there gen kept link kept' walks =
    let same : sizes_of u ≡ sizes_of v = ap sizes_of kept ∙ ap (λ (x : View). x.passes.sizes) gen.view in
    let here : word ≡ head_word (sizes_of u) g.bucket = there ∙ ap (λ (y : Sizes). head_word y g.bucket) (sizes ∙ sym same) in
    begun_is g v u w gen kept (walks_on u h w (head_walk g.bucket n u h (subst (λ (k : ℕ). LoadsLink k u.view n h.view) here link) kept') walks)

-- READINGS

pub added_is : (v w : View) (xs : List Reading) → w.readings ≡ v.readings ++ xs → added v w ≡ xs
added_is v w xs e = ap (drop (length v.readings)) e ∙ drop-append_seam v.readings xs

pub stands_now : (v w : View) (xs : List Reading) → w.readings ≡ v.readings ++ xs → w.readings ≡ v.readings ++ added v w
stands_now v w xs e = e ∙ ap (λ (rs : List Reading). v.readings ++ rs) (sym (added_is v w xs e))

not_own : (z : Sizes) (r : Reading) → is_of_walk z r ≡ true → r.own ≡ false
not_own z r e = was_false r.own (and_parts (nat_le (3 + z.buckets) r.word) (not r.own) e).1
  where
    was_false : (b : Bool) → not b ≡ true → b ≡ false
    was_false true e = absurd (false≢true e)
    was_false false e = refl

no_changes : (z : Sizes) (xs : List Reading) → list_all (is_of_walk z) xs ≡ true → changes (λ word. true) xs ≡ false
no_changes z [] e = refl
no_changes z (r ∷ rs) e =
    let t = and_parts (is_of_walk z r) (list_all (is_of_walk z) rs) e in
    ap (λ (b : Bool). (b && true) || changes (λ word. true) rs) (not_own z r t.0) ∙ no_changes z rs t.1

none_of : (z : Sizes) (word : ℕ) (xs ys : List Reading) → word < 3 + z.buckets → list_all (is_of_walk z) xs ≡ true → of_word word (xs ++ ys) ≡ of_word word ys
none_of z word [] ys low e = refl
none_of z word (r ∷ rs) ys low e =
    let t = and_parts (is_of_walk z r) (list_all (is_of_walk z) rs) e in
    let high : 3 + z.buckets ≤ r.word = leb-true (3 + z.buckets) r.word (and_parts (nat_le (3 + z.buckets) r.word) (not r.own) t.0).0 in
    ap (λ (b : Bool). if b then r ∷ of_word word (rs ++ ys) else of_word word (rs ++ ys)) (ne_eqb r.word word (λ same. omega (arith, same, low, high)))
    ∙ none_of z word rs ys low t.1

-- two readings of the word, with others between them
two_of : (z : Sizes) (word was now : ℕ) (xs : List Reading) (history : Reading) → 2 < word → word < 3 + z.buckets → list_all (is_of_walk z) xs ≡ true
    → history.word ≡ 0 → of_word word (found word was ∷ xs ++ history ∷ found word now ∷ []) ≡ found word was ∷ found word now ∷ []
two_of z word was now xs history high low quiet first =
    ap (λ (b : Bool). if b then found word was ∷ of_word word (xs ++ history ∷ found word now ∷ []) else of_word word (xs ++ history ∷ found word now ∷ [])) (eq-eqb word word refl)
    ∙ ap (λ (rs : List Reading). found word was ∷ rs)
    (none_of z word xs (history ∷ found word now ∷ []) low quiet
    ∙ ap (λ (b : Bool). if b then history ∷ of_word word (found word now ∷ []) else of_word word (found word now ∷ [])) (ne_eqb history.word word (λ same. omega (arith, same, first, high)))
    ∙ ap (λ (b : Bool). if b then found word now ∷ [] else []) (eq-eqb word word refl))

just_two : (z : Sizes) (word was now : ℕ) (xs : List Reading) → word < 3 + z.buckets → list_all (is_of_walk z) xs ≡ true
    → of_word word (found word was ∷ xs ++ found word now ∷ []) ≡ found word was ∷ found word now ∷ []
just_two z word was now xs low quiet =
    ap (λ (b : Bool). if b then found word was ∷ of_word word (xs ++ found word now ∷ []) else of_word word (xs ++ found word now ∷ [])) (eq-eqb word word refl)
    ∙ ap (λ (rs : List Reading). found word was ∷ rs)
    (none_of z word xs (found word now ∷ []) low quiet
    ∙ ap (λ (b : Bool). if b then found word now ∷ [] else []) (eq-eqb word word refl))

just_one : (z : Sizes) (word n : ℕ) (xs : List Reading) → word < 3 + z.buckets → list_all (is_of_walk z) xs ≡ true
    → of_word word (found word n ∷ xs) ≡ found word n ∷ []
just_one z word n xs low quiet =
    ap (λ (b : Bool). if b then found word n ∷ of_word word xs else of_word word xs) (eq-eqb word word refl)
    ∙ ap (λ (rs : List Reading). found word n ∷ rs) (ap (of_word word) (sym (append-nil xs)) ∙ none_of z word xs [] low quiet)

-- the last value of a word, over more readings
pub read_on : (a word : ℕ) (xs ys : List Reading) → read_from a word (xs ++ ys) ≡ read_from (read_from a word xs) word ys
read_on a word [] ys = refl
read_on a word (r ∷ rs) ys = read_on (if r.word == word then r.value else a) word rs ys

last_is : (word n : ℕ) (xs : List Reading) (a : ℕ) → read_from a word (xs ++ found word n ∷ []) ≡ n
last_is word n xs a =
    read_on a word xs (found word n ∷ [])
    ∙ ap (λ (b : Bool). if b then n else read_from a word xs) (eq-eqb word word refl)

-- a walk does not read it
read_past : (z : Sizes) (a word : ℕ) (xs ys : List Reading) → word < 3 + z.buckets → list_all (is_of_walk z) xs ≡ true
    → read_from a word (xs ++ ys) ≡ read_from a word ys
read_past z a word [] ys low e = refl
read_past z a word (r ∷ rs) ys low e =
    let t = and_parts (is_of_walk z r) (list_all (is_of_walk z) rs) e in
    let high : 3 + z.buckets ≤ r.word = leb-true (3 + z.buckets) r.word (and_parts (nat_le (3 + z.buckets) r.word) (not r.own) t.0).0 in
    ap (λ (b : Bool). read_from (if b then r.value else a) word (rs ++ ys)) (ne_eqb r.word word (λ same. omega (arith, same, low, high)))
    ∙ read_past z a word rs ys low t.1

read_found : (z : Sizes) (word was : ℕ) (old xs ys : List Reading) → word < 3 + z.buckets → list_all (is_of_walk z) xs ≡ true
    → read_from 0 word (old ++ (found word was ∷ xs ++ ys)) ≡ read_from was word ys
read_found z word was old xs ys low quiet =
    read_on 0 word old (found word was ∷ xs ++ ys)
    ∙ ap (λ (b : Bool). read_from (if b then was else read_from 0 word old) word (xs ++ ys)) (eq-eqb word word refl)
    ∙ read_past z was word xs ys low quiet

-- in a table of one pass two loads with no own change between them find the same
pub many_of : (n was now : ℕ) → 1 ≤ n → was ≢ now → (n ≡ 1 → now ≡ was) → 1 < n
many_of n was now some other sole =
    ⊎_elim (λ (e : n ≡ 1). absurd (other (sym (sole e)))) (λ (e : n ≢ 1). omega (arith, e, some)) (cases_eq n 1)

pub gave_two : (word was now : ℕ) (readings : List Reading) → of_word word readings ≡ found word was ∷ found word now ∷ [] → was ≢ now → Gave word was now readings
gave_two word was now readings e other = record {
  differ = ne_eqb was now other;
  turns = ap (turns_over was now) e
      ∙ (λ i. (eq-eqb was was refl i && eq-eqb now now refl i && true) || false);
}

-- the first reading of the generation is there
first_found : (word n : ℕ) (xs : List Reading) → is_found word n (found word n ∷ xs) ≡ true
first_found word n xs = (λ i. (eq-eqb word word refl i && eq-eqb n n refl i && true) || is_found word n xs)

-- WHAT CAME OF IT

pub word_low : (z : Sizes) (b : ℕ) → b < z.buckets → gen_word z b < 3 + z.buckets
word_low z b below = omega (arith, below)

begun_readings : (g : Goal) (v w : PassSight) → (b : IsBegun g v w) → w.view.readings ≡ v.view.readings ++ found (gen_word (sizes_of v) g.bucket) g.generation ∷ b.more
begun_readings g v w b = ap (λ (x : PassSight). x.view.readings) b.same

begun_reads : (g : Goal) (v w : PassSight) → IsBegun g v w → OnlyReads v w
begun_reads g v w b =
    let front : w.view.seen.front ≡ v.view.seen.front = ap (λ (x : PassSight). x.view.seen.front) b.same in
    record {
      same = b.same ∙ (λ i. record v {
        view = record v.view {
          seen = record v.view.seen { front = sym front i };
          walk = w.view.walk;
          readings = sym (begun_readings g v w b) i;
        };
      });
      front = ([], front ∙ sym (append-nil v.view.seen.front));
      stand = stands_now v.view w.view (found (gen_word (sizes_of v) g.bucket) g.generation ∷ b.more) (begun_readings g v w b);
      own = ap (changes (λ word. true)) (added_is v.view w.view (found (gen_word (sizes_of v) g.bucket) g.generation ∷ b.more) (begun_readings g v w b))
          ∙ no_changes (sizes_of v) b.more b.quiet;
    }

pub link_is : (t : Tuple) (g : Goal) (link : ℕ) (v w : PassSight) → g.bucket ≡ bucket_in (sizes_of v) t → g.bucket < (sizes_of v).buckets → g.first ≡ address_word t → g.second ≡ flow_word t
    → g.generation % 2 ≡ 0 → IsBegun g v w → SearchFound g link (sizes_of v) w.view → IsLink t (place_of link) (direction_of link) g.generation v w
link_is t g link v w bucket below first second even b f = record {
  reads = begun_reads g v w b;
  even = even;
  read = ap (is_found (gen_word (sizes_of v) (bucket_in (sizes_of v) t)) g.generation)
      (added_is v.view w.view (found (gen_word (sizes_of v) g.bucket) g.generation ∷ b.more) (begun_readings g v w b)
      ∙ ap (λ (k : ℕ). found (gen_word (sizes_of v) k) g.generation ∷ b.more) bucket)
      ∙ first_found (gen_word (sizes_of v) (bucket_in (sizes_of v) t)) g.generation b.more;
  loads = ap (of_word (gen_word (sizes_of v) (bucket_in (sizes_of v) t)))
      (added_is v.view w.view (found (gen_word (sizes_of v) g.bucket) g.generation ∷ b.more) (begun_readings g v w b)
      ∙ ap (λ (k : ℕ). found (gen_word (sizes_of v) k) g.generation ∷ b.more) bucket)
      ∙ just_one (sizes_of v) (gen_word (sizes_of v) (bucket_in (sizes_of v) t)) g.generation b.more
      (word_low (sizes_of v) (bucket_in (sizes_of v) t) (subst (λ (k : ℕ). k < (sizes_of v).buckets) bucket below)) b.quiet;
  front = ap (λ (x : PassSight). x.view.seen.front) b.same;
  link = link;
  some = f.some;
  below = f.below;
  place_is = refl;
  direction_is = refl;
  before = f.before;
  others = (λ i. list_all (is_another (sym first i) (sym second i)) f.before) ∙ f.others;
  walk = f.walk ∙ (λ i. Some (walk_to (bucket i) g.generation (met_with link (first i) (second i) ∷ f.before)));
}

-- after the second look
again_readings : (g : Goal) (now : ℕ) (v u w : PassSight) (b : IsBegun g v u) (a : LooksAgain g now u w)
    → w.view.readings ≡ v.view.readings ++ (found (gen_word (sizes_of v) g.bucket) g.generation ∷ b.more ++ a.history ∷ found (gen_word (sizes_of v) g.bucket) now ∷ [])
again_readings g now v u w b a =
    ap (λ (x : PassSight). x.view.readings) a.same
    ∙ (λ i. begun_readings g v u b i ++ a.history ∷ found (gen_word (ap sizes_of b.same i) g.bucket) now ∷ [])
    ∙ append_assoc v.view.readings (found (gen_word (sizes_of v) g.bucket) g.generation ∷ b.more) (a.history ∷ found (gen_word (sizes_of v) g.bucket) now ∷ [])

again_added : (g : Goal) (now : ℕ) (v u w : PassSight) (b : IsBegun g v u) (a : LooksAgain g now u w)
    → added v.view w.view ≡ found (gen_word (sizes_of v) g.bucket) g.generation ∷ b.more ++ a.history ∷ found (gen_word (sizes_of v) g.bucket) now ∷ []
again_added g now v u w b a = added_is v.view w.view _ (again_readings g now v u w b a)

again_reads : (g : Goal) (now : ℕ) (v u w : PassSight) → IsBegun g v u → LooksAgain g now u w → OnlyReads v w
again_reads g now v u w b a =
    let word : ℕ = gen_word (sizes_of v) g.bucket in
    let readings : w.view.readings ≡ u.view.readings ++ a.history ∷ found (gen_word (sizes_of u) g.bucket) now ∷ [] = ap (λ (x : PassSight). x.view.readings) a.same in
    let front : u.view.seen.front ≡ v.view.seen.front = ap (λ (x : PassSight). x.view.seen.front) b.same in
    record {
      same = a.same
          ∙ (λ i. record u { view = record u.view { seen = record u.view.seen { front = w.view.seen.front }; walk = w.view.walk; readings = sym readings i } })
          ∙ ap (λ (x : PassSight). record x { view = record x.view { seen = record x.view.seen { front = w.view.seen.front }; walk = w.view.walk; readings = w.view.readings } }) b.same;
      front = subst (StartsWith w.view.seen.front) front a.front;
      stand = stands_now v.view w.view _ (again_readings g now v u w b a);
      own = ap (changes (λ k. true)) (again_added g now v u w b a)
          ∙ changes_append (λ k. true) b.more (a.history ∷ found (gen_word (sizes_of v) g.bucket) now ∷ []) (no_changes (sizes_of v) b.more b.quiet)
          (ap (λ (t : Bool). (t && true) || false) a.history_is.1);
    }

-- no entry that was passed has the tuple
none_passed : (first second : ℕ) (met : List MetLink) (passed : List ChainLink) → Matches met passed → list_all (is_another first second) met ≡ true
    → list_any (has_words first second) passed ≡ false
none_passed first second [] [] m e = refl
none_passed first second [] (p ∷ ps) m e = absurd m
none_passed first second (x ∷ xs) [] m e = absurd m
none_passed first second (x ∷ xs) (p ∷ ps) m e =
    let t = and_parts (is_another first second x) (list_all (is_another first second) xs) e in
    or_from (has_words first second p) (list_any (has_words first second) ps) (not_this x p m.1 m.2 t.0) (none_passed first second xs ps m.3 t.1)
  where
    other_word : (o : Option ℕ) (k n : ℕ) → IsRead o k → is_other o n ≡ true → (k == n) ≡ false
    other_word None k n r e = absurd (false≢true e)
    other_word (Some j) k n r e = ne_eqb k n (λ same. false≢true (sym (ap not (eq-eqb j n (r ∙ same))) ∙ e))

    not_this : (x : MetLink) (p : ChainLink) → IsRead x.first p.pair.first → IsRead x.second p.pair.second → is_another first second x ≡ true → has_words first second p ≡ false
    not_this x p r s e =
        ⊎_elim
        (λ (f : is_other x.first first ≡ true). ap (λ (b : Bool). b && p.pair.second == second) (other_word x.first p.pair.first first r f))
        (λ (f : is_other x.first first ≡ false).
        let g : is_other x.second second ≡ true = sym (ap (λ (b : Bool). b || is_other x.second second) f) ∙ e in
        and_right (p.pair.first == first) (p.pair.second == second) (other_word x.second p.pair.second second s g))
        (cases_Bool (is_other x.first first))

none_all : (first second : ℕ) (passed rest : List ChainLink) → list_any (has_words first second) passed ≡ false → list_any (has_words first second) rest ≡ false
    → list_any (has_words first second) (rev_onto passed rest) ≡ false
none_all first second [] rest e f = f
none_all first second (p ∷ ps) rest e f =
    let t = or_parts (has_words first second p) (list_any (has_words first second) ps) e in
    none_all first second ps (p ∷ rest) t.1 (or_from (has_words first second p) (list_any (has_words first second) rest) t.0 f)

-- what a pass knows of all events does not rest on its note or its readings
all_before : (v : PassSight) (walk : Option Walk) (rs : List Reading) (log : List Event) → AreAll (record v.view { walk = walk; readings = rs }) log → AreAll v.view log
all_before v walk rs log a = record {
  front = a.front;
  told = a.told;
  legal = a.legal;
  few = a.few;
  passes = a.passes;
  shares = a.shares;
  alone = a.alone;
}

pub end_is : (t : Tuple) (g : Goal) (at : ℕ) (v u w : PassSight) → g.bucket ≡ bucket_in (sizes_of v) t → g.first ≡ address_word t → g.second ≡ flow_word t
    → g.generation % 2 ≡ 0 → IsBegun g v u → SearchEnded g u.view → StandsStill g at u w → IsEnd t at v w
end_is t g at v u w bucket first second even b f s =
    let sizes : sizes_of u ≡ sizes_of v = ap sizes_of b.same in
    let was = s.was (walk_through g.bucket g.generation f.before) f.walk (record { bucket_is = refl; generation_is = refl }) even in
    let stands = was.stands in
    record {
      reads = again_reads g g.generation v u w b s.looks;
      point = s.point;
      all = all_before v u.view.walk (v.view.readings ++ found (gen_word (sizes_of v) g.bucket) g.generation ∷ b.more) w.view.seen.front
          (subst (λ (x : PassSight). AreAll x.view w.view.seen.front) b.same s.looks.all);
      generation = g.generation;
      even = even;
      between = record {
        middle = b.more;
        history = s.looks.history;
        history_is = s.looks.history_is;
        all = again_added g g.generation v u w b s.looks
            ∙ (λ i. found (gen_word (sizes_of v) (bucket i)) g.generation ∷ b.more ++ s.looks.history ∷ found (gen_word (sizes_of v) (bucket i)) g.generation ∷ []);
      };
      events = s.looks.events ∙ sym s.point;
      before = f.before;
      others = (λ i. list_all (is_another (sym first i) (sym second i)) f.before) ∙ f.others;
      walk = s.noted (walk_through g.bucket g.generation f.before) f.walk (record { bucket_is = refl; generation_is = refl })
          ∙ (λ i. Some (walk_seen (bucket i) g.generation f.before (sym s.point i)));
      chain = was.chain;
      stands = record { passed = stands.passed; rest = stands.rest; all = stands.all; matches = stands.matches; ended = stands.ended };
      right = subst (λ (z : Sizes). IsChainOf z (bucket_in (sizes_of v) t) was.chain) sizes (subst (λ (k : ℕ). IsChainOf (sizes_of u) k was.chain) bucket was.right);
      none = ap (list_any (has_words (address_word t) (flow_word t))) (stands.all ∙ ap (rev_onto stands.passed) (stands.ended refl))
          ∙ none_all (address_word t) (flow_word t) stands.passed []
          (none_passed (address_word t) (flow_word t) f.before stands.passed stands.matches
          ((λ i. list_all (is_another (sym first i) (sym second i)) f.before) ∙ f.others)) refl;
      live = subst (λ (z : Sizes). HasLive z (bucket_in (sizes_of v) t) w.view.seen.front was.chain) sizes
          (subst (λ (k : ℕ). HasLive (sizes_of u) k w.view.seen.front was.chain) bucket (was.live (length w.view.seen.front) refl).1);
    }

pub end_moved : (t : Tuple) (g : Goal) (word was now word_of : ℕ) (v u w : PassSight) → g.bucket ≡ bucket_in (sizes_of v) t → g.bucket < (sizes_of v).buckets
    → word_of ≡ gen_word (sizes_of v) g.bucket → shuts_of (bucket_in (sizes_of v) t) v.view ≡ 0 → g.generation % 2 ≡ 0
    → 1 ≤ (sizes_of v).passes → IsBegun g v u → StandsNoMore g word was now word_of u w → IsMoved t word was now v w
end_moved t g word was now word_of v u w bucket below word_of_is mine even some b s =
    let here : word ≡ gen_word (sizes_of v) g.bucket = s.word_is ∙ word_of_is in
    let other : g.generation ≢ now = λ e. false≢true (sym s.other ∙ eq-eqb g.generation now e) in
    let low : gen_word (sizes_of v) g.bucket < 3 + (sizes_of v).buckets = word_low (sizes_of v) g.bucket below in
    let sole : IsSole v.view → now ≡ g.generation =
    λ e. s.looks.sole (ap (λ (x : PassSight). x.view.passes.sizes.passes) b.same ∙ e)
    ∙ ap (λ (rs : List Reading). read_from 0 (gen_word (sizes_of v) g.bucket) (rs ++ s.looks.history ∷ [])) (begun_readings g v u b)
    ∙ ap (read_from 0 (gen_word (sizes_of v) g.bucket)) (append_assoc v.view.readings (found (gen_word (sizes_of v) g.bucket) g.generation ∷ b.more) (s.looks.history ∷ []))
    ∙ read_found (sizes_of v) (gen_word (sizes_of v) g.bucket) g.generation v.view.readings b.more (s.looks.history ∷ []) low b.quiet
    ∙ ap (λ (k : Bool). if k then s.looks.history.value else g.generation)
    (ne_eqb s.looks.history.word (gen_word (sizes_of v) g.bucket) (λ e. omega (arith, e, s.looks.history_is.0))) in
    record {
      reads = again_reads g now v u w b s.looks;
      word_is = here ∙ ap (gen_word (sizes_of v)) bucket;
      mine = mine;
      cause = inr (subst (λ (k : ℕ). Gave k was now (added v.view w.view)) (sym here)
          (subst (λ (k : ℕ). Gave (gen_word (sizes_of v) g.bucket) k now (added v.view w.view)) (sym s.was_is)
          (gave_two (gen_word (sizes_of v) g.bucket) g.generation now (added v.view w.view)
          (ap (of_word (gen_word (sizes_of v) g.bucket)) (again_added g now v u w b s.looks)
          ∙ two_of (sizes_of v) (gen_word (sizes_of v) g.bucket) g.generation now b.more s.looks.history (omega arith) low b.quiet s.looks.history_is.0)
          other)));
      many = many_of (sizes_of v).passes g.generation now some other sole;
      front = λ odd. absurd (omega (arith, odd, even, s.was_is));
      seen = inr (all_before v u.view.walk (v.view.readings ++ found (gen_word (sizes_of v) g.bucket) g.generation ∷ b.more) w.view.seen.front
          (subst (λ (x : PassSight). AreAll x.view w.view.seen.front) b.same s.looks.all));
      last = λ a. ap (λ (k : ℕ). read_from a k (added v.view w.view)) here
          ∙ ap (read_from a (gen_word (sizes_of v) g.bucket)) (again_added g now v u w b s.looks
          ∙ sym (append_assoc (found (gen_word (sizes_of v) g.bucket) g.generation ∷ b.more) (s.looks.history ∷ []) (found (gen_word (sizes_of v) g.bucket) now ∷ [])))
          ∙ last_is (gen_word (sizes_of v) g.bucket) now (found (gen_word (sizes_of v) g.bucket) g.generation ∷ b.more ++ s.looks.history ∷ []) a;
    }

-- there are no more links than the chain has
matches_long : (met : List MetLink) (passed : List ChainLink) → Matches met passed → length met ≡ length passed
matches_long [] [] m = refl
matches_long [] (p ∷ ps) m = absurd m
matches_long (x ∷ xs) [] m = absurd m
matches_long (x ∷ xs) (p ∷ ps) m = ap suc (matches_long xs ps m.3)

length_rev : (passed rest : List ChainLink) → length (rev_onto passed rest) ≡ length passed + length rest
length_rev [] rest = omega arith
length_rev (p ∷ ps) rest = omega (arith, length_rev ps (p ∷ rest))

few_met : (z : Sizes) (front : List Event) (m : Walk) → WasChain z front m → length m.met ≤ last_link z
few_met z front m was =
    omega (
      arith,
      matches_long m.met was.stands.passed was.stands.matches,
      length_rev was.stands.passed was.stands.rest,
      ap (λ (es : List ChainLink). length es) was.stands.all,
      was.right.few,
    )

pub long_moved : (t : Tuple) (g : Goal) (word_of now : ℕ) (v u w : PassSight) → g.bucket ≡ bucket_in (sizes_of v) t → g.bucket < (sizes_of v).buckets
    → word_of ≡ gen_word (sizes_of v) g.bucket → shuts_of (bucket_in (sizes_of v) t) v.view ≡ 0 → g.generation % 2 ≡ 0
    → 1 ≤ (sizes_of v).passes → IsBegun g v u → SearchLong g (sizes_of v) u.view → LoadsGen g.bucket u.view now w.view → w ≡ record u { view = w.view } → IsMoved t word_of g.generation now v w
long_moved t g word_of now v u w bucket below word_of_is mine even some b f gen kept =
    let sizes : sizes_of u ≡ sizes_of v = ap sizes_of b.same in
    let same : w ≡ record u { view = record u.view { walk = w.view.walk; readings = u.view.readings ++ found (gen_word (sizes_of v) g.bucket) now ∷ [] } } =
    kept ∙ ap (λ (x : View). record u { view = x }) (gen.view
    ∙ (λ i. record u.view { walk = sym (ap (λ (x : View). x.walk) gen.view) i; readings = u.view.readings ++ found (gen_word (sizes i) g.bucket) now ∷ [] })) in
    let more : w ≡ record v { view = record v.view { walk = w.view.walk; readings = v.view.readings ++ (found (gen_word (sizes_of v) g.bucket) g.generation ∷ b.more ++ found (gen_word (sizes_of v) g.bucket) now ∷ []) } } =
    same
    ∙ ap (λ (x : PassSight). record x { view = record x.view { walk = w.view.walk; readings = x.view.readings ++ found (gen_word (sizes_of v) g.bucket) now ∷ [] } }) b.same
    ∙ ap (λ (rs : List Reading). record v { view = record v.view { walk = w.view.walk; readings = rs } })
    (append_assoc v.view.readings (found (gen_word (sizes_of v) g.bucket) g.generation ∷ b.more) (found (gen_word (sizes_of v) g.bucket) now ∷ [])) in
    let readings : w.view.readings ≡ v.view.readings ++ (found (gen_word (sizes_of v) g.bucket) g.generation ∷ b.more ++ found (gen_word (sizes_of v) g.bucket) now ∷ []) =
    ap (λ (x : PassSight). x.view.readings) more in
    let all : added v.view w.view ≡ found (gen_word (sizes_of v) g.bucket) g.generation ∷ b.more ++ found (gen_word (sizes_of v) g.bucket) now ∷ [] =
    added_is v.view w.view _ readings in
    let front : w.view.seen.front ≡ v.view.seen.front = ap (λ (x : PassSight). x.view.seen.front) more in
    let other : g.generation ≢ now = λ e. omega (
      arith,
      f.long,
      few_met (sizes_of u) u.view.seen.front (walk_on g f.met)
          (gen.again (walk_on g f.met) f.walk (record { bucket_is = refl; generation_is = e }) (omega (arith, e, even))).1,
      ap last_link sizes,
    ) in
    let low : gen_word (sizes_of v) g.bucket < 3 + (sizes_of v).buckets = word_low (sizes_of v) g.bucket below in
    let sole : IsSole v.view → now ≡ g.generation =
    λ e. gen.sole (ap (λ (z : Sizes). z.passes) sizes ∙ e)
    ∙ ap (read_from 0 (gen_word (sizes_of v) g.bucket)) (begun_readings g v u b)
    ∙ ap (λ (rs : List Reading). read_from 0 (gen_word (sizes_of v) g.bucket) (v.view.readings ++ found (gen_word (sizes_of v) g.bucket) g.generation ∷ rs))
    (sym (append-nil b.more))
    ∙ read_found (sizes_of v) (gen_word (sizes_of v) g.bucket) g.generation v.view.readings b.more [] low b.quiet in
    record {
      reads = record {
        same = more ∙ (λ i. record v {
          view = record v.view {
            seen = record v.view.seen { front = sym front i };
            walk = w.view.walk;
            readings = sym readings i;
          };
        });
        front = ([], front ∙ sym (append-nil v.view.seen.front));
        stand = stands_now v.view w.view _ readings;
        own = ap (changes (λ k. true)) all
            ∙ changes_append (λ k. true) b.more (found (gen_word (sizes_of v) g.bucket) now ∷ []) (no_changes (sizes_of v) b.more b.quiet) refl;
      };
      word_is = word_of_is ∙ ap (gen_word (sizes_of v)) bucket;
      mine = mine;
      cause = inr (subst (λ (k : ℕ). Gave k g.generation now (added v.view w.view)) (sym word_of_is)
          (gave_two (gen_word (sizes_of v) g.bucket) g.generation now (added v.view w.view)
          (ap (of_word (gen_word (sizes_of v) g.bucket)) all
          ∙ just_two (sizes_of v) (gen_word (sizes_of v) g.bucket) g.generation now b.more low b.quiet) other));
      many = many_of (sizes_of v).passes g.generation now some other sole;
      front = λ odd. front;
      seen = inl front;
      last = λ a. ap (λ (k : ℕ). read_from a k (added v.view w.view)) word_of_is ∙ ap (read_from a (gen_word (sizes_of v) g.bucket)) all
          ∙ last_is (gen_word (sizes_of v) g.bucket) now (found (gen_word (sizes_of v) g.bucket) g.generation ∷ b.more) a;
    }

-- the first load found an odd generation
pub odd_moved : (t : Tuple) (b word_of n : ℕ) (v w : PassSight) → b ≡ bucket_in (sizes_of v) t → word_of ≡ gen_word (sizes_of v) b
    → shuts_of (bucket_in (sizes_of v) t) v.view ≡ 0 → n % 2 ≡ 1 → LoadsGen b v.view n w.view → w ≡ record v { view = w.view } → IsMoved t word_of n n v w
odd_moved t b word_of n v w bucket word_of_is mine odd gen kept =
    let readings : w.view.readings ≡ v.view.readings ++ found (gen_word (sizes_of v) b) n ∷ [] = ap (λ (x : View). x.readings) gen.view in
    let front : w.view.seen.front ≡ v.view.seen.front = ap (λ (x : View). x.seen.front) gen.view in
    let all : added v.view w.view ≡ found (gen_word (sizes_of v) b) n ∷ [] = added_is v.view w.view (found (gen_word (sizes_of v) b) n ∷ []) readings in
    record {
      reads = record {
        same = kept ∙ ap (λ (x : View). record v { view = x }) (gen.view ∙ (λ i. record v.view {
          seen = record v.view.seen { front = sym front i };
          walk = sym (ap (λ (x : View). x.walk) gen.view) i;
          readings = sym readings i;
        }));
        front = ([], front ∙ sym (append-nil v.view.seen.front));
        stand = stands_now v.view w.view (found (gen_word (sizes_of v) b) n ∷ []) readings;
        own = ap (changes (λ k. true)) all;
      };
      word_is = word_of_is ∙ ap (gen_word (sizes_of v)) bucket;
      mine = mine;
      many = (gen.others odd (subst (λ (k : ℕ). shuts_of k v.view ≡ 0) (sym bucket) mine)).1;
      front = λ odd. front;
      seen = inl front;
      last = λ a. ap (λ (k : ℕ). read_from a k (added v.view w.view)) word_of_is ∙ ap (read_from a (gen_word (sizes_of v) b)) all
          ∙ last_is (gen_word (sizes_of v) b) n [] a;
      cause = inl (record {
        odd = odd;
        read = ap (is_found word_of n) (all ∙ ap (λ (k : ℕ). found k n ∷ []) (sym word_of_is)) ∙ first_found word_of n [];
        same = refl;
      });
    }

-- what the call answers where the end was met
pub end_says : (t : Tuple) (g : Goal) (r : Followed) (word_of : ℕ) (v u w : PassSight) → g.bucket ≡ bucket_in (sizes_of v) t → g.bucket < (sizes_of v).buckets
    → word_of ≡ gen_word (sizes_of v) g.bucket → g.first ≡ address_word t → g.second ≡ flow_word t → g.generation % 2 ≡ 0
    → shuts_of (bucket_in (sizes_of v) t) v.view ≡ 0 → 1 ≤ (sizes_of v).passes → IsBegun g v u → SearchEnded g u.view → EndSays r word_of g u w → FollowSays r t v w
end_says t g (Link place direction generation) word_of v u w bucket below word_of_is first second even mine some b f s = absurd s
end_says t g (End at) word_of v u w bucket below word_of_is first second even mine some b f s = end_is t g at v u w bucket first second even b f s
end_says t g (Moved word was now) word_of v u w bucket below word_of_is first second even mine some b f s = end_moved t g word was now word_of v u w bucket below word_of_is mine even some b s

-- a link that was found is one
pub found_some : (g : Goal) (link : ℕ) (z : Sizes) (w : PassSight) → link ≢ 0 → SearchSays (Some link) g z w.view → SearchFound g link z w.view
found_some g zero z w some s = absurd (some refl)
found_some g (suc n) z w some s = s

-- THE SECOND LOOK

-- the history word, and then the generation
module _ (g : Goal) (word now : ℕ) (v u w : PassSight) (looks : Looks v.view word u.view) (kept : u ≡ record v { view = u.view })
    (gen : LoadsGen g.bucket u.view now w.view) (kept' : w ≡ record u { view = w.view }) where
  view_is : w.view ≡ record v.view {
    seen = record v.view.seen { front = u.view.seen.front };
    walk = Some (note_then g.bucket now u.view.walk);
    readings = v.view.readings ++ (found_history word v.view ∷ found (gen_word (sizes_of v) g.bucket) now ∷ []);
  }
  view_is =
      gen.view
      ∙ ap (λ (x : View). noted (found (gen_word (sizes_of v) g.bucket) now) (record x { walk = Some (note_then g.bucket now u.view.walk) })) looks.same
      ∙ ap (λ (rs : List Reading). record v.view {
        seen = record v.view.seen { front = u.view.seen.front };
        walk = Some (note_then g.bucket now u.view.walk);
        readings = rs;
      }) (append_assoc v.view.readings (found_history word v.view ∷ []) (found (gen_word (sizes_of v) g.bucket) now ∷ []))

  front_is : w.view.seen.front ≡ u.view.seen.front
  front_is = ap (λ (x : View). x.seen.front) view_is

  sizes_are : u.view.passes.sizes ≡ sizes_of v
  sizes_are = ap (λ (x : View). x.passes.sizes) looks.same

  events_are : events_in word ≡ length w.view.seen.front
  events_are = looks.events ∙ ap (λ (log : List Event). length log) (sym front_is)

  pub looks_again : LooksAgain g now v w
  looks_again = record {
    history = found_history word v.view;
    history_is = (refl, refl);
    same = kept' ∙ ap (λ (x : PassSight). record x { view = w.view }) kept
        ∙ ap (λ (x : View). record v { view = x }) (view_is ∙ (λ i. record v.view {
          seen = record v.view.seen { front = sym front_is i };
          walk = sym (ap (λ (x : View). x.walk) view_is) i;
          readings = v.view.readings ++ (found_history word v.view ∷ found (gen_word (sizes_of v) g.bucket) now ∷ []);
        }));
    front = subst (λ (log : List Event). StartsWith log v.view.seen.front) (sym front_is) looks.all.front;
    all = subst (AreAll v.view) (sym front_is) looks.all;
    events = events_are;
    sole = λ e. gen.sole (ap (λ (z : Sizes). z.passes) sizes_are ∙ e)
        ∙ ap (λ (x : View). read_from 0 (gen_word (sizes_of v) g.bucket) x.readings) looks.same;
  }

  pub stands_still : (at : ℕ) → at ≡ events_in word → now ≡ g.generation → StandsStill g at v w
  stands_still at point same = record {
    looks = subst (λ (n : ℕ). LooksAgain g n v w) same looks_again;
    point = point ∙ events_are;
    noted = λ m e k. ap (λ (x : View). x.walk) view_is
        ∙ ap (λ (o : Option Walk). Some (note_then g.bucket now o)) (before m e)
        ∙ (λ i. Some (if eq-eqb m.bucket g.bucket k.bucket_is i && eq-eqb m.generation now (k.generation_is ∙ sym same) i then marked m else fresh_walk g.bucket now))
        ∙ ap (λ (n : ℕ). Some (record m { at = Some n })) (ap (λ (log : List Event). length log) (sym front_is));
    was = λ m e k even.
        let was = (gen.again (marked m) (before m e) (record { bucket_is = k.bucket_is; generation_is = k.generation_is ∙ sym same })
        (ap (λ (n : ℕ). n % 2) same ∙ even)).1 in
        subst (λ (log : List Event). WasChain (sizes_of v) log (record m { at = Some (length log) })) (sym front_is)
        (subst (λ (z : Sizes). WasChain z u.view.seen.front (marked m)) sizes_are was);
  }
    where
      marked : Walk → Walk
      marked m = record m { at = Some (length u.view.seen.front) }

      before : (m : Walk) → v.view.walk ≡ Some m → u.view.walk ≡ Some (record m { at = Some (length u.view.seen.front) })
      before m e = ap (λ (x : View). x.walk) looks.same ∙ ap (at_point (length u.view.seen.front)) e
