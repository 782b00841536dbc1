-- Any two records of a list are apart, by recursion on the list.
use Rattle.std.proofs.Common.{◌≡◌, ℕ, ◌<◌, zero, suc, Bool, true, false, cond, List, [], ◌∷◌, ◌++◌, arith}
use Rattle.std.specs.List.{AllByRecursion, AllPairs, filter}
use Rattle.std.specs.Prelude.{map}
use Rattle.std.proofs.lemmas.Bool.{eqb-false, or_parts}
use Rattle.std.proofs.lemmas.List.Elements.{All-from_recursion, recursion_from_All}
use Rattle.std.proofs.lemmas.List.Kept.{AllPairs-cons}
use Rattle.proto_rules.specs.declared.Part.{Part}
use Rattle.history_book.specs.declared.record.Record.{Record}
use Rattle.history_book.specs.Laws.{AreApart}
use Rattle.history_book.specs.Record.{has_original, has_place, has_reply, has_tuple}
use Rattle.history_book.specs.State.{with_part}
use Rattle.history_book.proofs.Entries.{apart_same, each_filter, with_part-same}
use Rattle.history_book.proofs.Tuples.{same_tuple-false}

abbrev pub Pairs : List Record → Type 0
Pairs [] = Unit {0}
Pairs (r ∷ rs) = AllByRecursion (AreApart r) rs × Pairs rs

pub AllPairs-from_pairs : (rs : List Record) → Pairs rs → AllPairs AreApart rs
AllPairs-from_pairs [] h = λ i j d below short. absurd (omega arith)
AllPairs-from_pairs (r ∷ rs) (h, hs) =
    AllPairs-cons AreApart r rs (All-from_recursion (AreApart r) rs h) (AllPairs-from_pairs rs hs)

pub pairs_of : (rs : List Record) → AllPairs AreApart rs → Pairs rs
pairs_of [] h = tt
pairs_of (r ∷ rs) h = (
  recursion_from_All (AreApart r) rs (λ k d within. h zero (suc k) d (omega arith) (omega arith)),
  pairs_of rs (λ i j d below within. h (suc i) (suc j) d (omega arith) (omega arith)),
)

-- the record is apart from one that is tested against it
pub record IsNewBeside (s r : Record) : Type 0 where
  pub older : r.id < s.id
  pub place : has_place s.place r ≡ false
  pub original : has_tuple s.original r ≡ false
  pub reply : has_tuple s.reply r ≡ false

pub apart_new : (s r : Record) → IsNewBeside s r → AreApart r s
apart_new s r h = record {
  ids = λ e. omega (arith, e, h.older);
  places = eqb-false r.place s.place h.place;
  originals = same_tuple-false r.original s.original (or_parts (has_original s.original r) (has_reply s.original r) h.original).0;
  original_reply = same_tuple-false r.original s.reply (or_parts (has_original s.reply r) (has_reply s.reply r) h.reply).0;
  reply_original = same_tuple-false r.reply s.original (or_parts (has_original s.original r) (has_reply s.original r) h.original).1;
  replies = same_tuple-false r.reply s.reply (or_parts (has_original s.reply r) (has_reply s.reply r) h.reply).1;
}

pub each_new : (s : Record) (rs : List Record) → AllByRecursion (λ r. r.id < s.id) rs
    → AllByRecursion (λ r. has_place s.place r ≡ false) rs
    → AllByRecursion (λ r. has_tuple s.original r ≡ false) rs
    → AllByRecursion (λ r. has_tuple s.reply r ≡ false) rs
    → AllByRecursion (λ r. AreApart r s) rs
each_new s [] a b c d = tt
each_new s (r ∷ rs) (a, as') (b, bs) (c, cs) (d, ds) =
    (apart_new s r (record { older = a; place = b; original = c; reply = d }), each_new s rs as' bs cs ds)

each_push : (r s : Record) (rs : List Record) → AllByRecursion (AreApart r) rs → AreApart r s
    → AllByRecursion (AreApart r) (rs ++ s ∷ [])
each_push r s [] h one = (one, tt)
each_push r s (q ∷ rs) (h, hs) one = (h, each_push r s rs hs one)

pub pairs_push : (rs : List Record) (s : Record) → Pairs rs → AllByRecursion (λ r. AreApart r s) rs
    → Pairs (rs ++ s ∷ [])
pairs_push [] s h new = (tt, tt)
pairs_push (r ∷ rs) s (h, hs) (n, ns) = (each_push r s rs h n, pairs_push rs s hs ns)

each_touched : (id : ℕ) (part : Part) (r : Record) (rs : List Record) → AllByRecursion (AreApart r) rs
    → AllByRecursion (AreApart (with_part id part r)) (map (with_part id part) rs)
each_touched id part r [] h = tt
each_touched id part r (s ∷ rs) (h, hs) =
    (apart_same r _ s _ (with_part-same id part r) (with_part-same id part s) h, each_touched id part r rs hs)

pub pairs_touched : (id : ℕ) (part : Part) (rs : List Record) → Pairs rs → Pairs (map (with_part id part) rs)
pairs_touched id part [] h = tt
pairs_touched id part (r ∷ rs) (h, hs) = (each_touched id part r rs h, pairs_touched id part rs hs)

pub pairs_filter : (keep : Record → Bool) (rs : List Record) → Pairs rs → Pairs (filter keep rs)
pairs_filter keep [] h = tt
pairs_filter keep (r ∷ rs) (h, hs) =
    elim (keep r) as (λ b. Pairs (cond b (r ∷ filter keep rs) (filter keep rs)))
    [ true ↦ (each_filter (AreApart r) keep rs h, pairs_filter keep rs hs) | false ↦ pairs_filter keep rs hs ]
