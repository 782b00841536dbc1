-- The words that the steps and the calls of a pass change, for the clauses of the clerk's calls.
use Rattle.std.specs.Prelude.{◌==◌, ◌&&◌, ◌||◌, is_some, nat_le, nat_lt, not, drop}
use Rattle.std.proofs.Math.Seq.{drop-append_seam}
use Rattle.std.proofs.Common.{◌≡◌, ℕ, ◌+◌, ◌*◌, ◌<◌, ◌≤◌, Bool, true, false, Option, Some, None, List, [], ◌∷◌, ◌++◌, length, refl, sym, ap, ◌∙◌, subst, arith, append-nil, ⊎_elim}
use Rattle.std.proofs.lemmas.Bool.{and_from, and_left, and_parts, and_right, eq-eqb, eqb-true, false≢true, le-leb, leb-false, leb-true, lt-ltb, ne_eqb, or_cases, or_from, or_left}
use Rattle.history_book.specs.declared.event.Event.{Event}
use Rattle.history_book.specs.declared.event.Event.TheVariants.{Confirm, Touch, Destroy, Expect, Claim, Unexpect}
use Rattle.history_book.specs.declared.record.Flow.{Flow}
use Rattle.history_book.specs.declared.record.Record.{Record}
use Rattle.history_book.specs.declared.sizes.Sizes.{Sizes}
use Rattle.track_rule.specs.ChangesOnly.{ChangesAndFrees, ChangesWords, either, has_change, is_expect_turn, is_free_turn, is_freeing, is_gen_of, is_history, is_last_given, is_live_of, is_next_of, is_of_kind, is_phase_of, is_refs_of, is_some_next, is_some_phase, is_some_refs, is_tuple_of, is_turn_of, no_word, where_so}
use Rattle.track_rule.specs.CommitSteps.{HasAdded}
use Rattle.track_rule.specs.ExpectSteps.{HasClaimed, HasExpected, HasUnexpected, claim_in, expect_in, unexpect_in}
use Rattle.track_rule.specs.History.{IsNumber}
use Rattle.track_rule.specs.KillSteps.{HasDestroyed, MakesDestroy, OfDying, destroy_in}
use Rattle.track_rule.specs.Links.{kind_of}
use Rattle.track_rule.specs.Layout.{first_word, phase_word, place_of, refs_word, second_word, turn_word}
use Rattle.track_rule.specs.Readings.{added, stored}
use Rattle.track_rule.specs.Sights.{PassSight, sizes_of}
use Rattle.track_rule.specs.TouchSteps.{HasTouched, touch_in}
use Rattle.track_rule.specs.ExpectTurns.{gave_expected}
use Rattle.track_rule.specs.TurnSteps.{gave_turn, subject_in}
use Rattle.track_rule.specs.declared.slot.Slot.{Slot}
use Rattle.track_rule.specs.declared.view.Middle.{Middle}
use Rattle.track_rule.specs.declared.view.Middle.TheVariants.{Calm, Born, Dying}
use Rattle.track_rule.specs.declared.view.Reading.{Reading}
use Rattle.track_rule.specs.declared.view.View.{View}
use Rattle.track_rule.specs.ChangeLaws.{Within, by_loads, by_pass, by_reading, by_view, freeing_none, frees_after, frees_weaker, in_none, in_one, in_other, joined, weaker, weaker_at}
use Rattle.shared_desk.proofs.WordKinds.{of_kind}
use Rattle.bucket_table.specs.Finding.{once_words}
use Rattle.bucket_table.specs.Following.{bucket_in}
use Rattle.bucket_table.specs.declared.finding.FindOnce.{FindOnce}
use Rattle.bucket_table.specs.declared.finding.FindOnce.TheVariants.{Found, Absent, Moved}
use Rattle.bucket_table.specs.LockedChain.{link_words, unlink_words}
use Rattle.bucket_table.specs.Locks.{Buckets, buckets_of}
use Rattle.entry_pool.specs.Hold.{HoldsMore, OnlyReadsRefs}
use Rattle.entry_pool.specs.Take.{recycle_words}
use Rattle.history_book.specs.declared.outcome.ConfirmOutcome.{ConfirmOutcome}
use Rattle.history_book.specs.declared.outcome.ConfirmOutcome.TheVariants.{Confirmed, Clash}
use Rattle.shared_desk.specs.Changed.{commit_words, enter_words, find_words, flow_gens, flow_heads, give_words, hold_words}

-- nothing was changed
pub none_in : (f : Sizes → Reading → Bool) (v w : View) → ChangesWords no_word v w → ChangesWords f v w
none_in f v w c = weaker no_word f v w (in_none f) c

-- where it is so
pub where_in : (so : Bool) (f : Sizes → Reading → Bool) → so ≡ true → Within f (where_so so f)
where_in so f is z r e = and_from so (f z r) is e

-- one call and another
pub then_none : (f : Sizes → Reading → Bool) (u v w : View) → ChangesWords f u v → ChangesWords no_word v w → ChangesWords f u w
then_none f u v w c d = joined f u v w c (none_in f v w d)

pub none_then : (f : Sizes → Reading → Bool) (u v w : View) → ChangesWords no_word u v → ChangesWords f v w → ChangesWords f u w
none_then f u v w c d = joined f u v w (none_in f u v c) d

-- one call between two of another test
pub around : (g f : Sizes → Reading → Bool) (o u v w : View) → ChangesWords g o u → ChangesWords f u v → ChangesWords g v w → ChangesWords (either g f) o w
around g f o u v w a b c =
    joined (either g f) o u w (weaker g (either g f) o u (in_one g f) a)
    (joined (either g f) u v w (weaker f (either g f) u v (in_other g f) b) (weaker g (either g f) v w (in_one g f) c))

-- the turn of a record given back
pub gave_words : (place : ℕ) (v w : PassSight) (slots : List (ℕ × Slot)) → w ≡ record v { view = gave_turn place v.view; slots = slots } → ChangesWords (is_turn_of place) v.view w.view
gave_words place v w slots e = by_pass (is_turn_of place) (stored (turn_word (sizes_of v) place) 0) v w _ e refl refl (eq-eqb (turn_word (sizes_of v) place) (turn_word (sizes_of v) place) refl)

-- that of the expectations
pub gave_expects : (v w : PassSight) (slots : List (ℕ × Slot)) → w ≡ record v { view = gave_expected v.view; slots = slots } → ChangesWords is_expect_turn v.view w.view
gave_expects v w slots e = by_pass is_expect_turn (stored 2 0) v w _ e refl refl refl

-- EVENTS

pub confirm_adds : (r : Record) (v w : View) (n : ℕ) → HasAdded (Some r) v n w → ChangesWords is_history v w
confirm_adds r v w n adds = by_view is_history _ v w _ adds.view refl refl refl

pub touch_adds : (e : Event) (v w : View) (n : ℕ) → HasTouched (touch_in e) v n w → ChangesWords is_history v w
touch_adds (Confirm r) v w n adds = absurd adds
touch_adds (Touch id direction segment moment after) v w n adds = by_view is_history _ v w _ adds.view refl refl refl
touch_adds (Destroy id why) v w n adds = absurd adds
touch_adds (Expect expectation replaced moment) v w n adds = absurd adds
touch_adds (Claim expectation master tuple moment) v w n adds = absurd adds
touch_adds (Unexpect expectation moment) v w n adds = absurd adds

pub destroy_adds : (e : Event) (v w : View) (n : ℕ) → HasDestroyed (destroy_in e) v n w → ChangesWords is_history v w
destroy_adds (Confirm r) v w n adds = absurd adds
destroy_adds (Touch id direction segment moment after) v w n adds = absurd adds
destroy_adds (Destroy id why) v w n adds = by_middle v.commit.middle refl
  where
    by_middle : (m : Middle) → v.commit.middle ≡ m → ChangesWords is_history v w
    by_middle Calm e = absurd (subst (OfDying (MakesDestroy (record { id = id; why = why }) v (IsNumber n) w)) e adds)
    by_middle (Born r) e = absurd (subst (OfDying (MakesDestroy (record { id = id; why = why }) v (IsNumber n) w)) e adds)
    by_middle (Dying r) e =
        let has : MakesDestroy (record { id = id; why = why }) v (IsNumber n) w r = subst (OfDying (MakesDestroy (record { id = id; why = why }) v (IsNumber n) w)) e adds in
        by_view is_history _ v w _ has.view refl refl refl
destroy_adds (Expect expectation replaced moment) v w n adds = absurd adds
destroy_adds (Claim expectation master tuple moment) v w n adds = absurd adds
destroy_adds (Unexpect expectation moment) v w n adds = absurd adds

pub expect_adds : (e : Event) (v w : View) (n : ℕ) → HasExpected (expect_in e) v n w → ChangesWords is_history v w
expect_adds (Confirm r) v w n adds = absurd adds
expect_adds (Touch id direction segment moment after) v w n adds = absurd adds
expect_adds (Destroy id why) v w n adds = absurd adds
expect_adds (Expect expectation replaced moment) v w n adds = by_view is_history _ v w _ adds.view refl refl refl
expect_adds (Claim expectation master tuple moment) v w n adds = absurd adds
expect_adds (Unexpect expectation moment) v w n adds = absurd adds

pub claim_adds : (e : Event) (v w : View) (n : ℕ) → HasClaimed (claim_in e) v n w → ChangesWords is_history v w
claim_adds (Confirm r) v w n adds = absurd adds
claim_adds (Touch id direction segment moment after) v w n adds = absurd adds
claim_adds (Destroy id why) v w n adds = absurd adds
claim_adds (Expect expectation replaced moment) v w n adds = absurd adds
claim_adds (Claim expectation master tuple moment) v w n adds = by_view is_history _ v w _ adds.view refl refl refl
claim_adds (Unexpect expectation moment) v w n adds = absurd adds

pub unexpect_adds : (e : Event) (v w : View) (n : ℕ) → HasUnexpected (unexpect_in e) v n w → ChangesWords is_history v w
unexpect_adds (Confirm r) v w n adds = absurd adds
unexpect_adds (Touch id direction segment moment after) v w n adds = absurd adds
unexpect_adds (Destroy id why) v w n adds = absurd adds
unexpect_adds (Expect expectation replaced moment) v w n adds = absurd adds
unexpect_adds (Claim expectation master tuple moment) v w n adds = absurd adds
unexpect_adds (Unexpect expectation moment) v w n adds = by_view is_history _ v w _ adds.view refl refl refl

-- WORDS OF A PLACE

pub turn_in : (z : Sizes) (place n : ℕ) → is_turn_of place z (stored (turn_word z place) n) ≡ true
turn_in z place n = eq-eqb (turn_word z place) (turn_word z place) refl

pub refs_in : (z : Sizes) (place n : ℕ) → is_refs_of place z (stored (refs_word z place) n) ≡ true
refs_in z place n = and_from (refs_word z place == refs_word z place) true (eq-eqb (refs_word z place) (refs_word z place) refl) refl

pub live_in : (z : Sizes) (place id : ℕ) → is_live_of place z (stored (phase_word z place) (3 + id)) ≡ true
live_in z place id = and_from (phase_word z place == phase_word z place) (nat_le 3 (3 + id)) (eq-eqb (phase_word z place) (phase_word z place) refl) (le-leb 3 (3 + id) (omega arith))

pub dead_in : (z : Sizes) (place : ℕ) → is_phase_of place 2 z (stored (phase_word z place) 2) ≡ true
dead_in z place = and_from (phase_word z place == phase_word z place) (2 == 2) (eq-eqb (phase_word z place) (phase_word z place) refl) refl

tuple_at : (z : Sizes) (place word n : ℕ) → refs_word z place + 3 ≤ word → word < refs_word z place + 7 → is_tuple_of place z (stored word n) ≡ true
tuple_at z place word n low high =
    and_from (nat_le (refs_word z place + 3) word) (nat_lt word (refs_word z place + 7)) (le-leb (refs_word z place + 3) word low) (lt-ltb word (refs_word z place + 7) high)

pub first_in : (z s : Sizes) (link word n : ℕ) → s ≡ z → word ≡ first_word s link → is_tuple_of (place_of link) z (stored word n) ≡ true
first_in z s link word n same e =
    let here : word ≡ first_word z link = e ∙ ap (λ (k : Sizes). first_word k link) same in
    tuple_at z (place_of link) word n (omega (arith, here)) (omega (arith, here))

pub second_in : (z s : Sizes) (link word n : ℕ) → s ≡ z → word ≡ second_word s link → is_tuple_of (place_of link) z (stored word n) ≡ true
second_in z s link word n same e =
    let here : word ≡ second_word z link = e ∙ ap (λ (k : Sizes). second_word k link) same in
    tuple_at z (place_of link) word n (omega (arith, here)) (omega (arith, here))

-- a part that was stored is in no word
pub part_kept : (v w : PassSight) (x : Record → PassSight) → ((r : Record) → (x r).view ≡ v.view) → ((r : Record) → subject_in v.slots ≡ Some r → w ≡ x r)
    → (subject_in v.slots ≡ None → w ≡ v) → w.view ≡ v.view
part_kept v w x same part none = by_case (subject_in v.slots) refl
  where
    by_case : (o : Option Record) → subject_in v.slots ≡ o → w.view ≡ v.view
    by_case None e = ap (λ (k : PassSight). k.view) (none e)
    by_case (Some r) e = ap (λ (k : PassSight). k.view) (part r e) ∙ same r

-- BUCKETS

pub link_flow : (place : ℕ) (flow : Flow) (a b : ℕ) (v w : View) → a ≡ bucket_in v.passes.sizes flow.original → b ≡ bucket_in v.passes.sizes flow.reply
    → ChangesWords (link_words a b place) v w → ChangesWords (either (flow_heads flow) (is_next_of place)) v w
link_flow place flow a b v w here there c =
    weaker_at (link_words (bucket_in v.passes.sizes flow.original) (bucket_in v.passes.sizes flow.reply) place) (either (flow_heads flow) (is_next_of place)) v w (λ r e. e)
    (subst (λ (k : ℕ). ChangesWords (link_words k (bucket_in v.passes.sizes flow.reply) place) v w) here (subst (λ (k : ℕ). ChangesWords (link_words a k place) v w) there c))

pub unlink_flow : (flow : Flow) (a b : ℕ) (v w : View) → a ≡ bucket_in v.passes.sizes flow.original → b ≡ bucket_in v.passes.sizes flow.reply
    → ChangesWords (unlink_words a b) v w → ChangesWords (either (flow_heads flow) is_some_next) v w
unlink_flow flow a b v w here there c =
    weaker_at (unlink_words (bucket_in v.passes.sizes flow.original) (bucket_in v.passes.sizes flow.reply)) (either (flow_heads flow) is_some_next) v w (λ r e. e)
    (subst (λ (k : ℕ). ChangesWords (unlink_words k (bucket_in v.passes.sizes flow.reply)) v w) here (subst (λ (k : ℕ). ChangesWords (unlink_words a k) v w) there c))

-- the lower and the upper one of two are these two
both_gens : (a b : ℕ) → Within (either (is_gen_of (buckets_of a b).lower) (is_gen_of (buckets_of a b).upper)) (either (is_gen_of a) (is_gen_of b))
both_gens a b z r e = by_order (nat_le a b) refl
  where
    swap : (p q : Bool) → (p || q) ≡ true → (q || p) ≡ true
    swap p q h = or_elim_to p q h
      where
        or_elim_to : (x y : Bool) → (x || y) ≡ true → (y || x) ≡ true
        or_elim_to true true k = refl
        or_elim_to true false k = refl
        or_elim_to false true k = refl
        or_elim_to false false k = k

    by_order : (o : Bool) → nat_le a b ≡ o → either (is_gen_of a) (is_gen_of b) z r ≡ true
    by_order true o =
        let low : (buckets_of a b).lower ≡ a = omega (arith, leb-true a b o) in
        let high : (buckets_of a b).upper ≡ b = omega (arith, leb-true a b o) in
        sym (λ i. is_gen_of (low i) z r || is_gen_of (high i) z r) ∙ e
    by_order false o =
        let low : (buckets_of a b).lower ≡ b = omega (arith, leb-false a b o) in
        let high : (buckets_of a b).upper ≡ a = omega (arith, leb-false a b o) in
        swap (is_gen_of b z r) (is_gen_of a z r) (sym (λ i. is_gen_of (low i) z r || is_gen_of (high i) z r) ∙ e)

pub gens_flow : (flow : Flow) (locked : Buckets) (v w : View) → locked ≡ buckets_of (bucket_in v.passes.sizes flow.original) (bucket_in v.passes.sizes flow.reply)
    → ChangesWords (either (is_gen_of locked.lower) (is_gen_of locked.upper)) v w → ChangesWords (flow_gens flow) v w
gens_flow flow locked v w are c =
    weaker_at (either (is_gen_of (buckets_of (bucket_in v.passes.sizes flow.original) (bucket_in v.passes.sizes flow.reply)).lower)
    (is_gen_of (buckets_of (bucket_in v.passes.sizes flow.original) (bucket_in v.passes.sizes flow.reply)).upper)) (flow_gens flow) v w
    (both_gens (bucket_in v.passes.sizes flow.original) (bucket_in v.passes.sizes flow.reply) v.passes.sizes)
    (subst (λ (k : Buckets). ChangesWords (either (is_gen_of k.lower) (is_gen_of k.upper)) v w) are c)

pub gens_in : (flow : Flow) (place : ℕ) (o : ConfirmOutcome) → Within (flow_gens flow) (enter_words flow place o)
gens_in flow place (Confirmed id) z r e = in_one (flow_gens flow) (commit_words place flow) z r e
gens_in flow place (Clash id direction both at) z r e = e

-- PASSES

-- no word, where the readings stay
pub readings_stay : (v w x : PassSight) → w ≡ x → sizes_of x ≡ sizes_of v → x.view.readings ≡ v.view.readings → ChangesWords no_word v.view w.view
readings_stay v w x e sizes same = record {
  sizes = ap sizes_of e ∙ sizes;
  only = record { more = []; all = ap (λ (k : PassSight). k.view.readings) e ∙ same ∙ sym (append-nil v.view.readings); own = refl };
}

-- HOLDING

is_not_free : (z : Sizes) (place n : ℕ) (r : Reading) → n < 9 → (n ≡ 1 → ⊥) → r.word ≡ refs_word z place + n → is_freeing z r ≡ false
is_not_free z place n r low other here =
    or_from (is_free_turn z r) (is_some_phase 0 z r) (ne_eqb r.word 1 (λ e. omega (arith, e, here)))
    (and_left (is_of_kind 1 z r) (r.value == 0) (of_kind z 1 0 place n r low other here))

pub refs_free_none : (place : ℕ) (z : Sizes) (r : Reading) → is_refs_of place z r ≡ true → is_freeing z r ≡ false
refs_free_none place z r e =
    is_not_free z place 0 r (omega arith) (λ k. omega (arith, k)) (omega (arith, eqb-true r.word (refs_word z place) (and_parts (r.word == refs_word z place) (not (is_some r.free)) e).0))

pub turn_free_none : (place : ℕ) (z : Sizes) (r : Reading) → is_turn_of place z r ≡ true → is_freeing z r ≡ false
turn_free_none place z r e = is_not_free z place 2 r (omega arith) (λ k. omega (arith, k)) (eqb-true r.word (turn_word z place) e)

none_free : (z : Sizes) (r : Reading) → no_word z r ≡ true → is_freeing z r ≡ false
none_free z r e = absurd (false≢true e)

-- no word is changed
pub hold_none : (place : ℕ) (v w : View) → ChangesWords no_word v w → ChangesAndFrees (hold_words place) v w
hold_none place v w c = freeing_none no_word (hold_words place) v w (in_none (hold_words place)) none_free c

pub hold_turn : (place : ℕ) (v w : View) → ChangesWords (is_turn_of place) v w → ChangesAndFrees (hold_words place) v w
hold_turn place v w c = freeing_none (is_turn_of place) (hold_words place) v w (in_one (is_turn_of place) (give_words place)) (turn_free_none place) c

pub hold_give : (place : ℕ) (v w : View) → ChangesAndFrees (give_words place) v w → ChangesAndFrees (hold_words place) v w
hold_give place v w c = frees_weaker (give_words place) (hold_words place) v w (in_other (is_turn_of place) (give_words place)) c

pub hold_more : (place : ℕ) (v w : PassSight) → HoldsMore place v w → ChangesAndFrees (hold_words place) v.view w.view
hold_more place v w h =
    freeing_none (is_refs_of place) (hold_words place) v.view w.view
    (λ z r e. in_other (is_turn_of place) (give_words place) z r (in_one (is_refs_of place) (recycle_words place) z r e)) (refs_free_none place)
    (record { sizes = ap sizes_of h.same; only = record { more = added v.view w.view; all = h.stand; own = h.own } })

pub hold_reads : (place last : ℕ) (v w : PassSight) → OnlyReadsRefs place last v w → ChangesAndFrees (hold_words place) v.view w.view
hold_reads place last v w h = hold_none place v.view w.view (by_loads no_word v.view w.view (ap sizes_of h.same) h.stand h.own)

-- a reference given up, and the last one, after which the place is made free
pub give_some : (place left : ℕ) (v w x : PassSight) → w ≡ x → x.view.passes.sizes ≡ v.view.passes.sizes → x.view.readings ≡ v.view.readings ++ stored (refs_word (sizes_of v) place) left ∷ []
    → ChangesAndFrees (give_words place) v.view w.view
give_some place left v w x e sizes more =
    freeing_none (is_refs_of place) (give_words place) v.view w.view (in_one (is_refs_of place) (recycle_words place)) (refs_free_none place)
    (by_pass (is_refs_of place) (stored (refs_word (sizes_of v) place) left) v w x e sizes more (refs_in (sizes_of v) place left))

pub give_last : (place : ℕ) (v u w : View) → u.passes.sizes ≡ v.passes.sizes → u.readings ≡ v.readings ++ stored (refs_word v.passes.sizes place) 0 ∷ []
    → ChangesWords (recycle_words place) u w → ChangesAndFrees (give_words place) v w
give_last place v u w sizes more c =
    frees_after (is_refs_of place) (recycle_words place) (give_words place) v u w
    (in_one (is_refs_of place) (recycle_words place)) (in_other (is_refs_of place) (recycle_words place))
    (by_reading (is_refs_of place) (stored (refs_word v.passes.sizes place) 0) v u sizes more (refs_in v.passes.sizes place 0))
    (ap (has_change is_last_given v.passes.sizes) (ap (drop (length v.readings)) more ∙ drop-append_seam v.readings (stored (refs_word v.passes.sizes place) 0 ∷ []))
    ∙ or_left (true && is_last_given v.passes.sizes (stored (refs_word v.passes.sizes place) 0)) (has_change is_last_given v.passes.sizes []) (last_is v.passes.sizes)) c
  where
    last_is : (z : Sizes) → is_last_given z (stored (refs_word z place) 0) ≡ true
    last_is z =
        and_from (is_some_refs z (stored (refs_word z place) 0)) (0 == 0)
        (and_from (is_of_kind 0 z (stored (refs_word z place) 0)) true
        (and_from (nat_le (3 + 2 * z.buckets) (refs_word z place)) (kind_of z (refs_word z place) == 0) (le-leb (3 + 2 * z.buckets) (refs_word z place) (omega arith))
        (eq-eqb (kind_of z (refs_word z place)) 0 (omega arith))) refl) refl

-- FINDING

refs_kind : (z : Sizes) (r : Reading) → is_some_refs z r ≡ true → is_freeing z r ≡ false
refs_kind z r e =
    let p = and_parts (nat_le (3 + 2 * z.buckets) r.word) (kind_of z r.word == 0) (and_parts (is_of_kind 0 z r) (not (is_some r.free)) e).0 in
    let high : 3 + 2 * z.buckets ≤ r.word = leb-true (3 + 2 * z.buckets) r.word p.0 in
    or_from (is_free_turn z r) (is_some_phase 0 z r) (ne_eqb r.word 1 (λ k. omega (arith, k, high)))
    (and_left (is_of_kind 1 z r) (r.value == 0)
    (and_right (nat_le (3 + 2 * z.buckets) r.word) (kind_of z r.word == 1) (ne_eqb (kind_of z r.word) 1 (λ k. omega (arith, k, eqb-true (kind_of z r.word) 0 p.1)))))

pub find_refs : (v w : View) → ChangesWords is_some_refs v w → ChangesAndFrees find_words v w
find_refs v w c = freeing_none is_some_refs find_words v w (in_one is_some_refs (either is_free_turn (is_some_phase 0))) refs_kind c

-- what one look changes, whichever it answered
refs_some : (place : ℕ) → Within (is_refs_of place) is_some_refs
refs_some place z r e =
    let p = and_parts (r.word == refs_word z place) (not (is_some r.free)) e in
    let here : r.word ≡ refs_word z place = eqb-true r.word (refs_word z place) p.0 in
    and_from (is_of_kind 0 z r) (not (is_some r.free))
    (and_from (nat_le (3 + 2 * z.buckets) r.word) (kind_of z r.word == 0) (le-leb (3 + 2 * z.buckets) r.word (omega (arith, here)))
    (eq-eqb (kind_of z r.word) 0 (omega (arith, here)))) p.1

once_some : (r : FindOnce) → Within (once_words r) is_some_refs
once_some (Found place id direction at) z r e = refs_some place z r e
once_some (Absent at) z r e = absurd (false≢true e)
once_some (Moved word was now None) z r e = e
once_some (Moved word was now (Some place)) z r e = refs_some place z r e

pub once_refs : (r : FindOnce) (v w : View) → ChangesWords (once_words r) v w → ChangesWords is_some_refs v w
once_refs r v w c = weaker (once_words r) is_some_refs v w (once_some r) c

pub find_none : (v w : View) → ChangesWords no_word v w → ChangesAndFrees find_words v w
find_none v w c = find_refs v w (none_in is_some_refs v w c)

some_free : (place : ℕ) → Within (recycle_words place) (either is_free_turn (is_some_phase 0))
some_free place z r e =
    ⊎_elim (in_one is_free_turn (is_some_phase 0) z r)
    (λ (k : is_phase_of place 0 z r ≡ true).
    let p = and_parts (r.word == phase_word z place) (r.value == 0) k in
    let here : r.word ≡ phase_word z place = eqb-true r.word (phase_word z place) p.0 in
    in_other is_free_turn (is_some_phase 0) z r
    (and_from (is_of_kind 1 z r) (r.value == 0)
    (and_from (nat_le (3 + 2 * z.buckets) r.word) (kind_of z r.word == 1) (le-leb (3 + 2 * z.buckets) r.word (omega (arith, here))) (eq-eqb (kind_of z r.word) 1 (omega (arith, here))))
    p.1)) (or_cases (is_free_turn z r) (is_phase_of place 0 z r) e)

-- the place that was given up is made free
pub look_frees : (place : ℕ) (u v w : View) → ChangesWords is_some_refs u v → has_change is_last_given u.passes.sizes (added u v) ≡ true → ChangesWords (recycle_words place) v w
    → ChangesAndFrees find_words u w
look_frees place u v w c last d =
    frees_after is_some_refs (recycle_words place) find_words u v w (in_one is_some_refs (either is_free_turn (is_some_phase 0)))
    (λ z r e. in_other is_some_refs (either is_free_turn (is_some_phase 0)) z r (some_free place z r e)) c last d
