-- A call that makes no phase OWNED takes no place.
use Rattle.std.specs.Prelude.{◌==◌, ◌&&◌, ◌||◌, ◌-◌, ◌^◌, is_some, min, nat_le, nat_lt, not}
use Rattle.std.proofs.Common.{◌≡◌, ◌≢◌, ℕ, ◌+◌, ◌*◌, ◌<◌, ◌≤◌, Bool, true, false, Some, None, List, [], ◌∷◌, ◌++◌, refl, sym, ap, ◌∙◌, arith, ⊎_elim}
use Rattle.std.proofs.lemmas.Bool.{and_left, and_parts, and_right, eqb-true, false≢true, leb-true, ltb-true, ne_eqb, or_cases}
use Rattle.history_book.specs.declared.outcome.ClaimOutcome.{ClaimOutcome}
use Rattle.history_book.specs.declared.outcome.ConfirmOutcome.{ConfirmOutcome}
use Rattle.history_book.specs.declared.outcome.ConfirmOutcome.TheVariants as confirm
use Rattle.history_book.specs.declared.outcome.ExpectOutcome.{ExpectOutcome}
use Rattle.history_book.specs.declared.outcome.KillOutcome.{KillOutcome}
use Rattle.history_book.specs.declared.outcome.KillOutcome.TheVariants as kill
use Rattle.history_book.specs.declared.outcome.TouchOutcome.{TouchOutcome}
use Rattle.history_book.specs.declared.outcome.UnexpectOutcome.{UnexpectOutcome}
use Rattle.history_book.specs.declared.record.Flow.{Flow}
use Rattle.history_book.specs.declared.record.Record.{Record}
use Rattle.history_book.specs.declared.sizes.Sizes.{Sizes}
use Rattle.track_rule.specs.ChangesOnly.{ChangesWords, changes_only, either, is_expect_turn, is_free_turn, is_gen_of, is_head_of, is_history, is_live_of, is_next_of, is_of_kind, is_phase_of, is_refs_of, is_some_next, is_some_phase, is_some_refs, is_tuple_of, is_turn_of, no_word, places_taken, where_so}
use Rattle.track_rule.specs.Layout.{gen_word, head_word, phase_word, refs_word, turn_word}
use Rattle.track_rule.specs.Links.{kind_of}
use Rattle.track_rule.specs.Sights.{PassSight, sizes_of}
use Rattle.track_rule.specs.Sums.{bit}
use Rattle.track_rule.specs.declared.view.Reading.{Reading}
use Rattle.shared_desk.proofs.WordKinds.{NamesNo, below_places, of_kind}
use Rattle.bucket_table.specs.Finding.{once_words}
use Rattle.bucket_table.specs.Following.{bucket_in}
use Rattle.bucket_table.specs.declared.finding.FindOnce.{FindOnce}
use Rattle.bucket_table.specs.declared.finding.FindOnce.TheVariants.{Found, Absent, Moved}
use Rattle.entry_pool.specs.Take.{recycle_words}
use Rattle.shared_desk.specs.Changed.{claim_words, commit_words, confirm_words, destroy_words, end_words, enter_words, expect_words, flow_gens, flow_heads, give_words, hold_words, is_claimed, is_expected, is_removed, is_touched, kill_words, killed_words, touch_words, unexpect_words}
use Rattle.shared_desk.specs.Killing.{flow_of}
use Rattle.shared_desk.specs.Sights.{taken_by}

-- COUNTS

pub taken_append : (z : Sizes) (xs ys : List Reading) → places_taken z (xs ++ ys) ≡ places_taken z xs + places_taken z ys
taken_append z [] ys = omega arith
taken_append z (r ∷ rs) ys = omega (arith, taken_append z rs ys)

none_taken : (f : Sizes → Reading → Bool) (z : Sizes) (rs : List Reading) → NamesNo 1 f → changes_only (f z) rs ≡ true → places_taken z rs ≡ 0
none_taken f z [] clean e = refl
none_taken f z (r ∷ rs) clean e =
    let p = and_parts (not r.own || f z r) (changes_only (f z) rs) e in
    omega (arith, ap bit (by_own r.own (f z r) (is_some_phase 1 z r) (clean z r) p.0), none_taken f z rs clean p.1)
  where
    by_own : (own may owned : Bool) → (may ≡ true → owned ≡ false) → (not own || may) ≡ true → (own && owned) ≡ false
    by_own false may owned o h = refl
    by_own true may owned o h = o h

pub still_taken : (f : Sizes → Reading → Bool) (v w : PassSight) → NamesNo 1 f → ChangesWords f v.view w.view → taken_by w ≡ taken_by v
still_taken f v w clean c =
    ap (λ (n : ℕ). min n (2 ^ 64 - 1)) ((λ i. places_taken (c.sizes i) (c.only.all i)) ∙ taken_append (sizes_of v) v.view.readings c.only.more
    ∙ omega (arith, none_taken f (sizes_of v) c.only.more clean c.only.own))

-- TESTS

no_low : (f : Sizes → Reading → Bool) → ((z : Sizes) (r : Reading) → f z r ≡ true → r.word < 3 + 2 * z.buckets) → NamesNo 1 f
no_low f low z r e = and_left (is_of_kind 1 z r) (r.value == 1) (below_places z 1 r (low z r e))

no_kind : (f : Sizes → Reading → Bool) (place n : ℕ) → n < 9 → n ≢ 1 → ((z : Sizes) (r : Reading) → f z r ≡ true → r.word ≡ refs_word z place + n) → NamesNo 1 f
no_kind f place n low other is z r e = and_left (is_of_kind 1 z r) (r.value == 1) (of_kind z 1 0 place n r low other (is z r e))

pub no_either : (f g : Sizes → Reading → Bool) → NamesNo 1 f → NamesNo 1 g → NamesNo 1 (either f g)
no_either f g one other z r e = ⊎_elim (one z r) (other z r) (or_cases (f z r) (g z r) e)

pub no_where : (so : Bool) (f : Sizes → Reading → Bool) → NamesNo 1 f → NamesNo 1 (where_so so f)
no_where so f clean z r e = clean z r (and_parts so (f z r) e).1

pub no_none : NamesNo 1 no_word
no_none z r e = absurd (false≢true e)

pub no_history : NamesNo 1 is_history
no_history = no_low is_history (λ z r e. omega (arith, eqb-true r.word 0 e))

pub no_free_turn : NamesNo 1 is_free_turn
no_free_turn = no_low is_free_turn (λ z r e. omega (arith, eqb-true r.word 1 e))

pub no_expect_turn : NamesNo 1 is_expect_turn
no_expect_turn = no_low is_expect_turn (λ z r e. omega (arith, eqb-true r.word 2 e))

pub no_turn : (place : ℕ) → NamesNo 1 (is_turn_of place)
no_turn place = no_kind (is_turn_of place) place 2 (omega arith) (λ k. omega (arith, k)) (λ z r e. eqb-true r.word (turn_word z place) e)

pub no_refs : (place : ℕ) → NamesNo 1 (is_refs_of place)
no_refs place = no_kind (is_refs_of place) place 0 (omega arith) (λ k. omega (arith, k)) (λ z r e.
    omega (arith, eqb-true r.word (refs_word z place) (and_parts (r.word == refs_word z place) (not (is_some r.free)) e).0))

pub no_gen : (b : ℕ) → NamesNo 1 (is_gen_of b)
no_gen b = no_low (is_gen_of b) (λ z r e.
    let p = and_parts (nat_lt b z.buckets) (r.word == gen_word z b) e in
    omega (arith, ltb-true b z.buckets p.0, eqb-true r.word (gen_word z b) p.1))

pub no_head : (b : ℕ) → NamesNo 1 (is_head_of b)
no_head b = no_low (is_head_of b) (λ z r e.
    let p = and_parts (nat_lt b z.buckets) (r.word == head_word z b) e in
    omega (arith, ltb-true b z.buckets p.0, eqb-true r.word (head_word z b) p.1))

-- a phase that became another
no_value : (z : Sizes) (r : Reading) → r.value ≢ 1 → is_some_phase 1 z r ≡ false
no_value z r other = and_right (is_of_kind 1 z r) (r.value == 1) (ne_eqb r.value 1 other)

pub no_phase : (place value : ℕ) → value ≢ 1 → NamesNo 1 (is_phase_of place value)
no_phase place value other z r e = no_value z r (λ k. other (sym (eqb-true r.value value (and_parts (r.word == phase_word z place) (r.value == value) e).1) ∙ k))

pub no_some_phase : (value : ℕ) → value ≢ 1 → NamesNo 1 (is_some_phase value)
no_some_phase value other z r e = no_value z r (λ k. other (sym (eqb-true r.value value (and_parts (is_of_kind 1 z r) (r.value == value) e).1) ∙ k))

pub no_live : (place : ℕ) → NamesNo 1 (is_live_of place)
no_live place z r e = no_value z r (λ k. omega (arith, k, leb-true 3 r.value (and_parts (r.word == phase_word z place) (nat_le 3 r.value) e).1))

-- other words of a place
no_range : (z : Sizes) (place low high : ℕ) (r : Reading) → 1 < low → high ≤ 9 → (nat_le (refs_word z place + low) r.word && nat_lt r.word (refs_word z place + high)) ≡ true
    → is_some_phase 1 z r ≡ false
no_range z place low high r some few e =
    let p = and_parts (nat_le (refs_word z place + low) r.word) (nat_lt r.word (refs_word z place + high)) e in
    let above : refs_word z place + low ≤ r.word = leb-true (refs_word z place + low) r.word p.0 in
    let under : r.word < refs_word z place + high = ltb-true r.word (refs_word z place + high) p.1 in
    and_left (is_of_kind 1 z r) (r.value == 1)
    (and_right (nat_le (3 + 2 * z.buckets) r.word) (kind_of z r.word == 1) (ne_eqb (kind_of z r.word) 1 (λ k. omega (arith, k, above, under, some, few))))

pub no_tuple : (place : ℕ) → NamesNo 1 (is_tuple_of place)
no_tuple place z r e = no_range z place 3 7 r (omega arith) (omega arith) e

pub no_next : (place : ℕ) → NamesNo 1 (is_next_of place)
no_next place z r e = no_range z place 7 9 r (omega arith) (omega arith) e

-- words of another kind
no_other : (kind : ℕ) → kind ≢ 1 → (z : Sizes) (r : Reading) → is_of_kind kind z r ≡ true → is_some_phase 1 z r ≡ false
no_other kind other z r e =
    and_left (is_of_kind 1 z r) (r.value == 1)
    (and_right (nat_le (3 + 2 * z.buckets) r.word) (kind_of z r.word == 1)
    (ne_eqb (kind_of z r.word) 1 (λ k. other (sym (eqb-true (kind_of z r.word) kind (and_parts (nat_le (3 + 2 * z.buckets) r.word) (kind_of z r.word == kind) e).1) ∙ k))))

pub no_some_refs : NamesNo 1 is_some_refs
no_some_refs z r e = no_other 0 (λ k. omega (arith, k)) z r (and_parts (is_of_kind 0 z r) (not (is_some r.free)) e).0

pub no_some_next : NamesNo 1 is_some_next
no_some_next z r e = ⊎_elim (no_other 7 (λ k. omega (arith, k)) z r) (no_other 8 (λ k. omega (arith, k)) z r) (or_cases (is_of_kind 7 z r) (is_of_kind 8 z r) e)

pub no_once : (r : FindOnce) → NamesNo 1 (once_words r)
no_once (Found place id direction at) = no_refs place
no_once (Absent at) = no_none
no_once (Moved word was now None) = no_some_refs
no_once (Moved word was now (Some place)) = no_refs place

-- CALLS

no_gens : (flow : Flow) → NamesNo 1 (flow_gens flow)
no_gens flow z r e = no_either (is_gen_of (bucket_in z flow.original)) (is_gen_of (bucket_in z flow.reply)) (no_gen (bucket_in z flow.original)) (no_gen (bucket_in z flow.reply)) z r e

no_heads : (flow : Flow) → NamesNo 1 (flow_heads flow)
no_heads flow z r e = no_either (is_head_of (bucket_in z flow.original)) (is_head_of (bucket_in z flow.reply)) (no_head (bucket_in z flow.original)) (no_head (bucket_in z flow.reply)) z r e

pub no_touch : (place : ℕ) (o : TouchOutcome) → NamesNo 1 (touch_words place o)
no_touch place o = no_either (is_turn_of place) (where_so (is_touched o) is_history) (no_turn place) (no_where (is_touched o) is_history no_history)

pub no_expect : (place : ℕ) (o : ExpectOutcome) → NamesNo 1 (expect_words place o)
no_expect place o =
    no_either (is_turn_of place) (either is_expect_turn (where_so (is_expected o) is_history)) (no_turn place)
    (no_either is_expect_turn (where_so (is_expected o) is_history) no_expect_turn (no_where (is_expected o) is_history no_history))

pub no_claim : (o : ClaimOutcome) → NamesNo 1 (claim_words o)
no_claim o = no_either is_expect_turn (where_so (is_claimed o) is_history) no_expect_turn (no_where (is_claimed o) is_history no_history)

pub no_unexpect : (o : UnexpectOutcome) → NamesNo 1 (unexpect_words o)
no_unexpect o = no_either is_expect_turn (where_so (is_removed o) is_history) no_expect_turn (no_where (is_removed o) is_history no_history)

no_enter : (flow : Flow) (place : ℕ) (o : ConfirmOutcome) → NamesNo 1 (enter_words flow place o)
no_enter flow place (confirm.Confirmed id) =
    no_either (flow_gens flow) (commit_words place flow) (no_gens flow)
    (no_either (either (flow_heads flow) (is_next_of place)) (either (is_refs_of place) (either is_history (is_live_of place)))
    (no_either (flow_heads flow) (is_next_of place) (no_heads flow) (no_next place))
    (no_either (is_refs_of place) (either is_history (is_live_of place)) (no_refs place) (no_either is_history (is_live_of place) no_history (no_live place))))
no_enter flow place (confirm.Clash id direction both at) = no_gens flow

pub no_confirm : (flow : Flow) (place : ℕ) (o : ConfirmOutcome) → NamesNo 1 (confirm_words flow place o)
no_confirm flow place o =
    no_either (is_tuple_of place) (either (is_turn_of place) (enter_words flow place o)) (no_tuple place)
    (no_either (is_turn_of place) (enter_words flow place o) (no_turn place) (no_enter flow place o))

no_end : (place : ℕ) (r : Record) → NamesNo 1 (end_words place r)
no_end place r =
    no_either (flow_gens (flow_of r)) (either (is_refs_of place) (destroy_words place r)) (no_gens (flow_of r))
    (no_either (is_refs_of place) (destroy_words place r) (no_refs place)
    (no_either (is_phase_of place 2) (either is_history (either (flow_heads (flow_of r)) is_some_next)) (no_phase place 2 (λ k. omega (arith, k)))
    (no_either is_history (either (flow_heads (flow_of r)) is_some_next) no_history (no_either (flow_heads (flow_of r)) is_some_next (no_heads (flow_of r)) no_some_next))))

no_killed : (place : ℕ) (o : KillOutcome) → NamesNo 1 (killed_words place o)
no_killed place (kill.Killed number subject) =
    no_either (where_so subject.helper is_expect_turn) (end_words place subject) (no_where subject.helper is_expect_turn no_expect_turn) (no_end place subject)
no_killed place (kill.Gone at) = no_none
no_killed place (kill.Not subject at) = no_none

pub no_kill : (place : ℕ) (o : KillOutcome) → NamesNo 1 (kill_words place o)
no_kill place o = no_either (is_turn_of place) (killed_words place o) (no_turn place) (no_killed place o)

pub no_recycle : (place : ℕ) → NamesNo 1 (recycle_words place)
no_recycle place = no_either is_free_turn (is_phase_of place 0) no_free_turn (no_phase place 0 (λ k. omega (arith, k)))

pub no_hold : (place : ℕ) → NamesNo 1 (hold_words place)
no_hold place =
    no_either (is_turn_of place) (give_words place) (no_turn place) (no_either (is_refs_of place) (recycle_words place) (no_refs place) (no_recycle place))
