-- How many entries a list of events confirms; no more than so many are live after it than were before.
use Rattle.std.proofs.Common.{◌≡◌, ℕ, ◌+◌, ◌≤◌, Bool, true, false, not, cond, List, [], ◌∷◌, ◌++◌, length, filter, take, drop, ap, arith, length-append}
use Rattle.std.proofs.lemmas.List.{length-map, take-append-drop}
use Rattle.history_book.specs.declared.event.Event.{Event}
use Rattle.history_book.specs.declared.event.Event.TheVariants.{Confirm, Touch, Destroy, Expect, Claim, Unexpect}
use Rattle.history_book.specs.declared.record.Record.{Record}
use Rattle.history_book.specs.History.{run}
use Rattle.history_book.specs.Record.{has_id}
use Rattle.history_book.specs.State.{State, next, with_part}

abbrev pub confirms_of : Event → ℕ
confirms_of (Confirm r) = 1
confirms_of (Touch id direction segment moment after) = 0
confirms_of (Destroy id why) = 0
confirms_of (Expect expectation replaced moment) = 0
confirms_of (Claim expectation master tuple moment) = 0
confirms_of (Unexpect expectation moment) = 0

abbrev pub confirms : List Event → ℕ
confirms [] = 0
confirms (e ∷ es) = confirms_of e + confirms es

pub confirms-append : (es fs : List Event) → confirms (es ++ fs) ≡ confirms es + confirms fs
confirms-append [] fs = omega arith
confirms-append (e ∷ es) fs = omega (arith, confirms-append es fs)

-- the events of a front and of what is behind it
pub confirms_split : (j : ℕ) (es : List Event) → confirms es ≡ confirms (take j es) + confirms (drop j es)
confirms_split j es =
    omega (arith, confirms-append (take j es) (drop j es), ap (λ (fs : List Event). confirms fs) (take-append-drop j es))

pub confirms_front : (j : ℕ) (es : List Event) → confirms (take j es) ≤ confirms es
confirms_front j es = omega (arith, confirms_split j es)

-- ---- live entries

choice_within : (b : Bool) (r : Record) (rs : List Record) (n : ℕ) → length rs ≤ n → length (cond b (r ∷ rs) rs) ≤ n + 1
choice_within true r rs n h = omega arith
choice_within false r rs n h = omega arith

filter_within : (p : Record → Bool) (rs : List Record) → length (filter p rs) ≤ length rs
filter_within p [] = omega arith
filter_within p (r ∷ rs) = omega (arith, choice_within (p r) r (filter p rs) (length rs) (filter_within p rs))

next_within : (s : State) (e : Event) → length (next s e).records ≤ length s.records + confirms_of e
next_within s (Confirm r) = omega (arith, length-append s.records (r ∷ []))
next_within s (Touch id direction segment moment after) = omega (arith, length-map s.records (with_part id after))
next_within s (Destroy id why) = omega (arith, filter_within (λ r. not (has_id id r)) s.records)
next_within s (Expect expectation replaced moment) = omega arith
next_within s (Claim expectation master tuple moment) = omega arith
next_within s (Unexpect expectation moment) = omega arith

pub run_within : (s : State) (es : List Event) → length (run s es).records ≤ length s.records + confirms es
run_within s [] = omega arith
run_within s (e ∷ es) = omega (arith, next_within s e, run_within (next s e) es)
