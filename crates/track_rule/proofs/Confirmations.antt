-- Adding to the history word for a Confirm keeps the rule.
use Rattle.std.proofs.Common.{◌≡◌, ℕ, ◌+◌, ◌%◌, ◌^◌, ◌<◌, List, [], ◌∷◌, length, refl, sym, ap, subst, ◌∙◌, arith, set, length-append, Option, Some, None}
use Rattle.std.specs.Prelude.{slice_index, slice_set, ◌&&◌}
use mathlib.Core.Option.{none}
use Rattle.atomic_table.specs.Table.{Allows, keeps as unchanged, step, Me, Step}
use Rattle.history_book.specs.Laws.{LegalHistoriesGoOn, LiveRecordsAreConfirmed, StatesFollow, UnusedPlacesAreRoom}
use Rattle.history_book.specs.declared.event.Event.TheVariants.{Confirm}
use Rattle.history_book.specs.declared.record.Record.{Record}
use Rattle.history_book.specs.declared.sizes.Sizes.{Sizes}
use Rattle.std.proofs.lemmas.Bool.{cond_both}
use Rattle.track_rule.proofs.Seats.{StaysAt, same_at}
use Rattle.track_rule.specs.declared.view.Purpose.TheVariants.{For}
use Rattle.track_rule.specs.declared.view.Keep.{Keep}
use Rattle.track_rule.specs.Sights.{AreHeldBelow}
use Rattle.track_rule.specs.References.{is_at, is_for_new}
use Rattle.track_rule.specs.declared.slot.Slot.{Slot}
use Rattle.track_rule.specs.declared.view.View.{View}
use Rattle.track_rule.specs.CommitSteps.{CanConfirm, ConfirmStep, born, confirmed, with_confirm, AddStep, CanAdd, HasAdded, held_for}
use Rattle.track_rule.specs.History.{packed, records_after, events_in}
use Rattle.track_rule.specs.Rule.{RuleHolds, IsKept}
use Rattle.track_rule.proofs.Born.{born_kept}
use Rattle.track_rule.proofs.Named.{born_ledger}
use Rattle.track_rule.proofs.Confirms.{lawful, place_below, place_unused, state_on}
use Rattle.track_rule.proofs.Loads.{all_events, number_of}

pub confirming : (slots id : ℕ) (v : View) (c : List (ℕ × Slot)) (r : Record) → 0 < v.passes.shares → CanConfirm r v → StatesFollow → LegalHistoriesGoOn
    → LiveRecordsAreConfirmed → UnusedPlacesAreRoom
    → Allows (RuleHolds v.passes.sizes) slots id (v, c) 0 (λ n. (n + (1 + 2 ^ 40)) % 2 ^ 64) (ConfirmStep r (step slots 0 (1 + 2 ^ 40) 0 none) (v, c))
confirming slots id v c r has_some can follow go_on low room s (l, h) long at range =
    let z : Sizes = v.passes.sizes in
    let w : View = confirmed l.log r v in
    let all = all_events l s id v h at has_some in
    let records : length (records_after (with_confirm l.log r)) ≡ length (records_after l.log) + 1 =
    ap (λ st. length st.records) (state_on follow l.log (Confirm (born (length l.log) r)))
    ∙ length-append (records_after l.log) (born (length l.log) r ∷ []) in
    let events : length (with_confirm l.log r) ≡ length l.log + 1 = length-append l.log (Confirm (born (length l.log) r) ∷ []) in
    let few : length (records_after l.log) < z.entries =
    room z l.log (length l.log) r.place h.history.legal (place_below l s id v r h at has_some can) (place_unused l s id v r h at has_some can) in
    let next : (slice_index s.words 0 + (1 + 2 ^ 40)) % 2 ^ 64 ≡ packed (with_confirm l.log r) =
    omega (arith, h.history.word, records, events, few, h.limits.entries, all.few, can.few, h.limits.passes) in (
      w,
      unchanged,
      tt,
      (
        born_ledger l r v,
        subst (λ (k : ℕ). IsKept z (born_ledger l r v) (record {
          words = slice_set s.words 0 k;
          homes = s.homes;
          views = set s.views id w;
        })) (sym next) (born_kept l s id v r h at has_some can follow go_on low),
      ),
      (
        record {
          log = l.log;
          all = all;
          told = h.history.word;
          view = refl;
          legal = go_on z l.log (Confirm (born (length l.log) r)) h.history.legal (lawful l s id v r h at has_some can);
        },
        refl,
      ),
    )

-- the same, as the event that is added says which record it is
pub adding : (slots id : ℕ) (v : View) (c : List (ℕ × Slot)) (o : Option Record) → 0 < v.passes.shares → CanAdd o v → StatesFollow → LegalHistoriesGoOn
    → LiveRecordsAreConfirmed → UnusedPlacesAreRoom
    → Allows (RuleHolds v.passes.sizes) slots id (v, c) 0 (λ n. (n + (1 + 2 ^ 40)) % 2 ^ 64) (AddStep o (step slots 0 (1 + 2 ^ 40) 0 none) (v, c))
adding slots id v c None has_some can follow go_on low room = absurd can
adding slots id v c (Some r) has_some can follow go_on low room = confirming slots id v c r has_some can follow go_on low room

-- the same shares and turns, and no other places
pub stays_confirmed : (o : Option Record) (s : Step Slot) (me me' : Me Slot View) (n : ℕ) → CanAdd o me.0 → AddStep o s me n me' → StaysAt me.0 me'.0 × (me'.1 ≡ me.1)
stays_confirmed None s me me' n can told = absurd can
stays_confirmed (Some r) s me me' n can told = (
  same_at me.0 me'.0 _ told.0.view (record {
    passes = refl;
    same = refl;
    pool = λ k. record { held = below_for me.0.places.held k.held; owed = k.owed };
  }),
  told.1,
)
  where
    below_for : (held : List Keep) → AreHeldBelow me.0.passes.sizes.entries held → AreHeldBelow me.0.passes.sizes.entries (held_for r.place (length told.0.log) held)
    below_for [] h = tt
    below_for (k ∷ ks) h =
        cond_both (is_at r.place k && is_for_new k.purpose) (record k { purpose = For (length told.0.log) } ∷ ks) (k ∷ held_for r.place (length told.0.log) ks)
        (AreHeldBelow me.0.passes.sizes.entries) (λ e. h) (λ e. (h.0, below_for ks h.1))

-- what the call tells
pub has_added : (o : Option Record) (s : Step Slot) (me me' : Me Slot View) (word n : ℕ) → CanAdd o me.0 → AddStep o s me word me' → n ≡ events_in word
    → HasAdded o me.0 n me'.0
has_added None s me me' word n can told is = absurd can
has_added (Some r) s me me' word n can told is = record {
  log = told.0.log;
  all = told.0.all;
  told = number_of me.0 word n told.0.log told.0.all told.0.told is;
  view = told.0.view;
  legal = told.0.legal;
}
