-- What a pass knows after it gave up a reference.
use Rattle.std.specs.Prelude.{if◌then◌else◌}
use Rattle.std.proofs.Common.{◌≡◌, ◌≢◌, ℕ, ◌+◌, ◌-◌, Bool, false, ◌∷◌, sym, ap, subst, ◌∙◌, arith, eq-eqb, ne_eqb}
use Rattle.track_rule.specs.declared.view.View.{View}
use Rattle.track_rule.specs.Free.{is_among}
use Rattle.track_rule.specs.Layout.{refs_word}
use Rattle.track_rule.specs.Links.{RaisesNone}
use Rattle.track_rule.specs.Readings.{noted, stored}
use Rattle.track_rule.specs.Sights.{PassSight, sizes_of}
use Rattle.track_rule.specs.Steps.{IsCount, LowersRefs, let_go_of}
use Rattle.entry_pool.specs.Hold.{KeepsNone, KeepsSome, gave_up}
use Rattle.entry_pool.proofs.Hooks.{up_then}

module _ (place n : ℕ) (v w : PassSight) (h : LowersRefs place v.view n w.view) (kept : w ≡ record v { view = w.view })
    (free : is_among place v.view.places.carried ≡ false) where
  own_gone : w.view ≡ let_go_of false place n v.view
  own_gone = h.view ∙ ap (λ (b : Bool). let_go_of b place n v.view) free

  none_raised : RaisesNone v.view.buckets.hooks w.view.buckets.hooks
  none_raised =
      subst (λ (x : View). RaisesNone v.view.buckets.hooks x.buckets.hooks) (sym own_gone) (up_then place v.view.places.held v.view.buckets.hooks)

  pub kept_some : n ≢ 1 → KeepsSome place v w
  kept_some other = record {
    left = n - 1;
    some = omega (arith, other, h.some);
    count = subst (λ (k : ℕ). IsCount place k v.view) before h.count;
    same = kept ∙ ap (λ (x : View). record v { view = x }) (own_gone ∙ ap (λ (b : Bool). noted (stored (refs_word (sizes_of v) place) (n - 1))
        (record (gave_up place v) { places = record (gave_up place v).places { owed = (if b then place ∷ v.view.places.owed else v.view.places.owed) } })) (ne_eqb n 1 other));
    down = none_raised;
  }
    where
      before : n ≡ (n - 1) + 1
      before = omega (arith, h.some)

  pub kept_none : n ≡ 1 → KeepsNone place v w
  kept_none last = record {
    same = kept ∙ ap (λ (x : View). record v { view = x }) (own_gone
        ∙ ap (λ (b : Bool). noted (stored (refs_word (sizes_of v) place) (n - 1))
        (record (gave_up place v) { places = record (gave_up place v).places { owed = (if b then place ∷ v.view.places.owed else v.view.places.owed) } })) (eq-eqb n 1 last)
        ∙ ap (λ (k : ℕ). noted (stored (refs_word (sizes_of v) place) (k - 1))
        (record (gave_up place v) { places = record (gave_up place v).places { owed = place ∷ v.view.places.owed } })) last);
    count = subst (λ (k : ℕ). IsCount place k v.view) last h.count;
    down = none_raised;
    held = omega (arith, h.mine, h.count.own, last);
    owed = h.owed;
  }
