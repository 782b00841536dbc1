-- The reference that told nothing is given back.
use Rattle.std.specs.Prelude.{◌==◌, ◌||◌, if◌then◌else◌, not, filter}
use Rattle.std.specs.List.{list_any}
use Rattle.std.proofs.Common.{◌≡◌, ℕ, Bool, true, false, List, [], ◌∷◌, ◌++◌, refl, sym, ap, ◌∙◌, arith, ⊎_elim}
use Rattle.std.proofs.lemmas.Bool.{cases_Bool, cond_both, eq-eqb, eqb-true, false≢true, or_left, or_parts}
use Rattle.track_rule.specs.Free.{is_among, taken_out, unlisted}
use Rattle.track_rule.specs.Layout.{place_of, refs_word}
use Rattle.track_rule.specs.Links.{is_up}
use Rattle.track_rule.specs.Readings.{stored}
use Rattle.track_rule.specs.References.{held_times, is_held, is_taken, without}
use Rattle.track_rule.specs.Sights.{PassSight, sizes_of}
use Rattle.track_rule.specs.Steps.{hooks_else, hooks_then, keep, owned_then}
use Rattle.track_rule.specs.declared.view.Hook.{Hook}
use Rattle.track_rule.specs.declared.view.Keep.{Keep}
use Rattle.track_rule.specs.declared.view.Purpose.{Purpose}
use Rattle.entry_pool.specs.Hold.{KeepsNone, KeepsSome}
use Rattle.entry_pool.specs.Take.{Recycles}
use Rattle.shared_desk.specs.Holding.{HasNewest, OnlyLooks, but_newest}
use Rattle.bucket_table.specs.Finding.{has_hook, others_of}
use Rattle.shared_desk.proofs.HoldingFrames.{looks_from, starts_same}
use Rattle.shared_desk.proofs.Lists.{none_of, same_bit}

-- a filter that all pass
filter_all : {X : Type 0} (drops : X → Bool) (xs : List X) → list_any drops xs ≡ false → filter (λ x. not (drops x)) xs ≡ xs
filter_all drops [] none = refl
filter_all drops (x ∷ xs) none =
    let parts = or_parts (drops x) (list_any drops xs) none in
    ap (λ (b : Bool). if not b then x ∷ filter (λ y. not (drops y)) xs else filter (λ y. not (drops y)) xs) parts.0
    ∙ ap (λ ys. x ∷ ys) (filter_all drops xs parts.1)

-- a list that has not the place is the same without it
unlisted_none : (place : ℕ) (places : List ℕ) → is_among place places ≡ false → unlisted (place ∷ []) places ≡ places
unlisted_none place [] none = refl
unlisted_none place (p ∷ ps) none =
    let parts = or_parts (p == place) (is_among place ps) none in
    ap (λ (b : Bool). if not (b || false) then p ∷ unlisted (place ∷ []) ps else unlisted (place ∷ []) ps) (turned p parts.0)
    ∙ ap (λ ys. p ∷ ys) (unlisted_none place ps parts.1)
  where
    turned : (p : ℕ) → (p == place) ≡ false → (place == p) ≡ false
    turned p other =
        ⊎_elim (λ (e : (place == p) ≡ true). absurd (false≢true (sym other ∙ eq-eqb p place (sym (eqb-true place p e))))) (λ (e : (place == p) ≡ false). e)
        (cases_Bool (place == p))

-- what would pass a second test that fails passes not the first
none_here : (a b : Bool) → (a ≡ true → b ≡ true) → b ≡ false → a ≡ false
none_here a b more none = ⊎_elim (λ (e : a ≡ true). absurd (false≢true (sym none ∙ more e))) (λ (e : a ≡ false). e) (cases_Bool a)

module _ (place : ℕ) (why : Purpose) (u : PassSight) (h : HasNewest place why u) where
  pub newest_held : is_held place u.view.places.held ≡ true
  newest_held = ap (is_held place) h.newest ∙ or_left (place == place) (is_held place (others_of u.view.places.held)) (eq-eqb place place refl)

  pub none_carried : is_among place u.view.places.carried ≡ false
  none_carried = ap (is_among place) h.can.carried

  pub none_up : is_up place u.view.buckets.hooks ≡ false
  none_up = h.can.settled.down place

  left : without place u.view.places.held ≡ others_of u.view.places.held
  left =
      ap (without place) h.newest
      ∙ ap (λ (b : Bool). if b then others_of u.view.places.held else keep place why ∷ without place (others_of u.view.places.held)) (eq-eqb place place refl)

  owned_left : owned_then place u.view.places.held u.view.places.owned ≡ u.view.places.owned
  owned_left =
      ap (λ (ks : List Keep). if is_taken place ks then u.view.places.owned else unlisted (place ∷ []) u.view.places.owned) left
      ∙ cond_both (is_taken place (others_of u.view.places.held)) u.view.places.owned (unlisted (place ∷ []) u.view.places.owned) (λ ps. ps ≡ u.view.places.owned)
      (λ e. refl)
      (λ e. unlisted_none place u.view.places.owned
      (none_here (is_among place u.view.places.owned) (is_taken place (others_of u.view.places.held)) (h.can.settled.owned place) e))

  held_once : (held_times place u.view.places.held == 1) ≡ true → is_taken place (others_of u.view.places.held) ≡ false
  held_once e =
      ⊎_elim
      (λ (t : is_taken place (others_of u.view.places.held) ≡ true).
      absurd (omega (
        arith,
        eqb-true (held_times place u.view.places.held) 1 e,
        ap (held_times place) h.newest,
        same_bit place place refl,
        (h.can.settled.taken place t).once,
      )))
      (λ (t : is_taken place (others_of u.view.places.held) ≡ false). t)
      (cases_Bool (is_taken place (others_of u.view.places.held)))

  hooks_left : hooks_then place u.view.places.held u.view.buckets.hooks ≡ u.view.buckets.hooks
  hooks_left =
      cond_both (held_times place u.view.places.held == 1) (hooks_else place u.view.buckets.hooks) u.view.buckets.hooks (λ xs. xs ≡ u.view.buckets.hooks)
      (λ e. filter_all (λ (x : Hook). place_of x.link == place) u.view.buckets.hooks
      (none_here (has_hook place u.view.buckets.hooks) (is_taken place (others_of u.view.places.held)) (h.can.settled.links place) (held_once e)))
      (λ e. refl)

  -- others have the place too
  module _ (w : PassSight) (k : KeepsSome place u w) where
    pub back_kept : OnlyLooks (but_newest u) w
    back_kept =
        looks_from (but_newest u) w u.view.seen.front u.view.walk (u.view.readings ++ stored (refs_word (sizes_of u) place) k.left ∷ [])
        (k.same ∙ (λ i. record u {
          view = record u.view {
            places = record u.view.places { held = left i; owned = owned_left i };
            buckets = record u.view.buckets { hooks = hooks_left i };
            readings = u.view.readings ++ stored (refs_word (sizes_of u) place) k.left ∷ [];
          };
        })) (starts_same u.view.seen.front)

  -- nobody has it, and it is made free again
  module _ (x : PassSight) (k : KeepsNone place u x) where
    now_owed : x ≡ record u {
      view = record u.view {
        places = record u.view.places { held = others_of u.view.places.held; owed = place ∷ u.view.places.owed };
        readings = u.view.readings ++ stored (refs_word (sizes_of u) place) 0 ∷ [];
      };
    }
    now_owed = k.same ∙ (λ i. record u {
      view = record u.view {
        places = record u.view.places { held = left i; owned = owned_left i; owed = place ∷ u.view.places.owed };
        buckets = record u.view.buckets { hooks = hooks_left i };
        readings = u.view.readings ++ stored (refs_word (sizes_of u) place) 0 ∷ [];
      };
    })

    pub owed_now : is_among place x.view.places.owed ≡ true
    owed_now =
        ap (λ (p : PassSight). is_among place p.view.places.owed) now_owed
        ∙ or_left (place == place) (is_among place u.view.places.owed) (eq-eqb place place refl)

    module _ (w : PassSight) (r : Recycles place x w) where
      paid : taken_out place (place ∷ u.view.places.owed) ≡ u.view.places.owed
      paid = ap (λ (b : Bool). if b then u.view.places.owed else place ∷ taken_out place u.view.places.owed) (eq-eqb place place refl)

      clear_left : unlisted (place ∷ []) u.view.places.clear ≡ u.view.places.clear
      clear_left =
          unlisted_none place u.view.places.clear
          (none_here (is_among place u.view.places.clear) (is_among place u.view.places.owed) (h.can.settled.clear place)
          (none_of (λ p. p == place) u.view.places.owed h.unowed))

      pub back_free : OnlyLooks (but_newest u) w
      back_free =
          looks_from (but_newest u) w u.view.seen.front u.view.walk w.view.readings
          (r.same ∙ ap (λ (p : PassSight). record p {
            view = record p.view {
              places = record p.view.places { owed = taken_out place p.view.places.owed; clear = unlisted (place ∷ []) p.view.places.clear };
              readings = w.view.readings;
            };
          }) now_owed ∙ (λ i. record u {
            view = record u.view {
              places = record u.view.places { held = others_of u.view.places.held; owed = paid i; clear = clear_left i };
              readings = w.view.readings;
            };
          })) (starts_same u.view.seen.front)
