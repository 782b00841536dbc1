-- Links of a pass that are in no chain.
use Rattle.std.specs.List.{list_any}
use Rattle.std.specs.Prelude.{◌==◌, ◌&&◌, not}
use Rattle.std.proofs.Common.{◌≡◌, ℕ, Bool, true, false, List, [], ◌∷◌, filter, refl, sym, subst}
use Rattle.std.proofs.lemmas.Bool.{cond_both, or_from, or_parts}
use Rattle.track_rule.specs.declared.view.Hook.{Hook}
use Rattle.track_rule.specs.declared.view.Keep.{Keep}
use Rattle.track_rule.specs.Layout.{place_of}
use Rattle.track_rule.specs.Links.{RaisesNone, is_up}
use Rattle.track_rule.specs.References.{held_times}
use Rattle.track_rule.specs.Steps.{NewHooks, hooks_then}

any_filter : {X : Type 0} (test keep : X → Bool) (xs : List X) → list_any test xs ≡ false → list_any test (filter keep xs) ≡ false
any_filter test keep [] none = refl
any_filter test keep (x ∷ xs) none =
    let parts = or_parts (test x) (list_any test xs) none in
    cond_both (keep x) (x ∷ filter keep xs) (filter keep xs) (λ ys. list_any test ys ≡ false)
    (λ e. or_from (test x) (list_any test (filter keep xs)) parts.0 (any_filter test keep xs parts.1)) (λ e. any_filter test keep xs parts.1)

-- fewer links
pub up_then : (place : ℕ) (held : List Keep) (hooks : List Hook) → RaisesNone hooks (hooks_then place held hooks)
up_then place held hooks q none =
    cond_both (held_times place held == 1) (filter (λ (h : Hook). not (place_of h.link == place)) hooks) hooks (λ hs. is_up q hs ≡ false)
    (λ e. any_filter (λ (h : Hook). place_of h.link == q && h.up) (λ (h : Hook). not (place_of h.link == place)) hooks none) (λ e. none)

-- two links more
pub up_new : (place : ℕ) (old new : List Hook) → NewHooks place old new → RaisesNone old new
up_new place old new n q none =
    subst (λ hs. is_up q hs ≡ false) (sym n.all)
    (or_from (place_of n.original.link == q && n.original.up) (is_up q (n.reply ∷ old)) (lowered (place_of n.original.link == q) n.original.up n.down.0)
    (or_from (place_of n.reply.link == q && n.reply.up) (is_up q old) (lowered (place_of n.reply.link == q) n.reply.up n.down.1) none))
  where
    lowered : (a b : Bool) → b ≡ false → (a && b) ≡ false
    lowered true b e = e
    lowered false b e = refl
