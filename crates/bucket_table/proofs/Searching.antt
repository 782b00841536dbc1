-- A search along a chain: link after link.
use Rattle.std.proofs.Common.{◌≡◌, ◌≢◌, ℕ, zero, suc, ◌-◌, ◌<◌, ◌≤◌, Bool, true, false, Some, None, List, [], ◌∷◌, refl, sym, ap, subst, ◌∙◌, arith, append-nil}
use Rattle.std.specs.Prelude.{◌==◌, if◌then◌else◌}
use Rattle.std.proofs.lemmas.Bool.{and_from, eq-eqb, ne_eqb}
use Rattle.history_book.specs.declared.sizes.Sizes.{Sizes}
use Rattle.track_rule.specs.BucketSteps.{LoadsLink}
use Rattle.track_rule.specs.Layout.{head_word, next_word}
use Rattle.track_rule.specs.Links.{last_link}
use Rattle.track_rule.specs.Notes.{fresh_walk, just_met, link_note, link_noted, met_then}
use Rattle.track_rule.specs.Sights.{PassSight, sizes_of}
use Rattle.track_rule.specs.declared.view.MetLink.{MetLink}
use Rattle.track_rule.specs.declared.view.View.{View}
use Rattle.track_rule.specs.declared.view.Walk.{Walk}
use Rattle.bucket_table.specs.Following.{Compares, IsSoFar, IsStart, SearchSays, WalksOn, all_others, is_another, note_at, walk_on, walk_through}
use Rattle.bucket_table.specs.declared.lookup.Goal.{Goal}
use Rattle.bucket_table.proofs.Looking.{one_walk}

pub far_start : (g : Goal) (z : Sizes) (head left : ℕ) (view : View) → IsStart g head view → left ≡ last_link z → head ≤ last_link z → IsSoFar g z head left view
far_start g z head left view start all low = record { before = []; walk = start; others = refl; count = omega (arith, all); low = low }

pub walk_none : (v : PassSight) → WalksOn v v
walk_none v = record {
  more = [];
  same = ap (λ xs. record v { view = record v.view { readings = xs } }) (sym (append-nil v.view.readings));
  quiet = refl;
}

-- the note at a link, which there is
note_some : (g : Goal) (link : ℕ) (before : List MetLink) → link ≢ 0 → note_at g link before ≡ walk_on g (just_met link ∷ before)
note_some g link before some = ap (λ (b : Bool). if b then walk_through g.bucket g.generation before else walk_on g (just_met link ∷ before)) (ne_eqb link 0 some)

note_none : (g : Goal) (before : List MetLink) → note_at g 0 before ≡ walk_through g.bucket g.generation before
note_none g before = refl

-- the note after a load of the next link
link_read : (z : Sizes) (g : Goal) (m : MetLink) (before : List MetLink) (n : ℕ) → g.bucket < z.buckets
    → link_noted z (next_word z m.link) n (walk_on g (m ∷ before)) ≡ note_at g n (m ∷ before)
link_read z g m before n below =
    let other : (head_word z g.bucket == next_word z m.link) ≡ false = ne_eqb (head_word z g.bucket) (next_word z m.link) (λ e. omega (arith, e, below)) in
    let here : (next_word z m.link == next_word z m.link) ≡ true = eq-eqb (next_word z m.link) (next_word z m.link) refl in
    let w : Walk = walk_on g (m ∷ before) in
    let after : Bool → Bool → Walk = λ a b. (if a then met_then n (fresh_walk g.bucket g.generation) else (if b then met_then n (walk_on g (m ∷ before)) else walk_on g (m ∷ before))) in
    (λ i. after (other i) (here i))

-- the link had another tuple, and the next one was loaded
pub far_on : (g : Goal) (link left n : ℕ) (v u w : PassSight) → g.bucket < (sizes_of v).buckets → IsSoFar g (sizes_of v) link left v.view → link ≢ 0 → left ≢ 0
    → Compares g link false v u → LoadsLink (next_word (sizes_of v) link) u.view n w.view → w ≡ record u { view = w.view }
    → IsSoFar g (sizes_of v) n (left - 1) w.view
far_on g link left n v u w below far some more compares loads kept =
    let met = compares.another refl far.before (far.walk ∙ ap (λ (x : Walk). Some x) (note_some g link far.before some)) in
    let sizes : sizes_of u ≡ sizes_of v = ap sizes_of compares.walks.same in
    record {
      before = met.0 ∷ far.before;
      walk = ap (λ (x : View). x.walk) loads.view
          ∙ (λ i. link_note (sizes i) (next_word (sizes_of v) link) n (met.1 i))
          ∙ ap (λ (k : ℕ). Some (link_noted (sizes_of v) (next_word (sizes_of v) k) n (walk_on g (met.0 ∷ far.before)))) (sym met.2)
          ∙ ap (λ (x : Walk). Some x) (link_read (sizes_of v) g met.0 far.before n below);
      others = and_from (is_another g.first g.second met.0) (all_others g far.before) met.3 far.others;
      count = omega (arith, far.count, more);
      low = subst (λ (z : Sizes). n ≤ last_link z) sizes loads.link;
    }

-- the load of a link reads a word behind the generations
pub link_walk : (link n : ℕ) (v w : PassSight) → LoadsLink (next_word (sizes_of v) link) v.view n w.view → w ≡ record v { view = w.view } → WalksOn v w
link_walk link n v w loads kept =
    one_walk v w (next_word (sizes_of v) link) n (link_note (sizes_of v) (next_word (sizes_of v) link) n v.view.walk) kept loads.view (omega arith)

-- how a search ends
pub found_here : (g : Goal) (link left : ℕ) (z : Sizes) (v w : PassSight) → IsSoFar g z link left v.view → link ≢ 0 → Compares g link true v w
    → SearchSays (Some link) g z w.view
found_here g zero left z v w far some compares = absurd (some refl)
found_here g (suc n) left z v w far some compares = record {
  some = omega arith;
  below = far.low;
  before = far.before;
  others = far.others;
  walk = compares.has refl far.before (far.walk ∙ ap (λ (x : Walk). Some x) (note_some g (suc n) far.before some));
}

pub ended_here : (g : Goal) (link left : ℕ) (z : Sizes) (v : PassSight) → IsSoFar g z link left v.view → link ≡ 0 → SearchSays (Some 0) g z v.view
ended_here g link left z v far none = record {
  before = far.before;
  others = far.others;
  walk = far.walk ∙ ap (λ (k : ℕ). Some (note_at g k far.before)) none;
}

pub too_long : (g : Goal) (link left : ℕ) (z : Sizes) (v : PassSight) → IsSoFar g z link left v.view → link ≢ 0 → left ≡ 0 → SearchSays None g z v.view
too_long g link left z v far some none = record {
  met = just_met link ∷ far.before;
  long = omega (arith, far.count, none);
  walk = far.walk ∙ ap (λ (x : Walk). Some x) (note_some g link far.before some);
}
