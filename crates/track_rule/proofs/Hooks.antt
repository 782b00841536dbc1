-- The hooks of a pass: those of a place that it takes, and those that it gives up with its last reference.
use Rattle.track_rule.specs.declared.view.Places.{Places}
use Rattle.std.proofs.Common.{◌≡◌, ◌≢◌, ℕ, zero, suc, ◌+◌, ◌*◌, ◌<◌, ◌≤◌, Bool, true, false, cond, None, List, [], ◌∷◌, filter, refl, sym, ap, subst, ◌∙◌, ⊎_elim, arith}
use Rattle.std.specs.Prelude.{slice_index, ◌==◌, ◌&&◌, ◌||◌, not, if◌then◌else◌}
use Rattle.std.proofs.lemmas.Bool.{cases_eq, cases_lt, cond_both, eq-eqb, false≢true, ne_eqb, or_parts}
use Rattle.std.proofs.lemmas.Option.{none-some}
use mathlib.Core.Option.{some, some-injective, some-ne-none}
use lib.ListN.{get_elem?}
use Rattle.atomic_table.specs.Table.{State}
use Rattle.history_book.specs.declared.sizes.Sizes.{Sizes}
use Rattle.history_book.specs.declared.event.Event.{Event}
use Rattle.history_book.specs.declared.record.Record.{Record}
use Rattle.track_rule.specs.declared.slot.Slot.{Slot}
use Rattle.track_rule.specs.declared.view.Hook.{Hook}
use Rattle.track_rule.specs.declared.view.Keep.{Keep}
use Rattle.track_rule.specs.declared.view.View.{View}
use Rattle.track_rule.specs.Chains.{chain_link, hooks_at, loose_of, side}
use Rattle.track_rule.specs.Free.{is_among, unlisted}
use Rattle.track_rule.specs.declared.view.Middle.{Middle}
use Rattle.track_rule.specs.declared.view.Middle.TheVariants.{Calm, Born, Dying}
use Rattle.track_rule.specs.Commits.{IsCommitting, IsMiddle}
use Rattle.track_rule.specs.History.{records_after}
use Rattle.track_rule.specs.Layout.{first_word, place_of, refs_at, second_word}
use Rattle.track_rule.specs.Links.{HasHooks, IsHook, IsOwned, hooks_of, is_up, last_link}
use Rattle.track_rule.specs.Phases.{middle_of, middle_weight, of_place}
use Rattle.track_rule.specs.References.{ends, held_times, is_taken, keeps, without}
use Rattle.track_rule.specs.Rule.{IsKept, Ledger}
use Rattle.track_rule.specs.Steps.{NewHooks, let_go_of, opened, owned_then}
use Rattle.track_rule.specs.Sums.{Each, bit, times, total}
use Rattle.track_rule.proofs.Balance.{Lines}
use Rattle.track_rule.proofs.Lists.{other_bit, same_bit, unlisted_else, unlisted_in, unlisted_out}
use Rattle.track_rule.proofs.UpHooks.{one_fewer, up_behind, up_left}
use Rattle.track_rule.proofs.Sums.{total_only, total_set, total_term, total_le}

-- a link of a place that is not in a chain, with what stands in its words
abbrev pub new_hook : Sizes → List ℕ → ℕ → Hook
new_hook z ws link = record {
  link = link;
  pair = record { first = slice_index ws (first_word z link); second = slice_index ws (second_word z link) };
  next = None;
  up = false;
}

abbrev pub new_hooks : Sizes → List ℕ → ℕ → List Hook → List Hook
new_hooks z ws p hooks = new_hook z ws (1 + 2 * p) ∷ new_hook z ws (2 + 2 * p) ∷ hooks

pub hooks_new : (z : Sizes) (ws : List ℕ) (p : ℕ) (hooks : List Hook) → NewHooks p hooks (new_hooks z ws p hooks)
hooks_new z ws p hooks = record {
  original = new_hook z ws (1 + 2 * p);
  reply = new_hook z ws (2 + 2 * p);
  all = refl;
  links = (refl, refl);
  down = (refl, refl);
}

-- who is in the middle of a commit at a place keeps a reference to it
committing : (z : Sizes) (log : List Event) (p : ℕ) (u : View) (r : Record)
    → IsCommitting z log u.commit.hand u.places.carried u.buckets.shut r → of_place p r ≤ keeps p u
committing z log p u r k =
    ⊎_elim
    (λ (e : r.place ≡ p). omega (arith, same_bit r.place p e, subst (λ (x : ℕ). 0 < times x u.places.carried) e k.reference))
    (λ (e : r.place ≢ p). omega (arith, other_bit r.place p e)) (cases_eq r.place p)

pub middle_kept : (z : Sizes) (log : List Event) (p : ℕ) (m : Middle) (u : View)
    → IsMiddle z log m u.commit.hand u.places.carried u.buckets.shut u.expected → middle_weight (of_place p) m ≤ keeps p u
middle_kept z log p Calm u k = omega arith
middle_kept z log p (Born r) u k = committing z log p u r k
middle_kept z log p (Dying r) u k = committing z log p u r k.0

-- nobody has a hook of a place without references, nor is an entry live there
module _ (z : Sizes) (l : Ledger) (s : State Slot View) (h : IsKept z l s) (id : ℕ) (v : View) (at : get_elem? s.views id ≡ some v)
    (p : ℕ) (below : p < z.entries) (nobody : refs_at z s.words p ≡ 0) where
  none_keeps : total (keeps p) s.views ≡ keeps p v
  none_keeps = omega (arith, h.references.counted p below, nobody, total_term (keeps p) s.views id v at)

  mine_none : keeps p v ≡ 0
  mine_none = omega (arith, h.references.counted p below, nobody, total_term (keeps p) s.views id v at)

  unhooked : (v : View) → HasHooks z s.words v.places v.buckets.hooks → (link : ℕ) → place_of link ≡ p → keeps p v ≡ 0 → hooks_at link v ≡ 0
  unhooked v k link here none =
      ⊎_elim
      (λ (e : hooks_at link v ≡ 0). e)
      (λ (e : hooks_at link v ≢ 0).
      absurd (omega (arith, none, ap (λ (x : ℕ). held_times x v.places.held) here, k.held link (omega (arith, e)))))
      (cases_eq (hooks_at link v) 0)

  no_hooks_there : (link : ℕ) → place_of link ≡ p → total (hooks_at link) s.views ≡ 0
  no_hooks_there link here =
      total_only (hooks_at link) (keeps p) s.views id v at none_keeps (λ i u at' none. unhooked u (h.links.hooks i u at') link here none)
      ∙ unhooked v (h.links.hooks id v at) link here mine_none

  pub no_record_there : total (of_place p) (records_after l.log) ≡ 0
  no_record_there =
      omega (
        arith,
        h.phases.used p below,
        h.references.counted p below,
        nobody,
        total_le (middle_of (of_place p)) (keeps p) s.views (λ i u at'. middle_kept z l.log p u.commit.middle u (h.commits i u at')),
      )

  -- nor has a pass destroyed one there, of which it carries the table's reference
  pub none_ended : total (ends p) s.views ≡ 0
  none_ended =
      total_only (ends p) (keeps p) s.views id v at none_keeps (λ i u at' none. not_ended i u at' none) ∙ not_ended id v at mine_none
    where
      not_ended : (i : ℕ) (u : View) → get_elem? s.views i ≡ some u → keeps p u ≡ 0 → ends p u ≡ 0
      not_ended i u at' none =
          ⊎_elim
          (λ (e : 0 < ends p u). absurd (omega (arith, none, (h.free_list.ended i u at' p e).0)))
          (λ (e : ends p u ≤ 0). omega (arith, e))
          (cases_lt 0 (ends p u))

  no_hook : (v : View) → HasHooks z s.words v.places v.buckets.hooks → keeps p v ≡ 0
      → HasHooks z s.words (opened p (new_hooks z s.words p v.buckets.hooks) v).places (new_hooks z s.words p v.buckets.hooks)
  no_hook v k none = record {
    each = with_two (IsHook z s.words) (new_hook z s.words (1 + 2 * p)) (new_hook z s.words (2 + 2 * p)) (fresh (1 + 2 * p) (omega arith) (omega (arith, below)))
        (fresh (2 + 2 * p) (omega arith) (omega (arith, below))) k.each;
    held = λ link any.
        ⊎_elim
        (λ (e : p ≡ place_of link). omega (arith, same_bit p (place_of link) e))
        (λ (e : p ≢ place_of link).
        omega (
          arith,
          any,
          other_bit (1 + 2 * p) link (λ x. e (omega (arith, x))),
          other_bit (2 + 2 * p) link (λ x. e (omega (arith, x))),
          k.held link (omega (
            arith,
            any,
            other_bit (1 + 2 * p) link (λ x. e (omega (arith, x))),
            other_bit (2 + 2 * p) link (λ x. e (omega (arith, x))),
          )),
        ))
        (cases_eq p (place_of link));
    linked = with_two (IsOwned v.places) (new_hook z s.words (1 + 2 * p)) (new_hook z s.words (2 + 2 * p)) (λ up. absurd (false≢true up))
        (λ up. absurd (false≢true up)) k.linked;
    one = one_fewer v.buckets.hooks (new_hooks z s.words p v.buckets.hooks)
        (λ q e.
        up_behind q (new_hook z s.words (2 + 2 * p)) v.buckets.hooks refl
        (up_behind q (new_hook z s.words (1 + 2 * p)) (new_hook z s.words (2 + 2 * p) ∷ v.buckets.hooks) refl e)) k.one;
  }
    where
      fresh : (link : ℕ) → 0 < link → link ≤ last_link z → IsHook z s.words (new_hook z s.words link)
      fresh link any low = record { some = any; below = low; first = refl; second = refl; next = λ n down e. absurd (none-some n e) }

      with_two : (F : Hook → Type 0) (a b : Hook) → F a → F b → Each F v.buckets.hooks → Each F (a ∷ b ∷ v.buckets.hooks)
      with_two F a b f g e zero x at' = subst F (some-injective a x at') f
      with_two F a b f g e (suc zero) x at' = subst F (some-injective b x at') g
      with_two F a b f g e (suc (suc i)) x at' = e i x at'

  pub opened_lines : Lines z l s id v (opened p (new_hooks z s.words p v.buckets.hooks) v)
  opened_lines =
      let w : View = opened p (new_hooks z s.words p v.buckets.hooks) v in
      record {
        shut = refl;
        loose = λ b weight. omega arith;
        lone = λ link any.
            ⊎_elim
            (λ (e : place_of link ≡ p).
            omega (
              arith,
              no_hooks_there link e,
              total_set (hooks_at link) s.views id v w at,
              ap (λ (x : ℕ). total (of_place x) (records_after l.log)) e,
              no_record_there,
              one_of_two p link,
            ))
            (λ (e : place_of link ≢ p).
            omega (
              arith,
              h.chains.lone link any,
              total_set (hooks_at link) s.views id v w at,
              other_bit (1 + 2 * p) link (λ x. e (omega (arith, x))),
              other_bit (2 + 2 * p) link (λ x. e (omega (arith, x))),
            ))
            (cases_eq (place_of link) p);
        hooks = no_hook v (h.links.hooks id v at) mine_none;
        walk = h.walks.each id v at;
      }
    where
      one_of_two : (p link : ℕ) → bit (1 + 2 * p == link) + bit (2 + 2 * p == link) ≤ 1
      one_of_two p link =
          ⊎_elim
          (λ (e : 1 + 2 * p ≡ link). omega (arith, same_bit (1 + 2 * p) link e, other_bit (2 + 2 * p) link (λ x. omega (arith, x, e))))
          (λ (e : 1 + 2 * p ≢ link). omega (arith, other_bit (1 + 2 * p) link e, bit_one (2 + 2 * p == link)))
          (cases_eq (1 + 2 * p) link)
        where
          bit_one : (b : Bool) → bit b ≤ 1
          bit_one true = omega arith
          bit_one false = omega arith

-- hooks that are not in a chain weigh nothing, and are given up
module _ (p : ℕ) where
  off : Hook → Bool
  off h = not (place_of h.link == p)

  -- what hooks in chains weigh stays
  loose_kept : (g : Hook → ℕ) (hooks : List Hook) → is_up p hooks ≡ false
      → total (λ (h : Hook). (if h.up then g h else 0)) (filter (λ (h : Hook). not (place_of h.link == p)) hooks)
      ≡ total (λ (h : Hook). (if h.up then g h else 0)) hooks
  loose_kept g [] e = refl
  loose_kept g (h ∷ hs) e =
      let parts = or_parts (place_of h.link == p && h.up) (is_up p hs) e in
      let rest = loose_kept g hs parts.1 in
      cond_both (not (place_of h.link == p)) (h ∷ filter (λ (h : Hook). not (place_of h.link == p)) hs) (filter (λ (h : Hook). not (place_of h.link == p)) hs)
      (λ xs. total (λ (h : Hook). (if h.up then g h else 0)) xs ≡ (if h.up then g h else 0) + total (λ (h : Hook). (if h.up then g h else 0)) hs)
      (λ t. omega (arith, rest))
      (λ t.
      let here : (place_of h.link == p) ≡ true = was_true (place_of h.link == p) t in
      let down : h.up ≡ false = sym (ap (λ b. b && h.up) here) ∙ parts.0 in
      omega (arith, rest, ap (λ b. cond b (g h) 0) down))
    where
      was_true : (b : Bool) → not b ≡ false → b ≡ true
      was_true true e = refl
      was_true false e = absurd (false≢true (sym e))

  -- no link has more of them
  fewer : (link : ℕ) (hooks : List Hook) → hooks_of link (filter (λ (h : Hook). not (place_of h.link == p)) hooks) ≤ hooks_of link hooks
  fewer link [] = omega arith
  fewer link (h ∷ hs) =
      cond_both (not (place_of h.link == p)) (h ∷ filter (λ (h : Hook). not (place_of h.link == p)) hs) (filter (λ (h : Hook). not (place_of h.link == p)) hs)
      (λ xs. hooks_of link xs ≤ bit (h.link == link) + hooks_of link hs)
      (λ t. omega (arith, fewer link hs)) (λ t. omega (arith, fewer link hs))

  -- none of the place is left
  none_left : (link : ℕ) → place_of link ≡ p → (hooks : List Hook) → hooks_of link (filter (λ (h : Hook). not (place_of h.link == p)) hooks) ≡ 0
  none_left link here [] = refl
  none_left link here (h ∷ hs) =
      cond_both (not (place_of h.link == p)) (h ∷ filter (λ (h : Hook). not (place_of h.link == p)) hs) (filter (λ (h : Hook). not (place_of h.link == p)) hs)
      (λ xs. hooks_of link xs ≡ 0)
      (λ t.
      omega (
        arith,
        none_left link here hs,
        other_bit h.link link (λ e. false≢true (sym (ap not (eq-eqb (place_of h.link) p (ap place_of e ∙ here))) ∙ t)),
      ))
      (λ t. none_left link here hs)

  each_left : (F : Hook → Type 0) (hooks : List Hook) → Each F hooks → Each F (filter (λ (h : Hook). not (place_of h.link == p)) hooks)
  each_left F [] e = e
  each_left F (h ∷ hs) e =
      cond_both (not (place_of h.link == p)) (h ∷ filter (λ (h : Hook). not (place_of h.link == p)) hs) (filter (λ (h : Hook). not (place_of h.link == p)) hs)
      (λ xs. Each F xs)
      (λ t. more (filter (λ (h : Hook). not (place_of h.link == p)) hs) (e 0 h refl) (each_left F hs (λ i x at. e (suc i) x at)))
      (λ t. each_left F hs (λ i x at. e (suc i) x at))
    where
      more : (xs : List Hook) → F h → Each F xs → Each F (h ∷ xs)
      more xs f r zero x at = subst F (some-injective h x at) f
      more xs f r (suc i) x at = r i x at

-- a place that stays owned where a reference to one is given up: if it is that one, it is still taken
pub still_owned : (p q : ℕ) (held : List Keep) (owned : List ℕ) → 0 < times q (owned_then p held owned)
    → (0 < times q owned) × (q ≡ p → is_taken p (without p held) ≡ true)
still_owned p q held owned =
    cond_both (is_taken p (without p held)) owned (unlisted (p ∷ []) owned)
    (λ xs. 0 < times q xs → (0 < times q owned) × (q ≡ p → is_taken p (without p held) ≡ true))
    (λ t some_left. (some_left, λ e. t))
    (λ t some_left.
    ⊎_elim
    (λ (e : q ≡ p). absurd (omega (arith, some_left, unlisted_in (p ∷ []) q owned (ap (λ b. b || false) (eq-eqb p q (sym e))))))
    (λ (e : q ≢ p). (
      omega (arith, some_left, unlisted_out (p ∷ []) q owned (ap (λ b. b || false) (ne_eqb p q (λ x. e (sym x))))),
      λ same. absurd (e same),
    ))
    (cases_eq q p))

-- links in chains are of places that the pass has still, where no such link is of the place of which it has not
stays_linked : (p : ℕ) (before after : Places) (hooks : List Hook) → is_up p hooks ≡ false
    → ((q : ℕ) → q ≢ p → times q before.owned + times q before.ended ≤ times q after.owned + times q after.ended)
    → Each (IsOwned before) hooks → Each (IsOwned after) hooks
stays_linked p before after [] down others each i h at = absurd (some-ne-none h (sym at))
stays_linked p before after (k ∷ ks) down others each (suc i) h at =
    stays_linked p before after ks (or_parts (place_of k.link == p && k.up) (is_up p ks) down).1 others (λ j m at'. each (suc j) m at') i h at
stays_linked p before after (k ∷ ks) down others each zero h at =
    subst (IsOwned after) (some-injective k h at) (λ up. omega (arith, each 0 k refl up, others (place_of k.link) (elsewhere up)))
  where
    elsewhere : k.up ≡ true → place_of k.link ≢ p
    elsewhere up e =
        false≢true (sym (or_parts (place_of k.link == p && k.up) (is_up p ks) down).0
        ∙ ap (λ b. b && k.up) (eq-eqb (place_of k.link) p e) ∙ up)

-- what stays owned where a reference is given up
owned_else : (p q : ℕ) (held : List Keep) (owned : List ℕ) → q ≢ p → times q (owned_then p held owned) ≡ times q owned
owned_else p q held owned other =
    cond_both (is_taken p (without p held)) owned (unlisted (p ∷ []) owned) (λ xs. times q xs ≡ times q owned) (λ t. refl) (λ t. unlisted_else p q owned other)

-- a reference is given up, and where it was the last of the pass, the hooks with it
pub lowered_lines : (z : Sizes) (l : Ledger) (s : State Slot View) (id p n : ℕ) (v : View) → IsKept z l s → get_elem? s.views id ≡ some v
    → (1 ≤ held_times p v.places.held) → held_times p (let_go_of false p n v).places.held + 1 ≡ held_times p v.places.held
    → ((q : ℕ) → q ≢ p → held_times q (let_go_of false p n v).places.held ≡ held_times q v.places.held) → is_up p v.buckets.hooks ≡ false
    → Lines z l s id v (let_go_of false p n v)
lowered_lines z l s id p n v h at any less others down =
    let hooks = h.links.hooks id v at in
    let still : Each (IsOwned (let_go_of false p n v).places) v.buckets.hooks =
    stays_linked p v.places (let_go_of false p n v).places v.buckets.hooks down (λ q other. omega (arith, owned_else p q v.places.held v.places.owned other)) hooks.linked in
    record {
      shut = refl;
      loose = λ b weight. cond_both (held_times p v.places.held == 1) (filter (λ (h : Hook). not (place_of h.link == p)) v.buckets.hooks) v.buckets.hooks
          (λ xs. total (λ (h : Hook). (if h.up then side z b weight (chain_link h) else 0)) xs ≡ loose_of z b weight v)
          (λ t. loose_kept p (λ (h : Hook). side z b weight (chain_link h)) v.buckets.hooks down) (λ t. refl);
      lone = λ link some_link. omega (
        arith,
        h.chains.lone link some_link,
        total_set (hooks_at link) s.views id v (let_go_of false p n v) at,
        cond_both (held_times p v.places.held == 1) (filter (λ (h : Hook). not (place_of h.link == p)) v.buckets.hooks) v.buckets.hooks
            (λ xs. hooks_of link xs ≤ hooks_of link v.buckets.hooks) (λ t. fewer p link v.buckets.hooks) (λ t. omega arith),
      );
      hooks = cond_both (held_times p v.places.held == 1) (filter (λ (h : Hook). not (place_of h.link == p)) v.buckets.hooks) v.buckets.hooks
          (HasHooks z s.words (let_go_of false p n v).places)
          (λ t. record {
            each = each_left p (IsHook z s.words) v.buckets.hooks hooks.each;
            linked = each_left p (IsOwned (let_go_of false p n v).places) v.buckets.hooks still;
            one = one_fewer v.buckets.hooks (filter (λ (h : Hook). not (place_of h.link == p)) v.buckets.hooks) (λ q e. up_left p q v.buckets.hooks e) hooks.one;
            held = λ link some_hook.
                ⊎_elim
                (λ (e : place_of link ≡ p). absurd (omega (arith, some_hook, none_left p link e v.buckets.hooks)))
                (λ (e : place_of link ≢ p). omega (arith, others (place_of link) e, hooks.held link (omega (arith, some_hook, fewer p link v.buckets.hooks))))
                (cases_eq (place_of link) p);
          })
          (λ t. record {
            each = hooks.each;
            linked = still;
            one = hooks.one;
            held = λ link some_hook.
                ⊎_elim
                (λ (e : place_of link ≡ p).
                subst (λ (x : ℕ). 0 < held_times x (let_go_of false p n v).places.held) (sym e) (two_held (held_times p v.places.held) (held_times p (let_go_of false p n v).places.held) any less t))
                (λ (e : place_of link ≢ p). omega (arith, others (place_of link) e, hooks.held link some_hook))
                (cases_eq (place_of link) p);
          });
      walk = h.walks.each id v at;
    }
  where
    two_held : (m k : ℕ) → 1 ≤ m → k + 1 ≡ m → (m == 1) ≡ false → 0 < k
    two_held m k any less other =
        ⊎_elim
        (λ (e : m ≡ 1). absurd (false≢true (sym other ∙ eq-eqb m 1 e)))
        (λ (e : m ≢ 1). omega (arith, any, less, e))
        (cases_eq m 1)

-- the table's reference is let go, and with it the links of a place whose entry the pass destroyed
pub ended_lines : (z : Sizes) (l : Ledger) (s : State Slot View) (id p n : ℕ) (v : View) → IsKept z l s → get_elem? s.views id ≡ some v
    → is_up p v.buckets.hooks ≡ false → Lines z l s id v (let_go_of true p n v)
ended_lines z l s id p n v h at down =
    let hooks = h.links.hooks id v at in
    let w : View = let_go_of true p n v in
    let left : List Hook = filter (λ (h : Hook). not (place_of h.link == p)) v.buckets.hooks in
    let still : Each (IsOwned w.places) v.buckets.hooks =
    stays_linked p v.places w.places v.buckets.hooks down (λ q other. omega (arith, unlisted_else p q v.places.ended other)) hooks.linked in
    record {
      shut = refl;
      loose = λ b weight. cond_both (is_among p v.places.ended) (filter (λ (h : Hook). not (place_of h.link == p)) v.buckets.hooks) v.buckets.hooks
          (λ xs. total (λ (h : Hook). (if h.up then side z b weight (chain_link h) else 0)) xs ≡ loose_of z b weight v)
          (λ t. loose_kept p (λ (h : Hook). side z b weight (chain_link h)) v.buckets.hooks down) (λ t. refl);
      lone = λ link some_link. omega (
        arith,
        h.chains.lone link some_link,
        total_set (hooks_at link) s.views id v w at,
        cond_both (is_among p v.places.ended) (filter (λ (h : Hook). not (place_of h.link == p)) v.buckets.hooks) v.buckets.hooks
            (λ xs. hooks_of link xs ≤ hooks_of link v.buckets.hooks) (λ t. fewer p link v.buckets.hooks) (λ t. omega arith),
      );
      hooks = cond_both (is_among p v.places.ended) (filter (λ (h : Hook). not (place_of h.link == p)) v.buckets.hooks) v.buckets.hooks
          (HasHooks z s.words w.places)
          (λ t. record {
            each = each_left p (IsHook z s.words) v.buckets.hooks hooks.each;
            linked = each_left p (IsOwned w.places) v.buckets.hooks still;
            one = one_fewer v.buckets.hooks (filter (λ (h : Hook). not (place_of h.link == p)) v.buckets.hooks) (λ q e. up_left p q v.buckets.hooks e) hooks.one;
            held = λ link some_hook. hooks.held link (omega (arith, some_hook, fewer p link v.buckets.hooks));
          })
          (λ t. record { each = hooks.each; linked = still; one = hooks.one; held = hooks.held });
      walk = h.walks.each id v at;
    }
