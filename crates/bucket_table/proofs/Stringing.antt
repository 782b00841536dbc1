-- Links that are put into chains and taken out of them.
use Rattle.std.proofs.Common.{◌≡◌, ◌≢◌, ℕ, ◌-◌, ◌<◌, Bool, true, false, Option, Some, None, List, [], ◌∷◌, map, refl, sym, ap, subst, ◌∙◌, ⊎_elim, inl, inr, arith}
use Rattle.std.specs.Prelude.{◌==◌, ◌&&◌, ◌||◌, not, if◌then◌else◌}
use Rattle.std.specs.List.{list_any}
use Rattle.std.proofs.lemmas.Bool.{and_parts, cases_Bool, cond_both, eq-eqb, eqb-true, false≢true, ne_eqb, or_cases}
use Rattle.std.proofs.Math.Bool.{or-true}
use Rattle.history_book.specs.declared.sizes.Sizes.{Sizes}
use Rattle.track_rule.specs.BucketSteps.{LoadsLink, MayString, Strings, aim, aimed, first_of, lower, put_in, raise, strung, with_chain}
use Rattle.track_rule.specs.Chains.{bucket_of, chain_in, chain_link, shuts_of}
use Rattle.track_rule.specs.Layout.{head_word, place_of, next_word, side_of}
use Rattle.track_rule.specs.Free.{is_among}
use Rattle.track_rule.specs.Links.{hook_of, hooks_of, is_down, is_link_word, is_up}
use Rattle.track_rule.specs.Notes.{link_note}
use Rattle.track_rule.specs.Readings.{found, noted}
use Rattle.track_rule.specs.Sights.{PassSight, sizes_of}
use Rattle.track_rule.specs.Sums.{bit, total}
use Rattle.track_rule.specs.declared.view.Hook.{Hook}
use Rattle.track_rule.specs.declared.view.Shut.{Shut}
use Rattle.track_rule.specs.declared.view.HeldBuckets.{HeldBuckets}
use Rattle.track_rule.specs.declared.view.Reading.{Reading}
use Rattle.track_rule.specs.declared.view.View.{View}
use Rattle.track_rule.specs.declared.view.Walk.{Walk}
use Rattle.bucket_table.specs.LockedChain.{ChangesBuckets, hook_bucket}
use Rattle.bucket_table.proofs.Reading.{More, more_found, more_join, more_own, more_stand, more_stored}

-- hooks of which some change, but not in their links
module _ (f : Hook → Hook) (links : (h : Hook) → (f h).link ≡ h.link) where
  pub hook_map : (x : ℕ) (hooks : List Hook) → 0 < hooks_of x hooks → hook_of x (map f hooks) ≡ f (hook_of x hooks)
  hook_map x [] any = absurd (omega (arith, any))
  hook_map x (h ∷ hs) any =
      ap (λ (k : ℕ). if k == x then f h else hook_of x (map f hs)) (links h)
      ∙ cond_both (h.link == x) h (hook_of x hs) (λ (t : Hook). (if h.link == x then f h else hook_of x (map f hs)) ≡ f t)
      (λ e. ap (λ (b : Bool). if b then f h else hook_of x (map f hs)) e)
      (λ e. ap (λ (b : Bool). if b then f h else hook_of x (map f hs)) e ∙ hook_map x hs (omega (arith, any, ap bit e)))

  pub count_map : (x : ℕ) (hooks : List Hook) → hooks_of x (map f hooks) ≡ hooks_of x hooks
  count_map x [] = refl
  count_map x (h ∷ hs) = omega (arith, ap (λ (k : ℕ). bit (k == x)) (links h), count_map x hs)

  -- a test of the hooks at a link that the change leaves
  pub test_map : (t : Hook → Bool) (x : ℕ) → ((h : Hook) → h.link ≡ x → t (f h) ≡ t h) → (hooks : List Hook)
      → list_any (λ (h : Hook). h.link == x && t h) (map f hooks) ≡ list_any (λ (h : Hook). h.link == x && t h) hooks
  test_map t x same [] = refl
  test_map t x same (h ∷ hs) =
      let rest = test_map t x same hs in
      ap (λ (k : ℕ). (k == x && t (f h)) || list_any (λ (h : Hook). h.link == x && t h) (map f hs)) (links h)
      ∙ one (h.link == x) (t (f h)) (t h) (λ e. same h (eqb-true h.link x e)) rest
    where
      one : (b c d : Bool) → (b ≡ true → c ≡ d)
          → list_any (λ (h : Hook). h.link == x && t h) (map f hs) ≡ list_any (λ (h : Hook). h.link == x && t h) hs
          → ((b && c) || list_any (λ (h : Hook). h.link == x && t h) (map f hs)) ≡ ((b && d) || list_any (λ (h : Hook). h.link == x && t h) hs)
      one true c d e rest = (λ i. e refl i || rest i)
      one false c d e rest = rest

pub aim_link : (x to : ℕ) (h : Hook) → (aim x to h).link ≡ h.link
aim_link x to h = cond_both (h.link == x) (record h { next = Some to }) h (λ (t : Hook). t.link ≡ h.link) (λ e. refl) (λ e. refl)

aim_up : (x to : ℕ) (h : Hook) → (aim x to h).up ≡ h.up
aim_up x to h = cond_both (h.link == x) (record h { next = Some to }) h (λ (t : Hook). t.up ≡ h.up) (λ e. refl) (λ e. refl)

aim_same : (x to : ℕ) (h : Hook) → chain_link (aim x to h) ≡ chain_link h
aim_same x to h = cond_both (h.link == x) (record h { next = Some to }) h (λ (t : Hook). chain_link t ≡ chain_link h) (λ e. refl) (λ e. refl)

pub raise_link : (x : ℕ) (h : Hook) → (raise x h).link ≡ h.link
raise_link x h = cond_both (h.link == x) (record h { next = None; up = true }) h (λ (t : Hook). t.link ≡ h.link) (λ e. refl) (λ e. refl)

pub lower_link : (x : ℕ) (h : Hook) → (lower x h).link ≡ h.link
lower_link x h = cond_both (h.link == x) (record h { next = None; up = false }) h (λ (t : Hook). t.link ≡ h.link) (λ e. refl) (λ e. refl)

-- another hook does not change
pub raise_else : (x : ℕ) (h : Hook) → h.link ≢ x → raise x h ≡ h
raise_else x h other = ap (λ (t : Bool). if t then record h { next = None; up = true } else h) (ne_eqb h.link x other)

pub lower_else : (x : ℕ) (h : Hook) → h.link ≢ x → lower x h ≡ h
lower_else x h other = ap (λ (t : Bool). if t then record h { next = None; up = false } else h) (ne_eqb h.link x other)

-- aiming a link puts none into a chain
up_aimed : (x to q : ℕ) (hooks : List Hook) → is_up q (map (aim x to) hooks) ≡ is_up q hooks
up_aimed x to q [] = refl
up_aimed x to q (h ∷ hs) = (λ i. (place_of (aim_link x to h i) == q && aim_up x to h i) || up_aimed x to q hs i)

-- and raising it none of another place
pub raised_alone : (x p q : ℕ) (hooks : List Hook) → place_of x ≡ p → (is_up q hooks ≡ true → q ≡ p) → is_up q (map (raise x) hooks) ≡ true → q ≡ p
raised_alone x p q [] here alone e = alone e
raised_alone x p q (h ∷ hs) here alone e =
    ⊎_elim
    (λ (t : (place_of (raise x h).link == q && (raise x h).up) ≡ true).
    cond_both (h.link == x) (record h { next = None; up = true }) h (λ (k : Hook). (place_of k.link == q && k.up) ≡ true → q ≡ p)
    (λ same u. sym (eqb-true (place_of h.link) q (and_parts (place_of h.link == q) true u).0) ∙ ap place_of (eqb-true h.link x same) ∙ here)
    (λ other u. alone (ap (λ (b : Bool). b || is_up q hs) u))
    t)
    (λ (t : is_up q (map (raise x) hs) ≡ true).
    raised_alone x p q hs here
    (λ u. alone (ap (λ (b : Bool). (place_of h.link == q && h.up) || b) u ∙ or-true (place_of h.link == q && h.up))) t)
    (or_cases (place_of (raise x h).link == q && (raise x h).up) (is_up q (map (raise x) hs)) e)

-- a hook that passes a test is there
pub some_there : (t : Hook → Bool) (x : ℕ) (hooks : List Hook) → list_any (λ (h : Hook). h.link == x && t h) hooks ≡ true → 0 < hooks_of x hooks
some_there t x [] e = absurd (false≢true e)
some_there t x (h ∷ hs) e =
    ⊎_elim
    (λ (f : (h.link == x && t h) ≡ true). omega (arith, ap bit (and_parts (h.link == x) (t h) f).0))
    (λ (f : (h.link == x && t h) ≡ false). omega (arith, some_there t x hs (sym (ap (λ (k : Bool). k || list_any (λ (h : Hook). h.link == x && t h) hs) f) ∙ e)))
    (cases_Bool (h.link == x && t h))

pub hook_is_at : (x : ℕ) (hooks : List Hook) → 0 < hooks_of x hooks → (hook_of x hooks).link ≡ x
hook_is_at x [] any = absurd (omega (arith, any))
hook_is_at x (h ∷ hs) any =
    cond_both (h.link == x) h (hook_of x hs) (λ (t : Hook). t.link ≡ x) (λ e. eqb-true h.link x e) (λ e. hook_is_at x hs (omega (arith, any, ap bit e)))

-- aiming a link before it is put in leaves nothing
raise_aim : (x to : ℕ) (hooks : List Hook) → map (raise x) (map (aim x to) hooks) ≡ map (raise x) hooks
raise_aim x to [] = refl
raise_aim x to (h ∷ hs) = (λ i. one (h.link == x) refl i ∷ raise_aim x to hs i)
  where
    one : (b : Bool) → h.link == x ≡ b → raise x (aim x to h) ≡ raise x h
    one true e =
        ap (raise x) (ap (λ (t : Bool). if t then record h { next = Some to } else h) e)
        ∙ ap (λ (t : Bool). if t then record h { next = None; up = true } else record h { next = Some to }) e
        ∙ sym (ap (λ (t : Bool). if t then record h { next = None; up = true } else h) e)
    one false e = ap (raise x) (ap (λ (t : Bool). if t then record h { next = Some to } else h) e)

pub put_aimed : (b x to : ℕ) (s : HeldBuckets) → 0 < hooks_of x s.hooks → put_in b x (aimed x to s) ≡ put_in b x s
put_aimed b x to s any = (λ i. record {
  shut = with_chain b ((ap chain_link (hook_map (aim x to) (aim_link x to) x s.hooks any) ∙ aim_same x to (hook_of x s.hooks)) i ∷ chain_in b s.shut) s.shut;
  hooks = raise_aim x to s.hooks i;
})

-- after the head was loaded and the link aimed at it, the link may be put in
pub put_may : (z : Sizes) (b x first head word : ℕ) (v u w : PassSight) → z ≡ sizes_of v → b < (sizes_of v).buckets → head ≡ head_word z b → word ≡ next_word z x
    → LoadsLink head v.view first u.view → u ≡ record v { view = u.view } → Strings word first u.view w.view
    → 0 < shuts_of b v.view → is_down x v.view.buckets.hooks ≡ true → hook_bucket (sizes_of v) x v.view.buckets.hooks ≡ b
    → is_among (place_of x) v.view.places.owned ≡ true → (side_of x ≡ 1 → is_down (x - 1) v.view.buckets.hooks ≡ true)
    → ((q : ℕ) → is_up q v.view.buckets.hooks ≡ true → q ≡ place_of x)
    → MayString head x w.view × (w.view.buckets ≡ aimed x first v.view.buckets)
put_may z b x first head word v u w sizes below head_is word_is loads kept strings mine down placed owned before alone =
    let z' : sizes_of u ≡ sizes_of v = ap sizes_of kept ∙ ap (λ (k : View). k.passes.sizes) loads.view in
    let buckets : u.view.buckets ≡ v.view.buckets = ap (λ (k : View). k.buckets) loads.view in
    let aims : w.view ≡ strung word first (aimed x first u.view.buckets) u.view =
    strings.aims x (subst (λ (s : HeldBuckets). is_down x s.hooks ≡ true) (sym buckets) down) (word_is ∙ ap (λ (y : Sizes). next_word y x) (sizes ∙ sym z')) in
    let now : w.view.buckets ≡ aimed x first v.view.buckets = ap (λ (k : View). k.buckets) aims ∙ ap (aimed x first) buckets in
    let z'' : w.view.passes.sizes ≡ sizes_of v = ap (λ (k : View). k.passes.sizes) aims ∙ z' in
    let any : 0 < hooks_of x v.view.buckets.hooks = some_there (λ (h : Hook). not h.up) x v.view.buckets.hooks down in
    let hook : hook_of x (map (aim x first) v.view.buckets.hooks) ≡ aim x first (hook_of x v.view.buckets.hooks) = hook_map (aim x first) (aim_link x first) x v.view.buckets.hooks any in
    let entry = ap chain_link hook ∙ aim_same x first (hook_of x v.view.buckets.hooks) in
    let is_first : first ≡ first_of (chain_in b v.view.buckets.shut) =
    loads.next b [] (chain_in b v.view.buckets.shut) below (record { mine = mine; all = refl }) (head_is ∙ ap (λ (y : Sizes). head_word y b) sizes) in (
      inr (inl (record {
        bucket = b;
        below = subst (λ (y : Sizes). b < y.buckets) (sym z'') below;
        mine = subst (λ (s : HeldBuckets). 0 < total (λ (k : Shut). bit (k.bucket == b)) s.shut) (sym now) mine;
        word_is = head_is ∙ ap (λ (y : Sizes). head_word y b) (sizes ∙ sym z'');
        down = subst (λ (s : HeldBuckets). is_down x s.hooks ≡ true) (sym now)
            (test_map (aim x first) (aim_link x first) (λ (h : Hook). not h.up) x (λ h e. ap not (aim_up x first h)) v.view.buckets.hooks ∙ down);
        next = subst (λ (s : HeldBuckets). (hook_of x s.hooks).next ≡ Some (first_of (chain_in b s.shut))) (sym now)
            (ap (λ (h : Hook). h.next) hook
            ∙ ap (λ (t : Bool). (if t then record (hook_of x v.view.buckets.hooks) { next = Some first } else hook_of x v.view.buckets.hooks).next)
            (eq-eqb (hook_of x v.view.buckets.hooks).link x (hook_is_at x v.view.buckets.hooks any))
            ∙ ap (λ (n : ℕ). Some n) is_first);
        placed = subst (λ (s : HeldBuckets). bucket_of w.view.passes.sizes (hook_of x s.hooks).pair ≡ b) (sym now)
            ((λ i. bucket_of (z'' i) (entry i).pair) ∙ placed);
        owned = ap (λ (k : View). is_among (place_of x) k.places.owned) aims ∙ ap (λ (k : View). is_among (place_of x) k.places.owned) loads.view ∙ owned;
        before = λ reply. subst (λ (s : HeldBuckets). is_down (x - 1) s.hooks ≡ true) (sym now)
            (test_map (aim x first) (aim_link x first) (λ (h : Hook). not h.up) (x - 1) (λ h e. ap not (aim_up x first h)) v.view.buckets.hooks ∙ before reply);
        alone = λ q up. alone q (sym (up_aimed x first q v.view.buckets.hooks) ∙ subst (λ (s : HeldBuckets). is_up q s.hooks ≡ true) now up);
      })),
      now,
    )

-- the note and the readings are those that are there
pub stand_frame : (v y : View) (buckets : HeldBuckets) (walk : Option Walk) (rs : List Reading) → y ≡ record v { buckets = buckets; walk = walk; readings = rs }
    → y ≡ record v { buckets = buckets; walk = y.walk; readings = y.readings }
stand_frame v y buckets walk rs e =
    e ∙ (λ i. record v { buckets = buckets; walk = sym (ap (λ (k : View). k.walk) e) i; readings = sym (ap (λ (k : View). k.readings) e) i })

-- and then it is
pub put_done : (z : Sizes) (b x first head word : ℕ) (v u w y : PassSight) → is_link_word z head ≡ true → is_link_word z word ≡ true → z ≡ sizes_of v → b < (sizes_of v).buckets → head ≡ head_word z b → word ≡ next_word z x
    → LoadsLink head v.view first u.view → u ≡ record v { view = u.view } → Strings word first u.view w.view → w ≡ record u { view = w.view }
    → 0 < shuts_of b v.view → is_down x v.view.buckets.hooks ≡ true → hook_bucket (sizes_of v) x v.view.buckets.hooks ≡ b
    → is_among (place_of x) v.view.places.owned ≡ true → (side_of x ≡ 1 → is_down (x - 1) v.view.buckets.hooks ≡ true)
    → ((q : ℕ) → is_up q v.view.buckets.hooks ≡ true → q ≡ place_of x)
    → Strings head x w.view y.view → y ≡ record w { view = y.view }
    → ChangesBuckets (put_in b x v.view.buckets) v y
put_done z b x first head word v u w y link link' sizes below head_is word_is loads kept strings kept' mine down placed owned before alone strings' kept'' =
    let may = put_may z b x first head word v u w sizes below head_is word_is loads kept strings mine down placed owned before alone in
    let z' : sizes_of u ≡ sizes_of v = ap sizes_of kept ∙ ap (λ (k : View). k.passes.sizes) loads.view in
    let buckets : u.view.buckets ≡ v.view.buckets = ap (λ (k : View). k.buckets) loads.view in
    let any : 0 < hooks_of x v.view.buckets.hooks = some_there (λ (h : Hook). not h.up) x v.view.buckets.hooks down in
    let aims : w.view ≡ strung word first w.view.buckets u.view = strings.same in
    let z'' : w.view.passes.sizes ≡ sizes_of v = ap (λ (k : View). k.passes.sizes) aims ∙ z' in
    let down' : is_down x w.view.buckets.hooks ≡ true =
    subst (λ (s : HeldBuckets). is_down x s.hooks ≡ true) (sym may.1)
    (test_map (aim x first) (aim_link x first) (λ (h : Hook). not h.up) x (λ h e. ap not (aim_up x first h)) v.view.buckets.hooks ∙ down) in
    let puts : y.view ≡ strung head x (put_in b x w.view.buckets) w.view =
    strings'.puts b (subst (λ (k : Sizes). b < k.buckets) (sym z'') below) (head_is ∙ ap (λ (k : Sizes). head_word k b) (sizes ∙ sym z'')) down' in
    let now : put_in b x w.view.buckets ≡ put_in b x v.view.buckets = ap (put_in b x) may.1 ∙ put_aimed b x first v.view.buckets any in
    let whole : y.view ≡ strung head x (put_in b x v.view.buckets) (strung word first w.view.buckets (noted (found head first) (record v.view { walk = link_note (sizes_of v) head first v.view.walk }))) =
    puts ∙ ap (λ (k : HeldBuckets). strung head x k w.view) now
    ∙ ap (strung head x (put_in b x v.view.buckets)) (aims ∙ ap (strung word first w.view.buckets) loads.view) in
    let link_head : not (is_link_word (sizes_of v) head) ≡ false = ap (λ (k : Sizes). not (is_link_word k head)) (sym sizes) ∙ ap not link in
    let link_word : not (is_link_word (sizes_of v) word) ≡ false = ap (λ (k : Sizes). not (is_link_word k word)) (sym sizes) ∙ ap not link' in
    let more : More (λ k. not (is_link_word (sizes_of v) k)) v.view.readings y.view.readings =
    more_join (λ k. not (is_link_word (sizes_of v) k)) v.view.readings u.view.readings y.view.readings
    (more_found (λ k. not (is_link_word (sizes_of v) k)) head first v.view.readings u.view.readings (ap (λ (k : View). k.readings) loads.view))
    (more_join (λ k. not (is_link_word (sizes_of v) k)) u.view.readings w.view.readings y.view.readings
    (more_stored (λ k. not (is_link_word (sizes_of v) k)) word first u.view.readings w.view.readings link_word (ap (λ (k : View). k.readings) aims))
    (more_stored (λ k. not (is_link_word (sizes_of v) k)) head x w.view.readings y.view.readings link_head (ap (λ (k : View). k.readings) puts))) in
    record {
      stand = more_stand (λ k. not (is_link_word (sizes_of v) k)) v.view.readings y.view.readings more;
      own = more_own (λ k. not (is_link_word (sizes_of v) k)) v.view.readings y.view.readings more;
      same = kept'' ∙ ap (λ (k : PassSight). record k { view = y.view }) (kept' ∙ ap (λ (k : PassSight). record k { view = w.view }) kept)
          ∙ ap (λ (k : View). record v { view = k }) (stand_frame v.view y.view (put_in b x v.view.buckets) _ _ whole);
    }
