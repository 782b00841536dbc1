-- A load, and taking the turn, keep the rule.
use Rattle.std.proofs.Common.{◌≡◌, ◌≢◌, ℕ, ◌+◌, ◌-◌, ◌*◌, ◌/◌, ◌%◌, ◌^◌, ◌<◌, ◌≤◌, suc, eqb, true, Bool, List, [], ◌∷◌, length, refl, sym, ap, subst, ◌∙◌, ⊎_elim, arith, set, Option, Some, append-nil, eq-eqb, ne_eqb}
use Rattle.std.specs.Prelude.{slice_index, slice_set}
use Rattle.std.proofs.lemmas.Bool.{cases_lt}
use mathlib.Core.Option.{some, none}
use lib.ListN.{get_elem?}
use prog.Atomic.{either}
use Rattle.atomic_table.specs.Table.{Act, Allows, State, Valid, carried_after, keeps, step, stepped, takes}
use Rattle.atomic_table.proofs.Lists.{exchanged, set_again}
use Rattle.history_book.specs.declared.event.Event.{Event}
use Rattle.history_book.specs.declared.event.Note.{Note}
use Rattle.history_book.specs.declared.sizes.Sizes.{Sizes}
use Rattle.history_book.specs.History.{is_legal}
use Rattle.history_book.specs.Sight.{notes_from}
use Rattle.history_book.specs.State.{State as Live}
use Rattle.book_desk.specs.declared.book.Book.{Book}
use Rattle.book_desk.specs.declared.turn.view.TurnView.{TurnView}
use Rattle.book_desk.specs.Turn.Passes.{ArePasses, IsPass, IsSpent, has_share, made_weight, shares_of}
use Rattle.book_desk.specs.Turn.Places.{AreOfPasses}
use Rattle.book_desk.specs.Turn.Rule.{Holds, IsKept, packed, turn_of}
use Rattle.book_desk.specs.Turn.Steps.{AreAll, HasTurn, Loads, Takes, TakesOrNot, events_in, live_in}
use Rattle.book_desk.specs.Turn.Sums.{Each, total}
use Rattle.book_desk.proofs.Passes.Sums.{each_other, each_put, length_total, total_add, total_gap, total_only, total_same, total_set, total_term, total_times, total_two}

-- the parts of the word
word_events : (t e l : ℕ) → t ≤ 1 → e < 2 ^ 40 → (t + 2 * (e + 2 ^ 40 * l)) / 2 % 2 ^ 40 ≡ e
word_events t e l low few = omega arith

word_live : (t e l : ℕ) → t ≤ 1 → e < 2 ^ 40 → (t + 2 * (e + 2 ^ 40 * l)) / 2 / 2 ^ 40 ≡ l
word_live t e l low few = omega arith

-- as many notes as events
pub length-notes : (k : ℕ) (es : List Event) → length (notes_from k es) ≡ length es
length-notes k [] = refl
length-notes k (e ∷ es) = ap suc (length-notes (k + 1) es)

module _ (z : Sizes) (log : List Event) (vs : List TurnView) (h : ArePasses z log vs) where
  -- a pass makes and gathers so many events at most
  pass_few : Each (λ v. made_weight (λ n. 1) v ≤ 2 ^ 30 * shares_of v) vs
  pass_few i v at =
      let p : IsPass z log v = h.each i v at in
      ⊎_elim
      (λ (e : 0 < v.shares). omega (arith, p.own_few, p.gathered_few, length_total v.own, length_total v.gathered, e))
      (λ (e : v.shares ≤ 0).
      omega (arith, ap length (p.spent (omega (arith, e))).own, p.gathered_few, length_total v.own, length_total v.gathered))
      (cases_lt 0 v.shares)

  -- so there are few of them, and room for those that this pass may still make
  pub few_events : (i : ℕ) (v : TurnView) → get_elem? vs i ≡ some v → 0 < v.shares → length log + (2 ^ 30 - length v.own) ≤ 2 ^ 30 * z.passes
  few_events i v at some_shares =
      let p : IsPass z log v = h.each i v at in
      let all = h.made (λ (n : Note). 1) in
      let gap = total_gap (made_weight (λ n. 1)) (λ u. 2 ^ 30 * shares_of u) vs i v at pass_few in
      omega (
        arith,
        all,
        gap,
        length_total (notes_from 0 log),
        length-notes 0 log,
        length_total v.own,
        length_total v.gathered,
        p.own_few,
        p.gathered_few,
        total_times (2 ^ 30) shares_of vs,
        h.all,
        some_shares,
      )

  -- no other pass has a share where there is one
  pub only_pass : z.passes ≡ 1 → (i j : ℕ) (v u : TurnView) → get_elem? vs i ≡ some v → 0 < v.shares → get_elem? vs j ≡ some u → j ≢ i → u.shares ≡ 0
  only_pass one i j v u at some_shares at' other =
      omega (arith, one, h.all, some_shares, total_two shares_of vs i j v u at at' other)

-- a pass sees the whole history
pass_front : (z : Sizes) (log : List Event) (v : TurnView) → IsPass z log v → IsPass z log (record v { front = log })
pass_front z log v p = record {
  front = ([], sym (append-nil log));
  told = p.told;
  own = p.own;
  ordered = p.ordered;
  own_few = p.own_few;
  gathered = p.gathered;
  gathered_few = p.gathered_few;
  below = p.below;
  sized = p.sized;
  alone = p.alone;
  spent = λ none. record {
    own = (p.spent none).own;
    gathered = (p.spent none).gathered;
    held = (p.spent none).held;
    owed = (p.spent none).owed;
    turn = (p.spent none).turn;
  };
}

module _ (z : Sizes) (log : List Event) (b : Book) (s : State (Option Book) TurnView) (kept : IsKept z log b s) where
  -- what the pass sees then
  sees : (i : ℕ) (v : TurnView) → get_elem? s.views i ≡ some v → 0 < v.shares → AreAll v log
  sees i v at some_shares =
      let p : IsPass z log v = kept.passes.each i v at in
      let sized : v.sizes ≡ z = p.sized some_shares in
      record {
        front = p.front;
        told = p.told;
        legal = subst (λ (y : Sizes). is_legal y log ≡ true) (kept.sizes ∙ sym sized) kept.book.history.legal;
        few = omega (arith, few_events z log s.views kept.passes i v at some_shares, ap (λ (y : Sizes). y.passes) sized);
        passes = omega (arith, kept.book.limits.passes, ap (λ (y : Sizes). y.passes) kept.sizes, ap (λ (y : Sizes). y.passes) sized);
        shares = omega (arith, total_term shares_of s.views i v at, kept.passes.all, ap (λ (y : Sizes). y.passes) sized);
        alone = λ one. p.alone (sym (ap (λ (y : Sizes). y.passes) sized) ∙ one) some_shares;
      }

  -- there are fewer events than the word can count
  few : (i : ℕ) (v : TurnView) → get_elem? s.views i ≡ some v → 0 < v.shares → b.events < 2 ^ 40
  few i v at some_shares =
      omega (
        arith,
        few_events z log s.views kept.passes i v at some_shares,
        kept.book.events,
        kept.book.limits.passes,
        ap (λ (y : Sizes). y.passes) kept.sizes,
      )

  found_word : slice_index s.words 0 ≡ packed (total turn_of s.views) b
  found_word = ap (λ ws. slice_index ws 0) kept.words

  same_words : slice_set s.words 0 (slice_index s.words 0) ≡ s.words
  same_words = subst (λ (ws : List ℕ). slice_set ws 0 (slice_index ws 0) ≡ ws) (sym kept.words) refl

-- a view that changes in its front, its turn and its book alone
record Differs (v w : TurnView) : Type 0 where
  pub number : w.number ≡ v.number
  pub shares : w.shares ≡ v.shares
  pub returned : w.returned ≡ v.returned
  pub own : w.own ≡ v.own
  pub gathered : w.gathered ≡ v.gathered
  pub held : w.held ≡ v.held
  pub owed : w.owed ≡ v.owed

passes_moved : (z : Sizes) (log : List Event) (vs : List TurnView) (i : ℕ) (v w : TurnView) → get_elem? vs i ≡ some v → Differs v w → IsPass z log w
    → ArePasses z log vs → ArePasses z log (set vs i w)
passes_moved z log vs i v w at d p h = record {
  each = each_put (IsPass z log) vs i w h.each p;
  apart = λ n. omega (arith, h.apart n, total_same (has_share n) vs i v w at (λ k. has_share n (record v { number = d.number k; shares = d.shares k })));
  all = total_same shares_of vs i v w at (λ k. d.shares k + d.returned k) ∙ h.all;
  made = λ weight. h.made weight ∙ sym (total_same (made_weight weight) vs i v w at (λ k. total weight (d.own k) + total weight (d.gathered k)));
}

places_moved : (b : Book) (vs : List TurnView) (i : ℕ) (v w : TurnView) → get_elem? vs i ≡ some v → Differs v w → AreOfPasses b vs → AreOfPasses b (set vs i w)
places_moved b vs i v w at d h = record {
  held = λ weight. h.held weight ∙ sym (total_same (λ u. total weight u.held) vs i v w at (ap (total weight) d.held));
  owed = λ weight. h.owed weight ∙ sym (total_same (λ u. total weight u.owed) vs i v w at (ap (total weight) d.owed));
  few = each_put (λ u. length u.held + length u.owed ≤ 4) vs i w h.few (omega (arith, h.few i v at, ap length d.held, ap length d.owed));
}

-- a load keeps the rule, and tells the whole history
pub loads : (z : Sizes) (slots id : ℕ) (v : TurnView) → 0 < v.shares → Allows (Holds z) slots id (v, []) 0 (λ n. n) (Loads (step slots 0 0 0 none) (v, []))
loads z slots id v some_shares s (log, b, kept) sized at range =
    let w : TurnView = record v { front = log } in
    let d : Differs v w = record { number = refl; shares = refl; returned = refl; own = refl; gathered = refl; held = refl; owed = refl } in
    let turns : total turn_of (set s.views id w) ≡ total turn_of s.views = total_same turn_of s.views id v w at refl in (
      w,
      keeps,
      tt,
      (
        log,
        b,
        record {
          book = kept.book;
          sizes = kept.sizes;
          words = same_words z log b s kept ∙ kept.words ∙ ap (λ (t : ℕ). packed t b ∷ []) (sym turns);
          single = omega (arith, kept.single, turns);
          home = λ none_has. kept.home (omega (arith, none_has, turns));
          away = each_put (λ u. u.turn ≡ 1 → (u.book ≡ Some b) × (u.front ≡ log)) s.views id w kept.away (λ has. ((kept.away id v at has).0, refl));
          passes = passes_moved z log s.views id v w at d (pass_front z log v (kept.passes.each id v at)) kept.passes;
          places = places_moved b s.views id v w at d kept.places;
        },
      ),
      (
        record {
          same = refl;
          all = sees z log b s kept id v at some_shares;
          events = ap events_in (found_word z log b s kept)
              ∙ word_events (total turn_of s.views) b.events (length b.records.items) kept.single (few z log b s kept id v at some_shares)
              ∙ kept.book.events;
          live = ap live_in (found_word z log b s kept)
              ∙ word_live (total turn_of s.views) b.events (length b.records.items) kept.single (few z log b s kept id v at some_shares)
              ∙ ap (λ (t : Live). length t.records) kept.book.history.state;
        },
        refl,
      ),
    )

-- a pass that takes the turn
pass_turn : (z : Sizes) (log : List Event) (b : Book) (v : TurnView) → 0 < v.shares → IsPass z log v
    → IsPass z log (record v { turn = 1; front = log; book = Some b })
pass_turn z log b v some_shares p = record {
  front = ([], sym (append-nil log));
  told = p.told;
  own = p.own;
  ordered = p.ordered;
  own_few = p.own_few;
  gathered = p.gathered;
  gathered_few = p.gathered_few;
  below = p.below;
  sized = p.sized;
  alone = p.alone;
  spent = λ none_left. absurd (omega (arith, none_left, some_shares));
}

-- the turn is free where the word is even
even_free : (t x old : ℕ) → t ≤ 1 → t + 2 * x ≡ old → old % 2 ≡ 0 → t ≡ 0
even_free t x old low same even = omega arith

module _ (z : Sizes) (log : List Event) (b : Book) (s : State (Option Book) TurnView) (kept : IsKept z log b s) where
  -- what the pass knows that took the turn
  has_turn : (i : ℕ) (v : TurnView) → get_elem? s.views i ≡ some v → 0 < v.shares → HasTurn v log b
  has_turn i v at some_shares =
      let p : IsPass z log v = kept.passes.each i v at in
      let sized : v.sizes ≡ z = p.sized some_shares in
      let passes : v.sizes.passes ≡ z.passes = ap (λ (y : Sizes). y.passes) sized in
      let nobody : v.sizes.passes ≡ 1 → Each (λ u. shares_of u ≡ 0 → (u.held ≡ []) × (u.owed ≡ [])) s.views =
      λ one j u at' none_left. let sp : IsSpent u = (kept.passes.each j u at').spent (omega (arith, none_left)) in (sp.held, sp.owed) in
      let whole : v.sizes.passes ≡ 1 → total shares_of s.views ≡ shares_of v =
      λ one. omega (arith, kept.passes.all, one, passes, some_shares, total_term shares_of s.views i v at) in
      record {
        all = sees z log b s kept i v at some_shares;
        book = kept.book;
        sizes = kept.sizes ∙ sym sized;
        held = λ weight. omega (arith, kept.places.held weight, total_term (λ u. total weight u.held) s.views i v at);
        owed = λ weight. omega (arith, kept.places.owed weight, total_term (λ u. total weight u.owed) s.views i v at);
        crowd =
            let kept_by : TurnView → ℕ = λ u. total (λ k. 1) u.held + total (λ k. 1) u.owed in
            let gap = total_gap kept_by (λ u. 4 * shares_of u) s.views i v at (kept_few z log b s kept) in
            omega (
              arith,
              gap,
              kept.places.held (λ k. 1),
              kept.places.owed (λ k. 1),
              length_total b.holds.items,
              length_total b.owed.items,
              length_total v.held,
              length_total v.owed,
              total_add (λ u. total (λ k. 1) u.held) (λ u. total (λ k. 1) u.owed) s.views,
              total_times 4 shares_of s.views,
              kept.passes.all,
              passes,
              some_shares,
            );
        only_held = λ one weight. kept.places.held weight ∙ total_only (λ u. total weight u.held) shares_of s.views i v at (whole one)
            (λ j u at' none_left. ap (total weight) (nobody one j u at' none_left).0);
        only_owed = λ one weight. kept.places.owed weight ∙ total_only (λ u. total weight u.owed) shares_of s.views i v at (whole one)
            (λ j u at' none_left. ap (total weight) (nobody one j u at' none_left).1);
      }
    where
      kept_few : (z : Sizes) (log : List Event) (b : Book) (s : State (Option Book) TurnView) → IsKept z log b s
          → Each (λ u. total (λ k. 1) u.held + total (λ k. 1) u.owed ≤ 4 * shares_of u) s.views
      kept_few z log b s kept j u at =
          ⊎_elim
          (λ (e : 0 < u.shares). omega (arith, e, kept.places.few j u at, length_total u.held, length_total u.owed))
          (λ (e : u.shares ≤ 0).
          let sp : IsSpent u = (kept.passes.each j u at).spent (omega (arith, e)) in
          omega (arith, ap length sp.held, ap length sp.owed, length_total u.held, length_total u.owed))
          (cases_lt 0 u.shares)

  -- taking the turn where it is free keeps the rule
  turn_taken : (i old : ℕ) (v : TurnView) → get_elem? s.views i ≡ some v → 0 < v.shares → slice_index s.words 0 ≡ old → old % 2 ≡ 0
      → (get_elem? s.homes 0 ≡ some (some (Some b)))
      × IsKept z log b (stepped s 0 (old + 1) i [] (record v { turn = 1; front = log; book = Some b }) (takes 0 (Some b)))
  turn_taken i old v at some_shares found even =
      let w : TurnView = record v { turn = 1; front = log; book = Some b } in
      let d : Differs v w = record { number = refl; shares = refl; returned = refl; own = refl; gathered = refl; held = refl; owed = refl } in
      let word : packed (total turn_of s.views) b ≡ old = sym (found_word z log b s kept) ∙ found in
      let free : total turn_of s.views ≡ 0 =
      even_free (total turn_of s.views) (b.events + 2 ^ 40 * length b.records.items) old kept.single word even in
      let before : turn_of v ≡ 0 = omega (arith, free, total_term turn_of s.views i v at) in
      let turns : total turn_of (set s.views i w) ≡ 1 = omega (arith, free, before, total_set turn_of s.views i v w at) in (
        kept.home free,
        record {
          book = kept.book;
          sizes = kept.sizes;
          words = subst (λ (ws : List ℕ). slice_set ws 0 (old + 1) ≡ packed (total turn_of (set s.views i w)) b ∷ []) (sym kept.words)
              (ap (λ (n : ℕ). n ∷ []) (omega (arith, word, free, turns)));
          single = omega (arith, turns);
          home = λ none_has. absurd (omega (arith, none_has, turns));
          away = each_other (λ u. u.turn ≡ 1 → (u.book ≡ Some b) × (u.front ≡ log)) s.views i w
              (λ j u other at' has. absurd (omega (arith, has, free, total_term turn_of s.views j u at'))) (λ has. (refl, refl));
          passes = passes_moved z log s.views i v w at d (pass_turn z log b v some_shares (kept.passes.each i v at)) kept.passes;
          places = places_moved b s.views i v w at d kept.places;
        },
      )

-- taking the turn keeps the rule; where the word is another one nothing changes
pub taking : (z : Sizes) (slots id old : ℕ) (v : TurnView) → 0 < v.shares → old % 2 ≡ 0
    → Allows (Holds z) slots id (v, []) 0 (λ n. either (eqb n old) (old + 1) n) (Takes (step slots 0 old (old + 1) none) (v, []))
taking z slots id old v some_shares even s (log, b, kept) sized at range =
    exchanged (slice_index s.words 0) old (old + 1)
    (λ (n : ℕ). (w : TurnView) × (a : Act (Option Book)) × Valid s.homes [] a × Holds z (stepped s 0 n id [] w a)
    × Takes (step slots 0 old (old + 1) none) (v, []) (slice_index s.words 0) (w, carried_after [] a))
    (λ (hit : slice_index s.words 0 ≡ old).
    let t = turn_taken z log b s kept id old v at some_shares hit even in
    let w : TurnView = record v { turn = 1; front = log; book = Some b } in (
      w,
      takes 0 (Some b),
      t.0,
      (log, b, t.1),
      subst (λ (x : Bool). TakesOrNot x (v, []) (w, (0, Some b) ∷ [])) (sym (eq-eqb (slice_index s.words 0) old hit)) (log, b, has_turn z log b s kept id v at some_shares, refl),
    ))
    (λ (miss : slice_index s.words 0 ≢ old). (
      v,
      keeps,
      tt,
      (log, b, subst (IsKept z log b) (same_state s id v at (same_words z log b s kept)) kept),
      subst (λ (x : Bool). TakesOrNot x (v, []) (v, [])) (sym (ne_eqb (slice_index s.words 0) old miss)) refl,
    ))
  where
    same_state : (s : State (Option Book) TurnView) (i : ℕ) (v : TurnView) → get_elem? s.views i ≡ some v → slice_set s.words 0 (slice_index s.words 0) ≡ s.words
        → s ≡ stepped s 0 (slice_index s.words 0) i [] v keeps
    same_state s i v at words k = record { words = sym words k; homes = s.homes; views = sym (set_again s.views i v at) k }
