-- A pass that is split, two that are joined, and the first one, keep the rule.
use Rattle.std.proofs.Common.{◌≡◌, ℕ, ◌+◌, ◌-◌, ◌<◌, ◌≤◌, zero, suc, List, [], ◌∷◌, ◌++◌, length, refl, sym, ap, subst, ◌∙◌, arith, set, Option, Some, length-append}
use Rattle.std.specs.List.{slice_get}
use Rattle.std.specs.Prelude.{◌&&◌, nat_le, nat_lt, if◌then◌else◌}
use Rattle.std.proofs.lemmas.Bool.Decides.{nat_tests}
use Rattle.std.proofs.lemmas.List.Elements.{All-append}
use mathlib.Core.Option.{some, some-injective, some-ne-none}
use Rattle.atomic_table.proofs.Lists.{set_else}
use lib.ListN.{get_elem?}
use Rattle.atomic_table.specs.Table.{Joins, Splits, State, opening}
use Rattle.history_book.specs.declared.event.Event.{Event}
use Rattle.history_book.specs.declared.event.Note.{Note}
use Rattle.history_book.specs.declared.sizes.Sizes.{Sizes}
use Rattle.book_desk.specs.declared.book.Book.{Book}
use Rattle.book_desk.specs.declared.turn.view.TurnView.{TurnView}
use Rattle.book_desk.specs.Fields.{IsBook}
use Rattle.book_desk.specs.Turn.Passes.{IsPass, IsSpent, has_share, made_weight, shares_of}
use Rattle.book_desk.specs.Turn.Rule.{Holds, IsKept, first_view, packed, turn_of}
use Rattle.book_desk.specs.Turn.Steps.{IsLast, further, joined, shares_left, spent_view}
use Rattle.book_desk.specs.Turn.Sums.{Each, total}
use Rattle.book_desk.proofs.Passes.Kept.{only_pass}
use Rattle.book_desk.proofs.Passes.Sums.{each_more, each_put, total_append, total_only, total_same, total_set, total_term}

-- numbers below a place, and those from it on
abbrev in_range : ℕ → ℕ → ℕ → ℕ
in_range first count n = (if nat_le first n && nat_lt n (first + count) then 1 else 0)

pub range_cut : (first left right n : ℕ) → in_range first left n + in_range (first + left) right n ≡ in_range first (left + right) n
range_cut first left right n = grind (arith, nat_tests)

-- a pass with fewer shares
pass_left : (z : Sizes) (log : List Event) (shares : ℕ) (v : TurnView) → shares < v.shares → IsPass z log v → IsPass z log (shares_left shares v)
pass_left z log shares v fewer p = record {
  front = p.front;
  told = p.told;
  own = p.own;
  ordered = p.ordered;
  own_few = p.own_few;
  gathered = p.gathered;
  gathered_few = p.gathered_few;
  below = omega (arith, p.below);
  sized = λ has. p.sized (omega (arith, fewer));
  alone = λ one has. p.alone one (omega (arith, fewer));
  spent = λ none_left. absurd (omega (arith, none_left, fewer));
}

-- the pass that has them now
pass_further : (z : Sizes) (log : List Event) (shares : ℕ) (v : TurnView) → 1 ≤ shares → shares < v.shares → IsPass z log v
    → (z.passes ≡ 1 → ⊥) → IsPass z log (further shares v)
pass_further z log shares v has_some fewer p many = record {
  front = p.front;
  told = (log, refl);
  own = λ i d short. absurd (omega (arith, short));
  ordered = λ i j d lt short. absurd (omega (arith, short));
  own_few = omega arith;
  gathered = λ i d short. absurd (omega (arith, short));
  gathered_few = omega arith;
  below = omega (arith, p.below, fewer);
  sized = λ has. p.sized (omega (arith, fewer));
  alone = λ one has. absurd (many one);
  spent = λ none_left. absurd (omega (arith, none_left, has_some));
}

-- the shares are cut in two
shares_cut : (n shares : ℕ) (v : TurnView) → shares < v.shares → has_share n (shares_left shares v) + has_share n (further shares v) ≡ has_share n v
shares_cut n shares v fewer =
    let whole : v.shares - shares + shares ≡ v.shares = omega (arith, fewer) in
    range_cut v.number (v.shares - shares) shares n ∙ ap (λ (k : ℕ). in_range v.number k n) whole

-- a sum over the passes, with one that changed and a further one
total_cut : (f : TurnView → ℕ) (vs : List TurnView) (i : ℕ) (v left right : TurnView) → get_elem? vs i ≡ some v → f left + f right ≡ f v
    → total f (set vs i left ++ right ∷ []) ≡ total f vs
total_cut f vs i v left right at cut = omega (arith, total_append f (set vs i left) (right ∷ []), total_set f vs i v left at, cut)

-- handing over shares keeps the rule
pub splits : (z : Sizes) (id shares : ℕ) (v : TurnView) → 1 ≤ shares → shares < v.shares → v.turn ≡ 0
    → Splits (Holds z) id v (shares_left shares v) (further shares v)
splits z id shares v has_some fewer calm s (log, b, kept) at =
    let left : TurnView = shares_left shares v in
    let right : TurnView = further shares v in
    let p : IsPass z log v = kept.passes.each id v at in
    let many : z.passes ≡ 1 → ⊥ = λ one. omega (arith, one, kept.passes.all, fewer, has_some, total_term shares_of s.views id v at) in
    let turns : total turn_of (set s.views id left ++ right ∷ []) ≡ total turn_of s.views =
    total_cut turn_of s.views id v left right at (omega (arith, calm)) in (
      log,
      b,
      record {
        book = kept.book;
        sizes = kept.sizes;
        words = kept.words ∙ ap (λ (t : ℕ). packed t b ∷ []) (sym turns);
        single = omega (arith, turns, kept.single);
        home = λ none_has. kept.home (omega (arith, turns, none_has));
        away = each_more (λ u. u.turn ≡ 1 → (u.book ≡ Some b) × (u.front ≡ log)) (set s.views id left) right
            (each_put (λ u. u.turn ≡ 1 → (u.book ≡ Some b) × (u.front ≡ log)) s.views id left kept.away (λ has. absurd (omega (arith, has, calm))))
            (λ has. absurd (omega (arith, has)));
        passes = record {
          each = each_more (IsPass z log) (set s.views id left) right
              (each_put (IsPass z log) s.views id left kept.passes.each (pass_left z log shares v fewer p)) (pass_further z log shares v has_some fewer p many);
          apart = λ n. omega (arith, kept.passes.apart n, total_cut (has_share n) s.views id v left right at (shares_cut n shares v fewer));
          all = total_cut shares_of s.views id v left right at (omega (arith, fewer)) ∙ kept.passes.all;
          made = λ weight. kept.passes.made weight ∙ sym (total_cut (made_weight weight) s.views id v left right at (omega arith));
        };
        places = record {
          held = λ weight. kept.places.held weight ∙ sym (total_cut (λ u. total weight u.held) s.views id v left right at (omega arith));
          owed = λ weight. kept.places.owed weight ∙ sym (total_cut (λ u. total weight u.owed) s.views id v left right at (omega arith));
          few = each_more (λ u. length u.held + length u.owed ≤ 4) (set s.views id left) right
              (each_put (λ u. length u.held + length u.owed ≤ 4) s.views id left kept.places.few (kept.places.few id v at)) (omega arith);
        };
      },
    )

-- a pass that took in another one
pass_joined : (z : Sizes) (log : List Event) (v w : TurnView) → 0 < v.shares → 0 < w.shares → IsPass z log v → IsPass z log w
    → (z.passes ≡ 1 → ⊥) → IsPass z log (joined v w)
pass_joined z log v w has_some other p q many = record {
  front = p.front;
  told = q.front;
  own = p.own;
  ordered = p.ordered;
  own_few = p.own_few;
  gathered = All-append (λ (n : Note). slice_get log n.number ≡ Some n.event) (v.gathered ++ w.own) w.gathered
      (All-append (λ (n : Note). slice_get log n.number ≡ Some n.event) v.gathered w.own p.gathered q.own) q.gathered;
  gathered_few = omega (
    arith,
    length-append (v.gathered ++ w.own) w.gathered,
    length-append v.gathered w.own,
    p.gathered_few,
    q.own_few,
    q.gathered_few,
    other,
  );
  below = p.below;
  sized = p.sized;
  alone = λ one has. absurd (many one);
  spent = λ none_left. absurd (omega (arith, none_left, has_some));
}

-- nothing is left of the other one
pass_spent : (z : Sizes) (log : List Event) → IsPass z log spent_view
pass_spent z log = record {
  front = (log, refl);
  told = (log, refl);
  own = λ i d short. absurd (omega (arith, short));
  ordered = λ i j d lt short. absurd (omega (arith, short));
  own_few = omega arith;
  gathered = λ i d short. absurd (omega (arith, short));
  gathered_few = omega arith;
  below = omega arith;
  sized = λ has. absurd (omega (arith, has));
  alone = λ one has. absurd (omega (arith, has));
  spent = λ none_left. record { own = refl; gathered = refl; held = refl; owed = refl; turn = refl };
}

-- a sum over the passes of which two were joined
total_joined : (f : TurnView → ℕ) (vs : List TurnView) (i j : ℕ) (v w both spent : TurnView) → get_elem? vs i ≡ some v
    → get_elem? (set vs i both) j ≡ some w → f both + f spent ≡ f v + f w → total f (set (set vs i both) j spent) ≡ total f vs
total_joined f vs i j v w both spent at at' same =
    omega (arith, total_set f (set vs i both) j w spent at', total_set f vs i v both at, same)

-- taking in another pass keeps the rule
pub joins : (z : Sizes) (id other : ℕ) (v w : TurnView) → 0 < v.shares → 0 < w.shares → v.turn ≡ 0 → w.turn ≡ 0 → w.held ≡ [] → w.owed ≡ []
    → Joins (Holds z) id v other w (joined v w) spent_view
joins z id other v w has_some has_other calm calm' none_held none_owed s (log, b, kept) at apart at' =
    let both : TurnView = joined v w in
    let vs : List TurnView = set s.views id both in
    let there : get_elem? s.views other ≡ some w = sym (set_else s.views id other both apart) ∙ at' in
    let p : IsPass z log v = kept.passes.each id v at in
    let q : IsPass z log w = kept.passes.each other w there in
    let many : z.passes ≡ 1 → ⊥ = λ one. omega (arith, has_other, only_pass z log s.views kept.passes one id other v w at has_some there apart) in
    let turns : total turn_of (set vs other spent_view) ≡ total turn_of s.views =
    total_joined turn_of s.views id other v w both spent_view at at' (omega (arith, calm, calm')) in (
      log,
      b,
      record {
        book = kept.book;
        sizes = kept.sizes;
        words = kept.words ∙ ap (λ (t : ℕ). packed t b ∷ []) (sym turns);
        single = omega (arith, turns, kept.single);
        home = λ none_has. kept.home (omega (arith, turns, none_has));
        away = each_put (λ u. u.turn ≡ 1 → (u.book ≡ Some b) × (u.front ≡ log)) vs other spent_view
            (each_put (λ u. u.turn ≡ 1 → (u.book ≡ Some b) × (u.front ≡ log)) s.views id both kept.away (λ has. absurd (omega (arith, has, calm))))
            (λ has. absurd (omega (arith, has)));
        passes = record {
          each = each_put (IsPass z log) vs other spent_view
              (each_put (IsPass z log) s.views id both kept.passes.each (pass_joined z log v w has_some has_other p q many)) (pass_spent z log);
          apart = λ n. omega (
            arith,
            kept.passes.apart n,
            total_set (has_share n) vs other w spent_view at',
            total_same (has_share n) s.views id v both at refl,
            range_none n,
          );
          all = total_joined shares_of s.views id other v w both spent_view at at' (omega arith) ∙ kept.passes.all;
          made = λ weight. kept.passes.made weight ∙ sym (total_joined (made_weight weight) s.views id other v w both spent_view at at'
              (omega (arith, total_append weight (v.gathered ++ w.own) w.gathered, total_append weight v.gathered w.own)));
        };
        places = record {
          held = λ weight. kept.places.held weight ∙ sym (total_joined (λ u. total weight u.held) s.views id other v w both spent_view at at'
              (omega (arith, ap (total weight) none_held)));
          owed = λ weight. kept.places.owed weight ∙ sym (total_joined (λ u. total weight u.owed) s.views id other v w both spent_view at at'
              (omega (arith, ap (total weight) none_owed)));
          few = each_put (λ u. length u.held + length u.owed ≤ 4) vs other spent_view
              (each_put (λ u. length u.held + length u.owed ≤ 4) s.views id both kept.places.few (kept.places.few id v at)) (omega arith);
        };
      },
    )
  where
    range_none : (n : ℕ) → in_range 0 0 n ≡ 0
    range_none n = grind (arith, nat_tests)

-- the rule holds where one pass has all shares of a tracker that did nothing yet
pub starts : (z : Sizes) (b : Book) → 1 ≤ z.passes → IsBook [] b → b.sizes ≡ z → b.records.items ≡ [] → b.holds.items ≡ [] → b.owed.items ≡ []
    → Holds z (opening (0 ∷ []) (Some b ∷ []) (first_view z))
starts z b has_some right sizes no_record none_held none_owed = (
  [],
  b,
  record {
    book = right;
    sizes = sizes;
    words = ap (λ (n : ℕ). n ∷ []) (omega (arith, right.events, ap length no_record));
    single = omega arith;
    home = λ none_has. refl;
    away = λ i v at has. absurd (one_only i v at has);
    passes = record {
      each = λ i v at. first_pass i v at;
      apart = λ n. first_apart n;
      all = omega arith;
      made = λ weight. omega arith;
    };
    places = record {
      held = λ weight. ap (total weight) none_held;
      owed = λ weight. ap (total weight) none_owed;
      few = λ i v at. first_few i v at;
    };
  },
)
  where
    first_is : (i : ℕ) (v : TurnView) → get_elem? (first_view z ∷ []) i ≡ some v → first_view z ≡ v
    first_is zero v at = some-injective (first_view z) v at
    first_is (suc i) v at = absurd (some-ne-none v (sym at))

    one_only : (i : ℕ) (v : TurnView) → get_elem? (first_view z ∷ []) i ≡ some v → v.turn ≡ 1 → ⊥
    one_only i v at has = omega (arith, has, ap turn_of (first_is i v at))

    first_pass : (i : ℕ) (v : TurnView) → get_elem? (first_view z ∷ []) i ≡ some v → IsPass z [] v
    first_pass i v at = subst (IsPass z []) (first_is i v at) (record {
      front = ([], refl);
      told = ([], refl);
      own = λ j d short. absurd (omega (arith, short));
      ordered = λ j k d lt short. absurd (omega (arith, short));
      own_few = omega arith;
      gathered = λ j d short. absurd (omega (arith, short));
      gathered_few = omega arith;
      below = omega arith;
      sized = λ has. refl;
      alone = λ one has. refl;
      spent = λ none_left. absurd (omega (arith, none_left, has_some));
    })

    first_apart : (n : ℕ) → total (has_share n) (first_view z ∷ []) ≤ 1
    first_apart n = grind (arith, nat_tests)

    first_few : (i : ℕ) (v : TurnView) → get_elem? (first_view z ∷ []) i ≡ some v → length v.held + length v.owed ≤ 4
    first_few i v at = subst (λ u. length u.held + length u.owed ≤ 4) (first_is i v at) (omega arith)

-- what the last pass finds
pub last_pass : (z : Sizes) (log : List Event) (b : Book) (s : State (Option Book) TurnView) (id : ℕ) (v : TurnView) → IsKept z log b s
    → get_elem? s.views id ≡ some v → 0 < v.shares → v.turn ≡ 0 → v.shares + v.returned ≡ v.sizes.passes
    → (get_elem? s.homes 0 ≡ some (some (Some b))) × IsLast v b
last_pass z log b s id v kept at has_some calm all =
    let p : IsPass z log v = kept.passes.each id v at in
    let sized : v.sizes ≡ z = p.sized has_some in
    let whole : total shares_of s.views ≡ shares_of v = kept.passes.all ∙ sym (ap (λ (y : Sizes). y.passes) sized) ∙ sym all in
    let spent : Each (λ u. shares_of u ≡ 0 → IsSpent u) s.views =
    λ j u at' none_left. (kept.passes.each j u at').spent (omega (arith, none_left)) in
    let turns : total turn_of s.views ≡ turn_of v = total_only turn_of shares_of s.views id v at whole (λ j u at' none_left. (spent j u at' none_left).turn) in (
      kept.home (turns ∙ calm),
      record {
        log = log;
        front = p.front;
        book = kept.book;
        sizes = kept.sizes ∙ sym sized;
        own = p.own;
        gathered = p.gathered;
        made = λ weight. kept.passes.made weight ∙ total_only (made_weight weight) shares_of s.views id v at whole
            (λ j u at' none_left. let sp = spent j u at' none_left in omega (arith, ap (total weight) sp.own, ap (total weight) sp.gathered));
        alone = λ one. p.alone (sym (ap (λ (y : Sizes). y.passes) sized) ∙ one) has_some;
      },
    )
