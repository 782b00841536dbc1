-- The readings that a call adds.
use Rattle.std.specs.Prelude.{◌==◌, ◌&&◌, ◌||◌, not, drop}
use Rattle.std.specs.List.{list_any}
use Rattle.std.proofs.Common.{◌≡◌, Bool, true, false, List, [], ◌∷◌, ◌++◌, length, refl, sym, ap, ◌∙◌, append-nil, append_assoc}
use Rattle.std.proofs.lemmas.Bool.{or_from, or_parts}
use Rattle.track_rule.specs.declared.view.Reading.{Reading}
use Rattle.entry_pool.specs.Turn.{Waits}

-- one that passes no test after others that pass none
pub any_more : {X : Type 0} (test : X → Bool) (xs : List X) (x : X) → list_any test xs ≡ false → test x ≡ false → list_any test (xs ++ x ∷ []) ≡ false
any_more test [] x none last = ap (λ (b : Bool). b || false) last
any_more test (y ∷ ys) x none last = both (test y) (list_any test ys) (list_any test (ys ++ x ∷ [])) none (λ rest. any_more test ys x rest last)
  where
    both : (a b c : Bool) → (a || b) ≡ false → (b ≡ false → c ≡ false) → (a || c) ≡ false
    both true b c e f = e
    both false b c e f = f e

-- a test that passes less
pub any_less : {X : Type 0} (test less : X → Bool) → ((x : X) → test x ≡ false → less x ≡ false) → (xs : List X) → list_any test xs ≡ false
    → list_any less xs ≡ false
any_less test less fewer [] none = refl
any_less test less fewer (x ∷ xs) none =
    let parts = or_parts (test x) (list_any test xs) none in
    or_from (less x) (list_any less xs) (fewer x parts.0) (any_less test less fewer xs parts.1)

-- no reading yet
pub waits_none : (rs : List Reading) → Waits rs rs
waits_none rs = record { more = []; all = sym (append-nil rs); own = refl }

-- one more, which is no own change of another word than the turn
pub waits_more : (old new : List Reading) (r : Reading) → Waits old new → (r.own && not (r.word == 1)) ≡ false → Waits old (new ++ r ∷ [])
waits_more old new r w last = record {
  more = w.more ++ r ∷ [];
  all = ap (λ rs. rs ++ r ∷ []) w.all ∙ append_assoc old w.more (r ∷ []);
  own = any_more (λ (x : Reading). x.own && not (x.word == 1)) w.more r w.own last;
}

-- what was added
pub drop_first : {X : Type 0} (xs ys : List X) → drop (length xs) (xs ++ ys) ≡ ys
drop_first [] ys = refl
drop_first (x ∷ xs) ys = drop_first xs ys

-- those before stand in front of what was added
pub stands_before : {X : Type 0} (old now more : List X) → now ≡ old ++ more → now ≡ old ++ drop (length old) now
stands_before old now more e = e ∙ ap (λ rs. old ++ rs) (sym (ap (drop (length old)) e ∙ drop_first old more))

pub stands_one : (old new now : List Reading) (a : Reading) → Waits old new → now ≡ new ++ a ∷ [] → now ≡ old ++ drop (length old) now
stands_one old new now a w e =
    stands_before old now (w.more ++ a ∷ []) (e ∙ ap (λ rs. rs ++ a ∷ []) w.all ∙ append_assoc old w.more (a ∷ []))

pub stands_two : (old new now : List Reading) (a b : Reading) → Waits old new → now ≡ (new ++ a ∷ []) ++ b ∷ [] → now ≡ old ++ drop (length old) now
stands_two old new now a b w e =
    stands_before old now ((w.more ++ a ∷ []) ++ b ∷ [])
    (e ∙ ap (λ rs. (rs ++ a ∷ []) ++ b ∷ []) w.all ∙ ap (λ rs. rs ++ b ∷ []) (append_assoc old w.more (a ∷ []))
    ∙ append_assoc old (w.more ++ a ∷ []) (b ∷ []))

-- after one more
pub added_one : (old new now : List Reading) (a : Reading) (w : Waits old new) → now ≡ new ++ a ∷ []
    → drop (length old) now ≡ w.more ++ a ∷ []
added_one old new now a w e =
    let all : now ≡ old ++ (w.more ++ a ∷ []) = e ∙ ap (λ rs. rs ++ a ∷ []) w.all ∙ append_assoc old w.more (a ∷ []) in
    ap (drop (length old)) all ∙ drop_first old (w.more ++ a ∷ [])

-- after two more
pub added_two : (old new now : List Reading) (a b : Reading) (w : Waits old new) → now ≡ (new ++ a ∷ []) ++ b ∷ []
    → drop (length old) now ≡ (w.more ++ a ∷ []) ++ b ∷ []
added_two old new now a b w e =
    let all : now ≡ old ++ ((w.more ++ a ∷ []) ++ b ∷ []) =
    e ∙ ap (λ rs. (rs ++ a ∷ []) ++ b ∷ []) w.all ∙ ap (λ rs. rs ++ b ∷ []) (append_assoc old w.more (a ∷ []))
    ∙ append_assoc old (w.more ++ a ∷ []) (b ∷ []) in
    ap (drop (length old)) all ∙ drop_first old ((w.more ++ a ∷ []) ++ b ∷ [])

-- one that passes a test is among them
pub any_at : {X : Type 0} (test : X → Bool) (xs : List X) (x : X) (ys : List X) → test x ≡ true → list_any test ((xs ++ x ∷ []) ++ ys) ≡ true
any_at test [] x ys here = ap (λ (b : Bool). b || list_any test ys) here
any_at test (y ∷ xs) x ys here = ap (λ (b : Bool). test y || b) (any_at test xs x ys here) ∙ or_true (test y)
  where
    or_true : (b : Bool) → (b || true) ≡ true
    or_true true = refl
    or_true false = refl
