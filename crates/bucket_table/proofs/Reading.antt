-- The readings that calls add, one after the other.
use Rattle.std.proofs.Common.{◌≡◌, ℕ, Bool, true, false, List, [], ◌∷◌, ◌++◌, length, drop, refl, sym, ap, ◌∙◌, append_assoc}
use Rattle.std.specs.Prelude.{◌&&◌, ◌||◌, map, filter, if◌then◌else◌}
use Rattle.std.proofs.Math.Seq.{drop-append_seam}
use Rattle.std.proofs.lemmas.Bool.{cond_both, false≢true, or_from, or_parts}
use Rattle.track_rule.specs.Readings.{changes, found, stored}
use Rattle.track_rule.specs.declared.view.Reading.{Reading}
use Rattle.bucket_table.specs.Locks.{changed}

-- further readings came, and none is an own change of a word that passes the test
pub record More (test : ℕ → Bool) (old new : List Reading) : Type 0 where
  pub more : List Reading
  pub all : new ≡ old ++ more
  pub own : changes test more ≡ false

pub more_found : (test : ℕ → Bool) (word n : ℕ) (old new : List Reading) → new ≡ old ++ found word n ∷ [] → More test old new
more_found test word n old new e = record { more = found word n ∷ []; all = e; own = refl }

pub more_stored : (test : ℕ → Bool) (word n : ℕ) (old new : List Reading) → test word ≡ false → new ≡ old ++ stored word n ∷ [] → More test old new
more_stored test word n old new other e = record { more = stored word n ∷ []; all = e; own = ap (λ (b : Bool). b || false) other }

pub changes_append : (test : ℕ → Bool) (xs ys : List Reading) → changes test xs ≡ false → changes test ys ≡ false → changes test (xs ++ ys) ≡ false
changes_append test [] ys e f = f
changes_append test (r ∷ rs) ys e f =
    let t = or_parts (r.own && test r.word) (changes test rs) e in
    or_from (r.own && test r.word) (changes test (rs ++ ys)) t.0 (changes_append test rs ys t.1 f)

pub more_join : (test : ℕ → Bool) (a b c : List Reading) → More test a b → More test b c → More test a c
more_join test a b c m n = record {
  more = m.more ++ n.more;
  all = n.all ∙ ap (λ (rs : List Reading). rs ++ n.more) m.all ∙ append_assoc a m.more n.more;
  own = changes_append test m.more n.more m.own n.own;
}

-- a test that fewer words pass
pub more_weak : (s t : ℕ → Bool) (old new : List Reading) → ((word : ℕ) → t word ≡ true → s word ≡ true) → More s old new → More t old new
more_weak s t old new within m = record { more = m.more; all = m.all; own = none m.more m.own }
  where
    both : (a b c : Bool) → (c ≡ true → b ≡ true) → (a && b) ≡ false → (a && c) ≡ false
    both false b c w e = refl
    both true b true w e = absurd (false≢true (sym e ∙ w refl))
    both true b false w e = refl

    none : (rs : List Reading) → changes s rs ≡ false → changes t rs ≡ false
    none [] e = refl
    none (r ∷ rs) e =
        let p = or_parts (r.own && s r.word) (changes s rs) e in
        or_from (r.own && t r.word) (changes t rs) (both r.own (s r.word) (t r.word) (within r.word) p.0) (none rs p.1)

-- as contracts say it
pub more_stand : (test : ℕ → Bool) (old new : List Reading) → More test old new → new ≡ old ++ drop (length old) new
more_stand test old new m = m.all ∙ ap (λ (rs : List Reading). old ++ rs) (sym (ap (drop (length old)) m.all ∙ drop-append_seam old m.more))

pub more_own : (test : ℕ → Bool) (old new : List Reading) → More test old new → changes test (drop (length old) new) ≡ false
more_own test old new m = ap (changes test) (ap (drop (length old)) m.all ∙ drop-append_seam old m.more) ∙ m.own

pub more_of : (test : ℕ → Bool) (old new : List Reading) → new ≡ old ++ drop (length old) new → changes test (drop (length old) new) ≡ false → More test old new
more_of test old new stand own = record { more = drop (length old) new; all = stand; own = own }

-- the words of own changes, of two calls
pub changed_append : (xs ys : List Reading) → changed (xs ++ ys) ≡ changed xs ++ changed ys
changed_append [] ys = refl
changed_append (r ∷ rs) ys =
    cond_both r.own (r ∷ filter (λ (x : Reading). x.own) rs) (filter (λ (x : Reading). x.own) rs)
    (λ zs. map (λ (x : Reading). x.word) (if r.own then r ∷ filter (λ (x : Reading). x.own) (rs ++ ys) else filter (λ (x : Reading). x.own) (rs ++ ys)) ≡ map (λ (x : Reading). x.word) zs ++ changed ys)
    (λ e. ap (λ (b : Bool). map (λ (x : Reading). x.word) (if b then r ∷ filter (λ (x : Reading). x.own) (rs ++ ys) else filter (λ (x : Reading). x.own) (rs ++ ys))) e
    ∙ ap (λ ws. r.word ∷ ws) (changed_append rs ys))
    (λ e. ap (λ (b : Bool). map (λ (x : Reading). x.word) (if b then r ∷ filter (λ (x : Reading). x.own) (rs ++ ys) else filter (λ (x : Reading). x.own) (rs ++ ys))) e
    ∙ changed_append rs ys)

pub changed_none : (rs : List Reading) → changes (λ word. true) rs ≡ false → changed rs ≡ []
changed_none [] e = refl
changed_none (r ∷ rs) e =
    let p = or_parts (r.own && true) (changes (λ word. true) rs) e in
    ap (λ (b : Bool). map (λ (x : Reading). x.word) (if b then r ∷ filter (λ (x : Reading). x.own) rs else filter (λ (x : Reading). x.own) rs)) (off r.own p.0)
    ∙ changed_none rs p.1
  where
    off : (b : Bool) → (b && true) ≡ false → b ≡ false
    off true h = h
    off false h = refl

pub added_join : (a b c : List Reading) → b ≡ a ++ drop (length a) b → c ≡ b ++ drop (length b) c → drop (length a) c ≡ drop (length a) b ++ drop (length b) c
added_join a b c e f =
    ap (drop (length a)) (f ∙ ap (λ (rs : List Reading). rs ++ drop (length b) c) e ∙ append_assoc a (drop (length a) b) (drop (length b) c))
    ∙ drop-append_seam a (drop (length a) b ++ drop (length b) c)
