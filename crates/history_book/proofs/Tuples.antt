-- The test of two tuples tells whether they are equal.
use Rattle.std.proofs.Common.{◌≡◌, true, false, refl, sym, ◌∙◌, subst, arith}
use Rattle.std.specs.Prelude.{◌≢◌, ◌==◌}
use Rattle.std.proofs.lemmas.Bool.{and_parts, eqb-true, true≢false}
use Rattle.std.proofs.lemmas.Bool.Decides.{nat_tests}
use Rattle.tuple_core.specs.Tuple.{number_of}
use Rattle.tuple_core.specs.declared.Proto.{Proto}
use Rattle.tuple_core.specs.declared.Proto.TheVariants.{Icmp, Tcp, Udp}
use Rattle.tuple_core.specs.declared.Tuple.{Tuple}
use Rattle.history_book.specs.Record.{same_tuple}

pub same_tuple-refl : (t : Tuple) → same_tuple t t ≡ true
same_tuple-refl t = grind (arith, nat_tests)

pub same_tuple-equal : (t u : Tuple) → t ≡ u → same_tuple t u ≡ true
same_tuple-equal t u e = subst (λ (v : Tuple). same_tuple t v ≡ true) e (same_tuple-refl t)

-- tuples that the test tells apart differ
pub same_tuple-false : (t u : Tuple) → same_tuple t u ≡ false → t ≢ u
same_tuple-false t u differs e = true≢false (sym (same_tuple-equal t u e) ∙ differs)

-- protocols of one number are equal
pub same_number : (p q : Proto) → number_of p ≡ number_of q → p ≡ q
same_number Icmp Icmp e = refl
same_number Icmp Tcp e = absurd (omega (arith, e))
same_number Icmp Udp e = absurd (omega (arith, e))
same_number Tcp Icmp e = absurd (omega (arith, e))
same_number Tcp Tcp e = refl
same_number Tcp Udp e = absurd (omega (arith, e))
same_number Udp Icmp e = absurd (omega (arith, e))
same_number Udp Tcp e = absurd (omega (arith, e))
same_number Udp Udp e = refl

same_fields : (t u : Tuple) → t.proto ≡ u.proto → t.zone ≡ u.zone → t.src ≡ u.src → t.dst ≡ u.dst → t.a ≡ u.a → t.b ≡ u.b → t ≡ u
same_fields t u p z s d a b = λ i. record { proto = p i; zone = z i; src = s i; dst = d i; a = a i; b = b i }

-- tuples that pass the test are equal
pub same_tuple-true : (t u : Tuple) → same_tuple t u ≡ true → t ≡ u
same_tuple-true t u h =
    let b = and_parts _ (t.b == u.b) h in
    let a = and_parts _ (t.a == u.a) b.0 in
    let d = and_parts _ (t.dst == u.dst) a.0 in
    let s = and_parts _ (t.src == u.src) d.0 in
    let p = and_parts (number_of t.proto == number_of u.proto) (t.zone == u.zone) s.0 in
    same_fields t u (same_number t.proto u.proto (eqb-true _ _ p.0)) (eqb-true _ _ p.1) (eqb-true _ _ s.1) (eqb-true _ _ d.1)
    (eqb-true _ _ a.1) (eqb-true _ _ b.1)
