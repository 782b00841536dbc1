-- Numbers with a byte between each two; addresses, ports and both together.
use Rattle.std.proofs.Common.{◌≡◌, ◌∙◌, ℕ, ◌+◌, ◌*◌, ◌^◌, true, List, [], ◌∷◌, ◌++◌, Option, Some, refl, sym, ap, subst, codes, append_assoc}
use Rattle.std.specs.Str.{byte}
use Rattle.ftp_helper.specs.declared.payload.NamedEnd.{NamedEnd}
use Rattle.ftp_helper.specs.Payload.{AreNumbers, IsHost, IsHostPort, IsNumber, IsPortPair}
use Rattle.ftp_helper.specs.Internal.Reading.{decimal_at, host_at, host_port_at, is_no_digit, number_before, port_pair_at}
use Rattle.ftp_helper.proofs.Pieces.{after_finds, after_gives, Begins, decimal_finds, decimal_gives, went_on}

-- these numbers stand in front of the rest
pub record ReadsNumbers (between : ℕ) (ns : List ℕ) (text rest : List ℕ) : Type 0 where
  pub numbers : List ℕ
  pub are_numbers : AreNumbers between ns numbers
  pub whole : text ≡ numbers ++ rest

pub last_gives : (between : ℕ) (text : List ℕ) (x : ℕ × List ℕ) → decimal_at 3 255 text ≡ Some x → ReadsNumbers between (x.0 ∷ []) text x.1
last_gives between text x found =
    let h = decimal_gives 3 255 text x found in
    record { numbers = h.digits; are_numbers = h.is_number; whole = h.whole }

pub number_gives : (between m : ℕ) (ns text rest : List ℕ) (x : ℕ × List ℕ) → number_before between text ≡ Some x
    → ReadsNumbers between (m ∷ ns) x.1 rest → ReadsNumbers between (x.0 ∷ m ∷ ns) text rest
unfolding number_before
number_gives between m ns text rest x found later =
    let (y, y_is, more) = went_on _ _ _ found in
    let (behind, behind_is, end) = went_on _ _ _ more in
    let h = decimal_gives 3 255 text y y_is in
    let sign = after_gives (between ∷ []) y.1 behind behind_is in
    let same : (y.0, behind) ≡ x = cc in
    let value : y.0 ≡ x.0 = ap (λ (z : ℕ × List ℕ). z.0) same in
    let rest_is : behind ≡ later.numbers ++ rest = ap (λ (z : ℕ × List ℕ). z.1) same ∙ later.whole in
    let tail : y.1 ≡ between ∷ (later.numbers ++ rest) = sign ∙ ap (λ (z : List ℕ). between ∷ z) rest_is in
    record {
      numbers = h.digits ++ between ∷ later.numbers;
      are_numbers = (h.digits, later.numbers, refl, subst (IsNumber h.digits) value h.is_number, later.are_numbers);
      whole = h.whole ∙ (ap (λ (z : List ℕ). h.digits ++ z) tail ∙ sym (append_assoc h.digits (between ∷ later.numbers) rest));
    }

pub number_finds : (between n : ℕ) (first behind : List ℕ) → is_no_digit between ≡ true → IsNumber first n
    → number_before between (first ++ between ∷ behind) ≡ Some (n, behind)
unfolding number_before
number_finds between n first behind no_digit is =
    rw (decimal_finds 3 255 first (between ∷ behind) n is no_digit, after_finds (between ∷ []) behind) refl

-- an address

pub record ReadsHost (between : ℕ) (text : List ℕ) (address : ℕ) (rest : List ℕ) : Type 0 where
  pub host : List ℕ
  pub is_host : IsHost between host address
  pub whole : text ≡ host ++ rest

pub host_gives : (between : ℕ) (text : List ℕ) (x : ℕ × List ℕ) → host_at between text ≡ Some x → ReadsHost between text x.0 x.1
unfolding host_at
host_gives between text x found =
    let (h1, h1_is, more1) = went_on _ _ _ found in
    let (h2, h2_is, more2) = went_on _ _ _ more1 in
    let (h3, h3_is, more3) = went_on _ _ _ more2 in
    let (h4, h4_is, end) = went_on _ _ _ more3 in
    let read = number_gives between h2.0 (h3.0 ∷ h4.0 ∷ []) text h4.1 h1 h1_is
    (number_gives between h3.0 (h4.0 ∷ []) h1.1 h4.1 h2 h2_is
    (number_gives between h4.0 [] h2.1 h4.1 h3 h3_is (last_gives between h3.1 h4 h4_is))) in
    let same : (h1.0 * 2 ^ 24 + h2.0 * 2 ^ 16 + h3.0 * 2 ^ 8 + h4.0, h4.1) ≡ x = cc in
    subst (λ (y : ℕ × List ℕ). ReadsHost between text y.0 y.1) same (record {
      host = read.numbers;
      is_host = record { h1 = h1.0; h2 = h2.0; h3 = h3.0; h4 = h4.0; numbers = read.are_numbers; value = refl };
      whole = read.whole;
    })

-- the first of several numbers is read
first_found : (between n m : ℕ) (ns text rest : List ℕ) → is_no_digit between ≡ true → AreNumbers between (n ∷ m ∷ ns) text
    → (others : List ℕ) × AreNumbers between (m ∷ ns) others × (number_before between (text ++ rest) ≡ Some (n, others ++ rest))
first_found between n m ns text rest no_digit (first, others, whole, is, later) =
    let apart : text ++ rest ≡ first ++ between ∷ (others ++ rest) =
    ap (λ (z : List ℕ). z ++ rest) whole ∙ append_assoc first (between ∷ others) rest in
    (others, later, ap (number_before between) apart ∙ number_finds between n first (others ++ rest) no_digit is)

pub host_finds : (between : ℕ) (host rest : List ℕ) (address : ℕ) → is_no_digit between ≡ true → IsHost between host address → Begins is_no_digit rest
    → host_at between (host ++ rest) ≡ Some (address, rest)
unfolding host_at
host_finds between host rest address no_digit is stop =
    let (t2, are2, found1) = first_found between is.h1 is.h2 (is.h3 ∷ is.h4 ∷ []) host rest no_digit is.numbers in
    let (t3, are3, found2) = first_found between is.h2 is.h3 (is.h4 ∷ []) t2 rest no_digit are2 in
    let (t4, are4, found3) = first_found between is.h3 is.h4 [] t3 rest no_digit are3 in
    let found4 = decimal_finds 3 255 t4 rest is.h4 are4 stop in
    rw (found1, found2, found3, found4) (ap (λ (k : ℕ). Some (k, rest)) (sym is.value))

-- a port as a pair of numbers

pub record ReadsPortPair (text : List ℕ) (port : ℕ) (rest : List ℕ) : Type 0 where
  pub pair : List ℕ
  pub is_port : IsPortPair pair port
  pub whole : text ≡ pair ++ rest
  pub stop : Begins is_no_digit rest

pub port_pair_gives : (text : List ℕ) (x : ℕ × List ℕ) → port_pair_at text ≡ Some x → ReadsPortPair text x.0 x.1
unfolding port_pair_at
port_pair_gives text x found =
    let (p1, p1_is, more) = went_on _ _ _ found in
    let (p2, p2_is, end) = went_on _ _ _ more in
    let read = number_gives (byte ",") p2.0 [] text p2.1 p1 p1_is (last_gives (byte ",") p1.1 p2 p2_is) in
    let same : (256 * p1.0 + p2.0, p2.1) ≡ x = cc in
    subst (λ (y : ℕ × List ℕ). ReadsPortPair text y.0 y.1) same (record {
      pair = read.numbers;
      is_port = record { p1 = p1.0; p2 = p2.0; numbers = read.are_numbers; value = refl };
      whole = read.whole;
      stop = (decimal_gives 3 255 p1.1 p2 p2_is).stop;
    })

pub port_pair_finds : (pair rest : List ℕ) (port : ℕ) → IsPortPair pair port → Begins is_no_digit rest → port_pair_at (pair ++ rest) ≡ Some (port, rest)
unfolding port_pair_at
port_pair_finds pair rest port is stop =
    let (t2, are2, found1) = first_found (byte ",") is.p1 is.p2 [] pair rest refl is.numbers in
    let found2 = decimal_finds 3 255 t2 rest is.p2 are2 stop in
    rw (found1, found2) (ap (λ (k : ℕ). Some (k, rest)) (sym is.value))

-- an address and a port

pub record ReadsHostPort (text : List ℕ) (end : NamedEnd) (rest : List ℕ) : Type 0 where
  pub named : List ℕ
  pub is_named : IsHostPort named end
  pub whole : text ≡ named ++ rest
  pub stop : Begins is_no_digit rest

pub host_port_gives : (text : List ℕ) (x : NamedEnd × List ℕ) → host_port_at text ≡ Some x → ReadsHostPort text x.0 x.1
unfolding host_port_at
host_port_gives text x found =
    let (host, host_is, more1) = went_on _ _ _ found in
    let (behind, behind_is, more2) = went_on _ _ _ more1 in
    let (port, port_is, end) = went_on _ _ _ more2 in
    let address = host_gives (byte ",") text host host_is in
    let sign = after_gives (codes ",") host.1 behind behind_is in
    let pair = port_pair_gives behind port port_is in
    let same : (record { address = Some host.0; port = port.0 }, port.1) ≡ x = cc in
    let tail : host.1 ≡ codes "," ++ (pair.pair ++ port.1) = sign ∙ ap (λ (z : List ℕ). codes "," ++ z) pair.whole in
    subst (λ (y : NamedEnd × List ℕ). ReadsHostPort text y.0 y.1) same (record {
      named = address.host ++ codes "," ++ pair.pair;
      is_named = record { host = address.host; address = host.0; port = pair.pair; whole = refl; is_host = address.is_host; is_port = pair.is_port; at_host = refl };
      whole = address.whole ∙ (ap (λ (z : List ℕ). address.host ++ z) tail ∙ simp append_assoc);
      stop = pair.stop;
    })

pub end_is : (end : NamedEnd) (address : Option ℕ) (port : ℕ) → end.address ≡ address → end.port ≡ port → record { address = address; port = port } ≡ end
end_is end address port at here = λ i. record { address = sym at i; port = sym here i }

pub host_port_finds : (named rest : List ℕ) (end : NamedEnd) → IsHostPort named end → Begins is_no_digit rest → host_port_at (named ++ rest) ≡ Some (end, rest)
unfolding host_port_at
host_port_finds named rest end is stop =
    let apart : named ++ rest ≡ is.host ++ (codes "," ++ (is.port ++ rest)) = ap (λ (z : List ℕ). z ++ rest) is.whole ∙ simp append_assoc in
    rw (
      apart,
      host_finds (byte ",") is.host (codes "," ++ (is.port ++ rest)) is.address refl is.is_host refl,
      after_finds (codes ",") (is.port ++ rest),
      port_pair_finds is.port rest end.port is.is_port stop,
    )
    (ap (λ (e : NamedEnd). Some (e, rest)) (end_is end (Some is.address) end.port is.at_host refl))
