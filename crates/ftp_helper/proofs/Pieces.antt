-- What stands at the front of a text is read, and what is read stands there.
use Rattle.std.proofs.Common.{◌≡◌, ◌∙◌, ℕ, ◌<◌, ◌≤◌, Bool, true, false, not, ◌&&◌, List, [], ◌∷◌, ◌++◌, length, get_or, take, drop, position, Option, Some, None, arith, refl, sym, ap, subst, suc, zero, drop-cons, nat_lt, nat_le, cond}
use Rattle.std.specs.Char.{is_ascii_digit}
use Rattle.std.specs.List.{list_all, prefix_len}
use Rattle.std.specs.Str.{all_ascii_digits, bytes_eq, str_eq_ignore_ascii_case, str_to_ascii_lowercase}
use Rattle.std.specs.Str.Parse.{digits_value}
use Rattle.std.proofs.Math.Seq.{take-append_seam, drop-append_seam}
use Rattle.std.proofs.lemmas.Bool.{and_from, and_parts}
use Rattle.std.proofs.lemmas.Bool.Decides.{nat_tests}
use Rattle.std.proofs.lemmas.List.{take-append-drop}
use Rattle.std.proofs.lemmas.List.Quantifiers.{position-Some}
use Rattle.std.proofs.lemmas.Option.{cond_some}
use Rattle.std.proofs.lemmas.Slice.Eq.{bytes_eq-Decides}
use Rattle.ftp_helper.specs.Payload.{IsDecimal, IsInAnyCase}
use Rattle.ftp_helper.specs.Internal.Reading.{◌>>=◌, after, after_command, decimal_at, decimal_of, is_no_digit}

-- a step that was gone on from
pub went_on : {A B : Type 0} (o : Option A) (f : A → Option B) (y : B) → (o >>= f) ≡ Some y → (x : A) × (o ≡ Some x) × (f x ≡ Some y)
went_on (Some x) f y done = (x, refl, done)
went_on None f y done = absurd (cc)

-- the first byte of a text passes the test
abbrev pub Begins : (ℕ → Bool) → List ℕ → Type 0
Begins p [] = ⊥
Begins p (b ∷ bs) = p b ≡ true

-- a front

pub after_gives : (front text rest : List ℕ) → after front text ≡ Some rest → text ≡ front ++ rest
unfolding after
after_gives front text rest found =
    let h = cond_some (bytes_eq (take (length front) text) front) (drop (length front) text) rest found in
    let same = (bytes_eq-Decides (take (length front) text) front).0 h.0 in
    sym (take-append-drop (length front) text) ∙ (ap (λ (x : List ℕ). x ++ drop (length front) text) same ∙ ap (λ (x : List ℕ). front ++ x) h.1)

pub after_finds : (front rest : List ℕ) → after front (front ++ rest) ≡ Some rest
unfolding after
after_finds front rest =
    rw (take-append_seam front rest, drop-append_seam front rest, (bytes_eq-Decides front front).1 refl) refl

-- a command

pub record ReadsCommand (word text rest : List ℕ) : Type 0 where
  pub command : List ℕ
  pub is_command : IsInAnyCase word command
  pub whole : text ≡ command ++ rest

pub command_gives : (word text rest : List ℕ) → after_command word text ≡ Some rest → ReadsCommand word text rest
unfolding after_command
command_gives word text rest found =
    let h = cond_some (str_eq_ignore_ascii_case (take (length word) text) word) (drop (length word) text) rest found in
    record {
      command = take (length word) text;
      is_command = (bytes_eq-Decides (str_to_ascii_lowercase (take (length word) text)) (str_to_ascii_lowercase word)).0 h.0;
      whole = sym (take-append-drop (length word) text) ∙ ap (λ (x : List ℕ). take (length word) text ++ x) h.1;
    }

length-lowercase : (text : List ℕ) → length (str_to_ascii_lowercase text) ≡ length text
length-lowercase [] = refl
length-lowercase (b ∷ bs) = ap suc (length-lowercase bs)

same_length : (word command : List ℕ) → IsInAnyCase word command → length word ≡ length command
same_length word command same = sym (length-lowercase word) ∙ (ap length (sym same) ∙ length-lowercase command)

pub command_finds : (word command rest : List ℕ) → IsInAnyCase word command → after_command word (command ++ rest) ≡ Some rest
unfolding after_command
command_finds word command rest same =
    rw (
      same_length word command same,
      take-append_seam command rest,
      drop-append_seam command rest,
      (bytes_eq-Decides (str_to_ascii_lowercase command) (str_to_ascii_lowercase word)).1 same,
    ) refl

-- the first byte that does not pass a test

passes : (p : ℕ → Bool) (front rest : List ℕ) → list_all p front ≡ true → Begins (λ b. not (p b)) rest
    → prefix_len (λ b. not (not (p b))) (front ++ rest) ≡ length front
passes p [] [] all stop = absurd stop
passes p [] (b ∷ bs) all stop = rw stop refl
passes p (c ∷ cs) rest all stop =
    let h = and_parts (p c) (list_all p cs) all in
    let later = passes p cs rest h.1 stop in
    rw (h.0, later) (omega arith)

longer : (front rest : List ℕ) (p : ℕ → Bool) → Begins p rest → length front < length (front ++ rest)
longer [] [] p stop = absurd stop
longer [] (b ∷ bs) p stop = omega arith
longer (c ∷ cs) rest p stop = let h = longer cs rest p stop in omega arith

chosen : (i n : ℕ) → i < n → cond (nat_lt i n) (Some i) None ≡ Some i
chosen i n less = grind (arith, nat_tests)

pub place_found : (p : ℕ → Bool) (front rest : List ℕ) → list_all p front ≡ true → Begins (λ b. not (p b)) rest
    → position (λ b. not (p b)) (front ++ rest) ≡ Some (length front)
place_found p front rest all stop =
    rw (passes p front rest all stop) (chosen (length front) (length (front ++ rest)) (longer front rest (λ b. not (p b)) stop))

all_before : (p : ℕ → Bool) (text : List ℕ) (at : ℕ) → ((k : ℕ) → k < at → not (p (get_or text k 0)) ≡ false) → at ≤ length text
    → list_all p (take at text) ≡ true
all_before p text zero each inside = refl
all_before p [] (suc at) each inside = absurd (omega arith)
all_before p (b ∷ bs) (suc at) each inside =
    and_from (p b) (list_all p (take at bs)) (passed (p b) (each zero (omega arith)))
    (all_before p bs at (λ k less. each (suc k) (omega arith)) (omega arith))
  where
    passed : (t : Bool) → not t ≡ false → t ≡ true
    passed true h = refl
    passed false h = absurd (cc)

pub record IsPlace (p : ℕ → Bool) (text : List ℕ) (at : ℕ) : Type 0 where
  pub all : list_all p (take at text) ≡ true
  pub stop : Begins (λ b. not (p b)) (drop at text)

pub place_gives : (p : ℕ → Bool) (text : List ℕ) (at : ℕ) → position (λ b. not (p b)) text ≡ Some at → IsPlace p text at
place_gives p text at found =
    let h = position-Some (λ b. not (p b)) text at 0 found in
    record {
      all = all_before p text at h.2 (omega arith);
      stop = subst (Begins (λ b. not (p b))) (sym (drop-cons text at 0 h.0)) h.1;
    }

-- a number

pub record ReadsDecimal (most high : ℕ) (text : List ℕ) (n : ℕ) (rest : List ℕ) : Type 0 where
  pub digits : List ℕ
  pub is_number : IsDecimal most high digits n
  pub whole : text ≡ digits ++ rest
  pub stop : Begins is_no_digit rest

decimal_is : (most high : ℕ) (digits : List ℕ) (n : ℕ) → decimal_of most high digits ≡ Some n → IsDecimal most high digits n
unfolding decimal_of
decimal_is most high digits n found =
    let h = cond_some (nat_lt 0 (length digits) && nat_le (length digits) most && all_ascii_digits digits && nat_le (digits_value 10 digits) high) (digits_value 10 digits) n found in
    let a = and_parts (nat_lt 0 (length digits) && nat_le (length digits) most && all_ascii_digits digits) (nat_le (digits_value 10 digits) high) h.0 in
    let b = and_parts (nat_lt 0 (length digits) && nat_le (length digits) most) (all_ascii_digits digits) a.0 in
    let c = and_parts (nat_lt 0 (length digits)) (nat_le (length digits) most) b.0 in
    record {
      some = below 0 (length digits) c.0;
      few = at_most (length digits) most c.1;
      digits = b.1;
      value = sym h.1;
      small = subst (λ (k : ℕ). k ≤ high) h.1 (at_most (digits_value 10 digits) high a.1);
    }
  where
    below : (i n : ℕ) → nat_lt i n ≡ true → i < n
    below i n h = grind (arith, nat_tests)

    at_most : (i n : ℕ) → nat_le i n ≡ true → i ≤ n
    at_most i n h = grind (arith, nat_tests)

is_decimal : (most high : ℕ) (digits : List ℕ) (n : ℕ) → IsDecimal most high digits n → decimal_of most high digits ≡ Some n
unfolding decimal_of
is_decimal most high digits n is =
    rw (
      below 0 (length digits) is.some,
      at_most (length digits) most is.few,
      is.digits,
      at_most (digits_value 10 digits) high (subst (λ (k : ℕ). k ≤ high) is.value is.small),
    ) (ap Some (sym is.value))
  where
    below : (i n : ℕ) → i < n → nat_lt i n ≡ true
    below i n h = grind (arith, nat_tests)

    at_most : (i n : ℕ) → i ≤ n → nat_le i n ≡ true
    at_most i n h = grind (arith, nat_tests)

pub decimal_gives : (most high : ℕ) (text : List ℕ) (x : ℕ × List ℕ) → decimal_at most high text ≡ Some x → ReadsDecimal most high text x.0 x.1
unfolding decimal_at
decimal_gives most high text x found =
    let (at, at_is, more) = went_on _ _ _ found in
    let (n, n_is, end) = went_on _ _ _ more in
    let same : (n, drop at text) ≡ x = cc in
    subst (λ (y : ℕ × List ℕ). ReadsDecimal most high text y.0 y.1) same (record {
      digits = take at text;
      is_number = decimal_is most high (take at text) n n_is;
      whole = sym (take-append-drop at text);
      stop = (place_gives is_ascii_digit text at at_is).stop;
    })

all_digits : (digits : List ℕ) → all_ascii_digits digits ≡ list_all is_ascii_digit digits
all_digits [] = refl
all_digits (b ∷ bs) = rw (all_digits bs) refl

pub decimal_finds : (most high : ℕ) (digits rest : List ℕ) (n : ℕ) → IsDecimal most high digits n → Begins is_no_digit rest
    → decimal_at most high (digits ++ rest) ≡ Some (n, rest)
unfolding decimal_at
decimal_finds most high digits rest n is stop =
    rw (
      place_found is_ascii_digit digits rest (sym (all_digits digits) ∙ is.digits) stop,
      take-append_seam digits rest,
      drop-append_seam digits rest,
      is_decimal most high digits n is,
    ) refl
