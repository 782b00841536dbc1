-- What a look at the first number and a search say together.
use Rattle.std.proofs.Common.{◌≡◌, ◌≢◌, ℕ, ◌+◌, ◌<◌, ◌≤◌, Bool, true, false, ◌&&◌, ◌||◌, ◌==◌, not, List, [], ◌∷◌, Some, None, find, cond, refl, ap, subst, sym, ◌∙◌, arith, ⊎_elim}
use Rattle.std.specs.List.{AllByRecursion}
use Rattle.std.proofs.lemmas.Bool.{and_parts, cases_eq, or_cases, eq-eqb, eqb-true, ne_eqb}
use Rattle.tuple_core.specs.declared.Tuple.{Tuple}
use Rattle.history_book.specs.WentOn.{Looked, Saw}
use Rattle.history_book.specs.Laws.{StatesStay}
use Rattle.history_book.specs.Point.{At}
use Rattle.history_book.specs.Sight.{Sight}
use Rattle.history_book.specs.State.{is_free}
use Rattle.nat_setup.specs.declared.reply.Choice.{Choice}
use Rattle.nat_setup.specs.declared.rule.Rule.{Rule}
use Rattle.nat_setup.specs.Internal.Search.{FindsFree, IsSearching, others_of}
use Rattle.nat_setup.specs.Reply.{is_allowed, is_in_range, own_number, reply_with}
use Rattle.nat_setup.specs.Rule.{IsLawfulRule, matches, rule_for}
use Rattle.nat_setup.specs.Translation.{IsTaken, TranslateSays, is_own_or_barred}
use Rattle.nat_setup.specs.declared.translate.TranslateOutcome.TheVariants.{Chosen, NoPort}
use Rattle.nat_setup.proofs.Searching.{at_grows, starts_longer}

-- what a rule allows a flow: the numbers of a choice
abbrev pub IsChoice : Rule → Tuple → Choice → Type 0
IsChoice rule t choice =
    (number : ℕ) → is_allowed rule t number
    ≡ (is_in_range choice.low choice.high number || (choice.keeps_own && number == own_number rule t))

-- whether the choice has the flow's own number
abbrev pub has_own : Choice → ℕ → Bool
has_own choice own = is_in_range choice.low choice.high own || choice.keeps_own

with_test : (a k e : Bool) → e ≡ true → (a || (k && e)) ≡ (a || k)
with_test true k e h = refl
with_test false true e h = h
with_test false false e h = refl

left_or : (a b : Bool) → a ≡ true → (a || b) ≡ true
left_or true b h = refl
left_or false b h = absurd (cc)

-- the flow's own number is allowed where the choice has it
own_allowed : (rule : Rule) (t : Tuple) (choice : Choice) → IsChoice rule t choice
    → is_allowed rule t (own_number rule t) ≡ has_own choice (own_number rule t)
own_allowed rule t choice is =
    is (own_number rule t)
    ∙ with_test (is_in_range choice.low choice.high (own_number rule t)) choice.keeps_own _ (eq-eqb (own_number rule t) (own_number rule t) refl)

between_of : (low high n : ℕ) → low ≤ n → n ≤ high → is_in_range low high n ≡ true
between_of low high n above below = grind (arith, above, below)

low_of : (low high n : ℕ) → is_in_range low high n ≡ true → low ≤ n
low_of low high n h = grind (arith, h)

high_of : (low high n : ℕ) → is_in_range low high n ≡ true → n ≤ high
high_of low high n h = grind (arith, h)

given_up : (a b : Bool) → a ≡ false → b ≡ true → (a || not b) ≡ false
given_up false true h g = refl
given_up true b h g = absurd (cc)
given_up false false h g = absurd (cc)

right_or : (a b : Bool) → b ≡ true → (a || b) ≡ true
right_or true b h = refl
right_or false b h = h

-- the flow keeps its own number
same_is_own : (rule : Rule) (t : Tuple) (number : ℕ) → number ≡ own_number rule t → is_own_or_barred rule t number ≡ true
same_is_own rule t number same = left_or _ _ (eq-eqb number (own_number rule t) same)

-- its own number is not allowed
lacking_is_barred : (rule : Rule) (t : Tuple) (choice : Choice) (number : ℕ) → IsChoice rule t choice
    → has_own choice (own_number rule t) ≡ false → is_own_or_barred rule t number ≡ true
lacking_is_barred rule t choice number is lacks =
    right_or (number == own_number rule t) _ (ap not (own_allowed rule t choice is ∙ lacks))

-- the first number that is tried
pub record IsFirst (rule : Rule) (t : Tuple) (choice : Choice) (has : Bool) (number : ℕ) : Type 0 where
  pub has_own : has ≡ has_own choice (own_number rule t)
  pub own : has ≡ true → number ≡ own_number rule t
  pub above : has ≡ false → choice.low ≤ number
  pub below : has ≡ false → number ≤ choice.high

pub is_first : (rule : Rule) (t : Tuple) (choice : Choice) (own number : ℕ) (has : Bool) → own ≡ own_number rule t
    → has ≡ has_own choice own → (has ≡ true → number ≡ own) → (has ≡ false → choice.low ≤ number)
    → (has ≡ false → number ≤ choice.high) → IsFirst rule t choice has number
is_first rule t choice own number has is same kept above below = record {
  has_own = subst (λ n. has ≡ has_own choice n) is same;
  own = λ h. kept h ∙ is;
  above = above;
  below = below;
}

first_is_own_or_barred : (rule : Rule) (t : Tuple) (choice : Choice) (number : ℕ) (has : Bool) → IsChoice rule t choice
    → IsFirst rule t choice has number → is_own_or_barred rule t number ≡ true
first_is_own_or_barred rule t choice number true is first = same_is_own rule t number (first.own refl)
first_is_own_or_barred rule t choice number false is first = lacking_is_barred rule t choice number is (sym first.has_own)

first_allowed : (rule : Rule) (t : Tuple) (choice : Choice) (number : ℕ) (has : Bool) → IsChoice rule t choice
    → IsFirst rule t choice has number → is_allowed rule t number ≡ true
first_allowed rule t choice number true is first =
    ap (is_allowed rule t) (first.own refl) ∙ own_allowed rule t choice is ∙ sym first.has_own
first_allowed rule t choice number false is first =
    is number ∙ left_or _ _ (between_of choice.low choice.high number (first.above refl) (first.below refl))

-- the first number was free
pub chooses_first : (rule : Rule) (t reply : Tuple) (old new : Sight) (choice : Choice) (number at : ℕ) (has : Bool)
    → IsChoice rule t choice → IsFirst rule t choice has number → reply ≡ reply_with rule t number
    → Looked old new at (λ s. is_free reply s ≡ true) → TranslateSays (Some rule) t old new (Chosen reply None)
chooses_first rule t reply old new choice number at has is first gives looked = (
  refl,
  record {
    lawful = record {
      number = number;
      allowed = first_allowed rule t choice number has is first;
      gives = gives;
      own = first_is_own_or_barred rule t choice number has is first;
    };
    tried = omega arith;
    free = record { point = at; low = looked.low; high = looked.fact.within; fact = looked.fact };
  },
)

found_allowed : (rule : Rule) (t : Tuple) (choice : Choice) (number : ℕ) → IsChoice rule t choice
    → choice.low ≤ number → number < choice.high + 1 → is_allowed rule t number ≡ true
found_allowed rule t choice number is above below =
    is number ∙ left_or _ _ (between_of choice.low choice.high number above (omega (arith, below)))

-- another number was free, and the rule does not allow the own one
pub chooses_free : (rule : Rule) (t : Tuple) (old mid new : Sight) (choice : Choice) (tried from : ℕ) (reply : Tuple) (at : ℕ)
    (has : Bool) → IsChoice rule t choice → IsFirst rule t choice has tried → has ≡ false
    → Saw old mid → FindsFree rule t (others_of choice tried from) mid new reply at → TranslateSays (Some rule) t old new (Chosen reply None)
chooses_free rule t old mid new choice tried from reply at has is first lacks saw finds = (
  refl,
  record {
    lawful = record {
      number = finds.number;
      allowed = found_allowed rule t choice finds.number is finds.low finds.high;
      gives = finds.gives;
      own = lacking_is_barred rule t choice finds.number is (sym first.has_own ∙ lacks);
    };
    tried = omega arith;
    free = record {
      point = at;
      low = omega (arith, finds.later, starts_longer mid.front old.front saw.went.front);
      high = finds.free.within;
      fact = finds.free;
    };
  },
)

module _ (stay : StatesStay) where
  -- another number was free than the own one, which was taken
  pub chooses_other : (rule : Rule) (t taken : Tuple) (old mid new : Sight) (choice : Choice) (tried from : ℕ) (reply : Tuple) (at : ℕ)
      (has : Bool) → IsChoice rule t choice → IsFirst rule t choice has tried → has ≡ true → taken ≡ reply_with rule t tried
      → Looked old mid from (IsTaken taken) → Saw mid new → FindsFree rule t (others_of choice tried from) mid new reply at
      → TranslateSays (Some rule) t old new (Chosen reply (Some from))
  chooses_other rule t taken old mid new choice tried from reply at has is first own gives looked saw finds = (
    refl,
    record {
      lawful = record {
        number = finds.number;
        allowed = found_allowed rule t choice finds.number is finds.low finds.high;
        gives = finds.gives;
        own = (
          given_up _ _ (ne_eqb finds.number (own_number rule t) (λ e. finds.other (e ∙ sym (first.own own))))
              (own_allowed rule t choice is ∙ sym first.has_own ∙ own),
          at_grows stay new.front mid.front from (IsTaken (reply_with rule t (own_number rule t))) saw.went.front
              (subst (λ u. At mid.front from (IsTaken u)) (gives ∙ ap (reply_with rule t) (first.own own)) looked.fact),
        );
      };
      tried = looked.low;
      free = record {
        point = at;
        low = omega (arith, looked.fact.within, finds.later);
        high = finds.free.within;
        fact = finds.free;
      };
    },
  )

  -- no number was free
  pub no_port : (rule : Rule) (t taken : Tuple) (old mid new : Sight) (choice : Choice) (tried from to : ℕ) (has : Bool)
      → IsChoice rule t choice → IsFirst rule t choice has tried → taken ≡ reply_with rule t tried
      → Looked old mid from (IsTaken taken) → IsSearching rule t (others_of choice tried from) mid new to
      → TranslateSays (Some rule) t old new (NoPort from to)
  no_port rule t taken old mid new choice tried from to has is first gives looked searched = (
    looked.low,
    record {
      rule = rule;
      is_first = refl;
      ordered = searched.ordered;
      within = searched.seen;
      taken = λ n allowed. ⊎_elim
          (λ same. record {
            point = from;
            low = omega arith;
            high = searched.ordered;
            fact = at_grows stay new.front mid.front from (IsTaken (reply_with rule t n)) searched.saw.went.front
                (subst (λ u. At mid.front from (IsTaken u)) (gives ∙ ap (reply_with rule t) (sym same)) looked.fact);
          })
          (λ other. searched.taken n (low_of choice.low choice.high n (among n allowed other))
          (omega (arith, high_of choice.low choice.high n (among n allowed other))) other)
          (cases_eq n tried);
    },
  )
    where
      is_tried : (n : ℕ) → (choice.keeps_own && n == own_number rule t) ≡ true → n ≡ tried
      is_tried n beside =
          eqb-true n (own_number rule t) (and_parts choice.keeps_own _ beside).1
          ∙ sym (first.own (first.has_own ∙ right_or _ choice.keeps_own (and_parts choice.keeps_own _ beside).0))

      among : (n : ℕ) → is_allowed rule t n ≡ true → n ≢ tried → is_in_range choice.low choice.high n ≡ true
      among n allowed other = ⊎_elim
          (λ inside. inside)
          (λ beside. absurd (other (is_tried n beside)))
          (or_cases (is_in_range choice.low choice.high n) _ (sym (is n) ∙ allowed))

some_eq : (a b : Rule) → Some a ≡ Some b → a ≡ b
some_eq a b h = cc

-- a rule that is found among lawful ones is lawful
pub found_lawful : (t : Tuple) (rules : List Rule) (rule : Rule) → AllByRecursion IsLawfulRule rules
    → rule_for rules t ≡ Some rule → IsLawfulRule rule
found_lawful t [] rule lawful h = absurd (cc)
found_lawful t (r ∷ rs) rule lawful h = first (matches t r) h (found_lawful t rs rule lawful.1)
  where
    first : (b : Bool) → cond b (Some r) (find (matches t) rs) ≡ Some rule
        → (find (matches t) rs ≡ Some rule → IsLawfulRule rule) → IsLawfulRule rule
    first true h later = subst IsLawfulRule (some_eq r rule h) lawful.0
    first false h later = later h
