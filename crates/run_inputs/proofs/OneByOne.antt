-- What reading one file after the other gives.
use Rattle.std.proofs.Common.{◌≡◌, ℕ, ◌+◌, ◌<◌, ◌≤◌, zero, suc, Option, Some, None, List, [], ◌∷◌, ◌++◌, length, refl, subst, ◌∙◌, inl, inr, arith, le_trans}
use Rattle.std.specs.Prelude.{IfSome}
use Rattle.std.proofs.Math.ListN.{replicate}
use Rattle.std.proofs.lemmas.Bool.{cases_lt, le-leb, lt-leb}
use Rattle.std.proofs.lemmas.List.{length-replicate}
use Rattle.ct_io.specs.Counts.{Rose}
use Rattle.ct_io.specs.Source.{SameFaults, Source, Stays}
use Rattle.run_inputs.specs.declared.flaw.FileKind.{FileKind}
use Rattle.run_inputs.specs.declared.flaw.FileKind.TheVariants as kind
use Rattle.run_inputs.specs.declared.flaw.Flaw.{Flaw}
use Rattle.run_inputs.specs.declared.flaw.Refusal.{Refusal}
use Rattle.run_inputs.specs.declared.flaw.Refusal.TheVariants.{Flawed, Misused, NoMemory, NotOpened, NotRead, PastLimit}
use Rattle.run_inputs.specs.Causes.{CannotOpen, CannotRead, OpeningFailed, ReadingFailed}
use Rattle.run_inputs.specs.Content.{bytes_left, Content, totals_with, IsRead, IsShortEnough, most_bytes, Totals}
use Rattle.run_inputs.specs.Flaw.{HasFlaw}
use Rattle.run_inputs.specs.Inputs.{AreGiven, FirstFlawFrom, ReachesFrom}
use Rattle.run_inputs.specs.Reading.{GaveContents, HasCauseFrom, IsGiven, IsReached, IsReasonIn, most_read, Part, part_of, too_long, totals_after}
use Rattle.run_inputs.specs.Files.{InputFile}

-- ---- from one source to a later one

-- counts that stand twice stand
pub same_faults : (files between files' : Source) → SameFaults files between → SameFaults between files' → SameFaults files files'
same_faults files between files' first second = record {
  open_faults = λ name. second.open_faults name ∙ first.open_faults name;
  read_faults = second.read_faults ∙ first.read_faults;
}

-- what stays twice stays
pub stays_then : (files between files' : Source) → Stays files between → Stays between files' → Stays files files'
stays_then files between files' first second = record {
  contents = λ name. second.contents name ∙ first.contents name;
  shares = λ name other. second.shares name other ∙ first.shares name other;
  counts_reads = λ name. second.counts_reads name ∙ first.counts_reads name;
  open_faults = λ name. le_trans (first.open_faults name) (second.open_faults name);
  read_faults = le_trans first.read_faults second.read_faults;
}

-- what is reached is so where something else holds of it
reached_then : (P Q : Totals → InputFile → Type 0) → ((before : Totals) (input : InputFile) → P before input → Q before input)
    → (before : Totals) (inputs : List InputFile) (bytes : List (List ℕ)) (k : ℕ)
    → ReachesFrom P before inputs bytes k → ReachesFrom Q before inputs bytes k
reached_then P Q then before [] bytes k reached = absurd reached
reached_then P Q then before (input ∷ inputs) bytes zero reached = then before input reached
reached_then P Q then before (input ∷ inputs) [] (suc k) reached = absurd reached
reached_then P Q then before (input ∷ inputs) (b ∷ rest) (suc k) reached =
    (reached.0, reached.1, reached_then P Q then (totals_with before b reached.0) inputs rest k reached.2)

module _ (files between : Source) (stays : Stays files between) where
  -- what is told later is told from the beginning on
  pub is_given_later : (name bytes : List ℕ) → IsGiven between name bytes → IsGiven files name bytes
  is_given_later name bytes given = subst (λ (told : Option (List ℕ)). IfSome told (λ contents. bytes ≡ contents)) (stays.contents name) given

  pub given_later : (inputs : List InputFile) (bytes : List (List ℕ)) → AreGiven between inputs bytes → AreGiven files inputs bytes
  given_later inputs [] given = tt
  given_later [] (b ∷ more) given = given
  given_later (input ∷ inputs) (b ∷ more) given = (is_given_later input.name b given.0, given_later inputs more given.1)

  pub gave_later : (before : Totals) (inputs : List InputFile) (bytes : List (List ℕ)) (contents : List Content)
      → GaveContents between before inputs bytes contents → GaveContents files before inputs bytes contents
  gave_later before inputs bytes contents gave = record { given = given_later inputs bytes gave.given; read = gave.read }

  -- a failed opening or read later is one from the beginning on, where no call failed before it
  module _ (same : SameFaults files between) (files' : Source) where
    opening_later : (name : List ℕ) → OpeningFailed between files' name → OpeningFailed files files' name
    opening_later name failed = record {
      rose = subst (λ (k : ℕ). Rose k (files'.open_faults name)) (same.open_faults name) failed.rose;
      alone = record {
        opens = λ other apart. failed.alone.opens other (stays.shares name other ∙ apart) ∙ same.open_faults other;
        reads = λ apart. failed.alone.reads (stays.counts_reads name ∙ apart) ∙ same.read_faults;
      };
    }

    reading_later : (name : List ℕ) (Fits : List ℕ → Type 0) → ReadingFailed between files' name Fits → ReadingFailed files files' name Fits
    reading_later name Fits failed = record {
      rose = subst (λ (k : ℕ). Rose k files'.read_faults) same.read_faults failed.rose;
      alone = λ other apart. failed.alone other (stays.counts_reads other ∙ apart) ∙ same.open_faults other;
      front = failed.front;
      so_far = failed.so_far ∙ stays.contents name;
      fits = failed.fits;
    }

    reached_later : (part : Part) (file : ℕ) (P Q : Totals → InputFile → Type 0)
        → ((before : Totals) (input : InputFile) → P before input → Q before input)
        → IsReached part between file P → IsReached part files file Q
    reached_later part file P Q then reached = record {
      index = reached.index;
      number = reached.number;
      bytes = reached.bytes;
      given = given_later part.inputs reached.bytes reached.given;
      reached = reached_then P Q then part.before part.inputs reached.bytes reached.index reached.reached;
    }

    -- a cause that is found later is one from the beginning on
    pub cause_later : (part : Part) (why : Refusal) → HasCauseFrom part between files' why → HasCauseFrom part files files' why
    cause_later part Misused cause = cause
    cause_later part (PastLimit limit) cause = cause
    cause_later part (Flawed file flaw) cause = record {
      index = cause.index;
      number = cause.number;
      bytes = cause.bytes;
      given = given_later part.inputs cause.bytes cause.given;
      found = cause.found;
    }
    cause_later part (NotOpened file) cause =
        reached_later part file (CannotOpen between files') (CannotOpen files files') (λ before input failed. opening_later input.name failed) cause
    cause_later part (NotRead file) cause =
        reached_later part file (CannotRead between files') (CannotRead files files')
        (λ before input failed. reading_later input.name (λ front. IsShortEnough input.kind before front) failed) cause
    cause_later part NoMemory cause = cause

-- ---- the cause in one file

-- bytes that are the contents where those are told, and more than so many
some_bytes : (told : Option (List ℕ)) (most : ℕ) → IfSome told (λ contents. most < length contents)
    → (bytes : List ℕ) × IfSome told (λ contents. bytes ≡ contents) × (most < length bytes)
some_bytes None most more = (replicate {A = ℕ} (most + 1) 0, tt, omega (arith, length-replicate {A = ℕ} (most + 1) 0))
some_bytes (Some contents) most more = (contents, refl, more)

-- of two limits the one that an earlier byte passes
long_flaw : (of : FileKind) (before : Totals) (bytes : List ℕ) → most_read of before < length bytes → HasFlaw of before bytes (too_long of before)
long_flaw kind.Rules before bytes long = (refl, long)
long_flaw kind.Script before bytes long = (refl, long)
long_flaw kind.Capture before bytes long = elim (cases_lt (bytes_left before) (most_bytes kind.Capture)) [
  | inl less ↦ rw (lt-leb (most_bytes kind.Capture) (bytes_left before) less) (refl, omega (arith, long, less), less)
  | inr more ↦ rw (le-leb (most_bytes kind.Capture) (bytes_left before) more) (refl, (omega (arith, long, more), more))
]

-- so few bytes are not too many
short_enough : (of : FileKind) (before : Totals) (bytes : List ℕ) → length bytes ≤ most_read of before → IsShortEnough of before bytes
short_enough kind.Rules before bytes few = few
short_enough kind.Script before bytes few = few
short_enough kind.Capture before bytes few = (omega (arith, few), omega (arith, few))

module _ (before : Totals) (at : ℕ) (input : InputFile) (files files' : Source) where
  -- its bytes have a flaw
  pub flaw_here : (bytes : List ℕ) (why : Refusal) → IsGiven files input.name bytes → IsReasonIn at input.kind before bytes why
      → HasCauseFrom (part_of before at (input ∷ [])) files files' why
  flaw_here bytes Misused given reason = reason
  flaw_here bytes (PastLimit limit) given reason = reason
  flaw_here bytes (Flawed file flaw) given reason = record {
    index = 0;
    number = omega (arith, reason.0);
    bytes = bytes ∷ [];
    given = (given, tt);
    found = reason.1;
  }
  flaw_here bytes (NotOpened file) given reason = absurd reason
  flaw_here bytes (NotRead file) given reason = absurd reason
  flaw_here bytes NoMemory given reason = tt

  -- it has too many bytes, whether its contents are told or not
  pub too_long_here : IfSome (files.contents input.name) (λ contents. most_read input.kind before < length contents)
      → HasCauseFrom (part_of before at (input ∷ [])) files files' (Flawed at (too_long input.kind before))
  too_long_here more =
      let long = some_bytes (files.contents input.name) (most_read input.kind before) more in
      flaw_here long.0 (Flawed at (too_long input.kind before)) long.1 (refl, long_flaw input.kind before long.0 long.2)

  -- it is reached at once
  reached_here : (P : Totals → InputFile → Type 0) → P before input → IsReached (part_of before at (input ∷ [])) files at P
  reached_here P holds = record { index = 0; number = omega arith; bytes = []; given = tt; reached = holds }

  pub not_opened_here : OpeningFailed files files' input.name → HasCauseFrom (part_of before at (input ∷ [])) files files' (NotOpened at)
  not_opened_here failed = reached_here (CannotOpen files files') failed

  pub not_read_here : (most : ℕ) → most ≡ most_read input.kind before → ReadingFailed files files' input.name (λ front. length front ≤ most)
      → HasCauseFrom (part_of before at (input ∷ [])) files files' (NotRead at)
  not_read_here most is failed = reached_here (CannotRead files files') (record {
    rose = failed.rose;
    alone = failed.alone;
    front = failed.front;
    so_far = failed.so_far;
    fits = short_enough input.kind before failed.front (omega (arith, is, failed.fits));
  })

-- ---- files in front of others

module _ (files : Source) (more : List InputFile) where
  given_front : (inputs : List InputFile) (bytes : List (List ℕ)) → AreGiven files inputs bytes → AreGiven files (inputs ++ more) bytes
  given_front inputs [] given = tt
  given_front [] (b ∷ rest) given = absurd given
  given_front (input ∷ inputs) (b ∷ rest) given = (given.0, given_front inputs rest given.1)

  flaw_front : (before : Totals) (inputs : List InputFile) (bytes : List (List ℕ)) (k : ℕ) (flaw : Flaw)
      → FirstFlawFrom before inputs bytes k flaw → FirstFlawFrom before (inputs ++ more) bytes k flaw
  flaw_front before [] bytes k flaw found = absurd found
  flaw_front before (input ∷ inputs) [] k flaw found = absurd found
  flaw_front before (input ∷ inputs) (b ∷ rest) zero flaw found = found
  flaw_front before (input ∷ inputs) (b ∷ rest) (suc k) flaw found =
      (found.0, found.1, flaw_front (totals_with before b found.0) inputs rest k flaw found.2)

  front_reached : (P : Totals → InputFile → Type 0) (before : Totals) (inputs : List InputFile) (bytes : List (List ℕ)) (k : ℕ)
      → ReachesFrom P before inputs bytes k → ReachesFrom P before (inputs ++ more) bytes k
  front_reached P before [] bytes k reached = absurd reached
  front_reached P before (input ∷ inputs) bytes zero reached = reached
  front_reached P before (input ∷ inputs) [] (suc k) reached = absurd reached
  front_reached P before (input ∷ inputs) (b ∷ rest) (suc k) reached =
      (reached.0, reached.1, front_reached P (totals_with before b reached.0) inputs rest k reached.2)

  module _ (before : Totals) (first : ℕ) (inputs : List InputFile) where
    reached_front : (file : ℕ) (P : Totals → InputFile → Type 0)
        → IsReached (part_of before first inputs) files file P → IsReached (part_of before first (inputs ++ more)) files file P
    reached_front file P reached = record {
      index = reached.index;
      number = reached.number;
      bytes = reached.bytes;
      given = given_front inputs reached.bytes reached.given;
      reached = front_reached P before inputs reached.bytes reached.index reached.reached;
    }

    -- a cause in them is one in all
    pub cause_front : (files' : Source) (why : Refusal)
        → HasCauseFrom (part_of before first inputs) files files' why → HasCauseFrom (part_of before first (inputs ++ more)) files files' why
    cause_front files' Misused cause = cause
    cause_front files' (PastLimit limit) cause = cause
    cause_front files' (Flawed file flaw) cause = record {
      index = cause.index;
      number = cause.number;
      bytes = cause.bytes;
      given = given_front inputs cause.bytes cause.given;
      found = flaw_front before inputs cause.bytes cause.index flaw cause.found;
    }
    cause_front files' (NotOpened file) cause = reached_front file (CannotOpen files files') cause
    cause_front files' (NotRead file) cause = reached_front file (CannotRead files files') cause
    cause_front files' NoMemory cause = cause

-- ---- files behind others that were read

module _ (files : Source) (before : Totals) (first : ℕ) (input : InputFile) (inputs : List InputFile) (b : List ℕ) (content : Content)
    (given : IsGiven files input.name b) (read : IsRead input.kind before b content) where
  reached_behind : (file : ℕ) (P : Totals → InputFile → Type 0) → IsReached (part_of (totals_with before b content) (first + 1) inputs) files file P
      → IsReached (part_of before first (input ∷ inputs)) files file P
  reached_behind file P reached = record {
    index = suc reached.index;
    number = omega (arith, reached.number);
    bytes = b ∷ reached.bytes;
    given = (given, reached.given);
    reached = (content, read, reached.reached);
  }

  -- a cause behind one file that was read
  pub cause_behind : (files' : Source) (why : Refusal) → HasCauseFrom (part_of (totals_with before b content) (first + 1) inputs) files files' why
      → HasCauseFrom (part_of before first (input ∷ inputs)) files files' why
  cause_behind files' Misused cause = cause
  cause_behind files' (PastLimit limit) cause = cause
  cause_behind files' (Flawed file flaw) cause = record {
    index = suc cause.index;
    number = omega (arith, cause.number);
    bytes = b ∷ cause.bytes;
    given = (given, cause.given);
    found = (content, read, cause.found);
  }
  cause_behind files' (NotOpened file) cause = reached_behind file (CannotOpen files files') cause
  cause_behind files' (NotRead file) cause = reached_behind file (CannotRead files files') cause
  cause_behind files' NoMemory cause = cause

-- a cause behind files that were all read
pub cause_behind_all : (files files' : Source) (before : Totals) (first : ℕ) (front inputs : List InputFile)
    (bytes : List (List ℕ)) (contents : List Content) (why : Refusal) → GaveContents files before front bytes contents
    → HasCauseFrom (part_of (totals_after before bytes contents) (first + length front) inputs) files files' why
    → HasCauseFrom (part_of before first (front ++ inputs)) files files' why
cause_behind_all files files' before first [] inputs [] [] why gave cause =
    let number : first + 0 ≡ first = omega arith in
    subst (λ n. HasCauseFrom (part_of before n inputs) files files' why) number cause
cause_behind_all files files' before first [] inputs [] (content ∷ contents) why gave cause = absurd gave.read
cause_behind_all files files' before first [] inputs (b ∷ more) contents why gave cause = absurd gave.read
cause_behind_all files files' before first (input ∷ front) inputs [] contents why gave cause = absurd gave.read
cause_behind_all files files' before first (input ∷ front) inputs (b ∷ more) [] why gave cause = absurd gave.read
cause_behind_all files files' before first (input ∷ front) inputs (b ∷ more) (content ∷ contents) why gave cause =
    let number : first + length (input ∷ front) ≡ first + 1 + length front = omega arith in
    cause_behind files before first input (front ++ inputs) b content gave.given.0 gave.read.0 files' why
    (cause_behind_all files files' (totals_with before b content) (first + 1) front inputs more contents why
    (record { given = gave.given.1; read = gave.read.1 })
    (subst (λ n. HasCauseFrom (part_of (totals_after (totals_with before b content) more contents) n inputs) files files' why) number cause))
