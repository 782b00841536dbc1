-- Which flaw bytes have, and what they say.
use Rattle.std.proofs.Common.{◌≡◌, ℕ, ◌+◌, ◌<◌, List, length, refl, sym, subst, ap, ◌∙◌, ◌⊎◌, inl, inr, arith}
use Rattle.std.proofs.lemmas.Bool.{cases_lt}
use Rattle.conntrack_cmd.specs.ScriptLaws as script
use Rattle.conntrack_cmd.specs.Script as script_file
use Rattle.conntrack_cmd.specs.declared.read.ScriptFault.{ScriptFault}
use Rattle.nat_setup.specs.RuleLaws as rules
use Rattle.nat_setup.specs.RuleFile as rule_file
use Rattle.nat_setup.specs.declared.read.RuleFault.{RuleFault}
use Rattle.packet_headers.specs.CaptureLaws as capture
use Rattle.packet_headers.specs.Capture as capture_file
use Rattle.packet_headers.specs.declared.capture.CaptureFault.{CaptureFault}
use Rattle.run_inputs.specs.declared.flaw.FileKind.{FileKind}
use Rattle.run_inputs.specs.declared.flaw.FileKind.TheVariants as kind
use Rattle.run_inputs.specs.declared.flaw.Flaw.{Flaw}
use Rattle.run_inputs.specs.declared.flaw.Flaw.TheVariants.{AllTooLong, Capture, Rules, Script, TooLong, TooManyPackets}
use Rattle.run_inputs.specs.Content.{bytes_left, Content, IsShortEnough, frames as frames_said, IsRead, most_bytes, most_packets, rules as rules_said, IsContentOf, script as script_said, Totals}
use Rattle.run_inputs.specs.Flaw.{HasFlaw, HasTooManyPackets, IsTooLong}
use Rattle.run_inputs.specs.Laws.{ContentsAreUnique, FilesAreReadOrFlawed, FlawsAreUnique, ReadFilesHaveNoFlaw}

-- ---- too many bytes do not fit

unfit : (of : FileKind) (before : Totals) (bytes : List ℕ) → IsTooLong of before bytes → IsShortEnough of before bytes → ⊥
unfit kind.Rules before bytes long fits = omega (arith, long, fits)
unfit kind.Script before bytes long fits = omega (arith, long, fits)
unfit kind.Capture before bytes long fits = omega (arith, long.0, fits.0)

all_unfit : (before : Totals) (bytes : List ℕ) → bytes_left before < length bytes → IsShortEnough kind.Capture before bytes → ⊥
all_unfit before bytes long fits = omega (arith, long, fits.1)

one_limit : (of : FileKind) (before : Totals) (bytes : List ℕ) → of ≡ kind.Capture → IsTooLong of before bytes
    → bytes_left before < most_bytes kind.Capture → ⊥
one_limit of before bytes capture long less =
    let here : IsTooLong kind.Capture before bytes = subst (λ (k : FileKind). IsTooLong k before bytes) capture long in
    omega (arith, here.1, less)

-- ---- what is read has no fault

rules_clean : rules.FilesHaveNoFault → (bytes : List ℕ) (content : Content) (fault : RuleFault) → IsContentOf kind.Rules bytes content
    → rule_file.HasFault bytes fault → ⊥
rules_clean law bytes (rules_said said) fault says has = law bytes said fault says has
rules_clean law bytes (script_said commands wait) fault says has = says
rules_clean law bytes (frames_said said) fault says has = says

script_clean : script.ScriptsHaveNoFault → (bytes : List ℕ) (content : Content) (fault : ScriptFault) → IsContentOf kind.Script bytes content
    → script_file.HasFault bytes fault → ⊥
script_clean law bytes (rules_said said) fault says has = says
script_clean law bytes (script_said commands wait) fault says has = law bytes commands wait fault says has
script_clean law bytes (frames_said said) fault says has = says

capture_clean : capture.CapturesHaveNoFault → (bytes : List ℕ) (content : Content) (fault : CaptureFault) → IsContentOf kind.Capture bytes content
    → capture_file.HasFault bytes fault → ⊥
capture_clean law bytes (rules_said said) fault says has = says
capture_clean law bytes (script_said commands wait) fault says has = says
capture_clean law bytes (frames_said said) fault says has = law bytes said fault says has

few_enough : capture.CapturesAreUnique → (before : Totals) (bytes : List ℕ) (content : Content) → IsRead kind.Capture before bytes content
    → HasTooManyPackets before bytes → ⊥
few_enough law before bytes (rules_said said) read has = read.says
few_enough law before bytes (script_said commands wait) read has = read.says
few_enough law before bytes (frames_said said) read has =
    omega (arith, read.few, has.many, ap length (law bytes said has.frames read.says has.capture))

module _ (of_rules : rules.FilesHaveNoFault) (of_scripts : script.ScriptsHaveNoFault) (of_captures : capture.CapturesHaveNoFault)
    (one : capture.CapturesAreUnique) where
  pub no_flaw : ReadFilesHaveNoFlaw
  no_flaw of before bytes content (TooLong kind) read flaw =
      unfit kind before bytes flaw.1 (subst (λ (k : FileKind). IsShortEnough k before bytes) flaw.0 read.fits)
  no_flaw of before bytes content AllTooLong read flaw =
      all_unfit before bytes flaw.1 (subst (λ (k : FileKind). IsShortEnough k before bytes) flaw.0 read.fits)
  no_flaw of before bytes content (Rules fault) read flaw =
      rules_clean of_rules bytes content fault (subst (λ (k : FileKind). IsContentOf k bytes content) flaw.0 read.says) flaw.2
  no_flaw of before bytes content (Script fault) read flaw =
      script_clean of_scripts bytes content fault (subst (λ (k : FileKind). IsContentOf k bytes content) flaw.0 read.says) flaw.2
  no_flaw of before bytes content (Capture fault) read flaw =
      capture_clean of_captures bytes content fault (subst (λ (k : FileKind). IsContentOf k bytes content) flaw.0 read.says) flaw.2
  no_flaw of before bytes content TooManyPackets read flaw =
      few_enough one before bytes content (subst (λ (k : FileKind). IsRead k before bytes content) flaw.0 read) flaw.2

-- ---- files say one thing

module _ (of_rules : rules.RulesAreUnique) (of_scripts : script.ScriptsAreUnique) (of_captures : capture.CapturesAreUnique) where
  says_one : (of : FileKind) (bytes : List ℕ) (content other : Content) → IsContentOf of bytes content → IsContentOf of bytes other → content ≡ other
  says_one kind.Rules bytes (rules_said said) (rules_said other) says also = ap rules_said (of_rules bytes said other says also)
  says_one kind.Rules bytes (rules_said said) (script_said others later) says also = absurd also
  says_one kind.Rules bytes (rules_said said) (frames_said other) says also = absurd also
  says_one kind.Rules bytes (script_said commands wait) other says also = absurd says
  says_one kind.Rules bytes (frames_said said) other says also = absurd says
  says_one kind.Script bytes (rules_said said) other says also = absurd says
  says_one kind.Script bytes (script_said commands wait) (rules_said other) says also = absurd also
  says_one kind.Script bytes (script_said commands wait) (script_said others later) says also =
      let same = of_scripts bytes commands others wait later says also in cc (same.0, same.1)
  says_one kind.Script bytes (script_said commands wait) (frames_said other) says also = absurd also
  says_one kind.Script bytes (frames_said said) other says also = absurd says
  says_one kind.Capture bytes (rules_said said) other says also = absurd says
  says_one kind.Capture bytes (script_said commands wait) other says also = absurd says
  says_one kind.Capture bytes (frames_said said) (rules_said other) says also = absurd also
  says_one kind.Capture bytes (frames_said said) (script_said others later) says also = absurd also
  says_one kind.Capture bytes (frames_said said) (frames_said other) says also = ap frames_said (of_captures bytes said other says also)

  pub one_content : ContentsAreUnique
  one_content of before bytes content other read also = says_one of bytes content other read.says also.says

-- ---- files have one flaw

long_for : (of kind : FileKind) (before : Totals) (bytes : List ℕ) → of ≡ kind → IsTooLong kind before bytes → IsTooLong of before bytes
long_for of kind before bytes same long = subst (λ (k : FileKind). IsTooLong k before bytes) (sym same) long

fits_for : (of kind : FileKind) (before : Totals) (bytes : List ℕ) → of ≡ kind → IsShortEnough kind before bytes → IsShortEnough of before bytes
fits_for of kind before bytes same fits = subst (λ (k : FileKind). IsShortEnough k before bytes) (sym same) fits

module _ (of_rules : rules.FaultsAreUnique) (of_scripts : script.FaultsAreUnique) (of_captures : capture.FaultsAreUnique)
    (clean : capture.CapturesHaveNoFault) where
  pub one_flaw : FlawsAreUnique
  one_flaw of before bytes (TooLong k) (TooLong l) has also = ap TooLong (sym has.0 ∙ also.0)
  one_flaw of before bytes (TooLong k) AllTooLong has also =
      absurd (one_limit of before bytes also.0 (long_for of k before bytes has.0 has.1) also.2)
  one_flaw of before bytes (TooLong k) (Rules g) has also =
      absurd (unfit of before bytes (long_for of k before bytes has.0 has.1) (fits_for of kind.Rules before bytes also.0 also.1))
  one_flaw of before bytes (TooLong k) (Script g) has also =
      absurd (unfit of before bytes (long_for of k before bytes has.0 has.1) (fits_for of kind.Script before bytes also.0 also.1))
  one_flaw of before bytes (TooLong k) (Capture g) has also =
      absurd (unfit of before bytes (long_for of k before bytes has.0 has.1) (fits_for of kind.Capture before bytes also.0 also.1))
  one_flaw of before bytes (TooLong k) TooManyPackets has also =
      absurd (unfit of before bytes (long_for of k before bytes has.0 has.1) (fits_for of kind.Capture before bytes also.0 also.1))
  one_flaw of before bytes AllTooLong (TooLong l) has also =
      absurd (one_limit of before bytes has.0 (long_for of l before bytes also.0 also.1) has.2)
  one_flaw of before bytes AllTooLong AllTooLong has also = refl
  one_flaw of before bytes AllTooLong (Rules g) has also = let e = has.0 in let f = also.0 in cc
  one_flaw of before bytes AllTooLong (Script g) has also = let e = has.0 in let f = also.0 in cc
  one_flaw of before bytes AllTooLong (Capture g) has also = absurd (all_unfit before bytes has.1 also.1)
  one_flaw of before bytes AllTooLong TooManyPackets has also = absurd (all_unfit before bytes has.1 also.1)
  one_flaw of before bytes (Rules f) (TooLong l) has also =
      absurd (unfit of before bytes (long_for of l before bytes also.0 also.1) (fits_for of kind.Rules before bytes has.0 has.1))
  one_flaw of before bytes (Rules f) AllTooLong has also = let e = has.0 in let d = also.0 in cc
  one_flaw of before bytes (Rules f) (Rules g) has also = ap Rules (of_rules bytes f g has.2 also.2)
  one_flaw of before bytes (Rules f) (Script g) has also = let e = has.0 in let d = also.0 in cc
  one_flaw of before bytes (Rules f) (Capture g) has also = let e = has.0 in let d = also.0 in cc
  one_flaw of before bytes (Rules f) TooManyPackets has also = let e = has.0 in let d = also.0 in cc
  one_flaw of before bytes (Script f) (TooLong l) has also =
      absurd (unfit of before bytes (long_for of l before bytes also.0 also.1) (fits_for of kind.Script before bytes has.0 has.1))
  one_flaw of before bytes (Script f) AllTooLong has also = let e = has.0 in let d = also.0 in cc
  one_flaw of before bytes (Script f) (Rules g) has also = let e = has.0 in let d = also.0 in cc
  one_flaw of before bytes (Script f) (Script g) has also = ap Script (of_scripts bytes f g has.2 also.2)
  one_flaw of before bytes (Script f) (Capture g) has also = let e = has.0 in let d = also.0 in cc
  one_flaw of before bytes (Script f) TooManyPackets has also = let e = has.0 in let d = also.0 in cc
  one_flaw of before bytes (Capture f) (TooLong l) has also =
      absurd (unfit of before bytes (long_for of l before bytes also.0 also.1) (fits_for of kind.Capture before bytes has.0 has.1))
  one_flaw of before bytes (Capture f) AllTooLong has also = absurd (all_unfit before bytes also.1 has.1)
  one_flaw of before bytes (Capture f) (Rules g) has also = let e = has.0 in let d = also.0 in cc
  one_flaw of before bytes (Capture f) (Script g) has also = let e = has.0 in let d = also.0 in cc
  one_flaw of before bytes (Capture f) (Capture g) has also = ap Capture (of_captures bytes f g has.2 also.2)
  one_flaw of before bytes (Capture f) TooManyPackets has also = absurd (clean bytes also.2.frames f also.2.capture has.2)
  one_flaw of before bytes TooManyPackets (TooLong l) has also =
      absurd (unfit of before bytes (long_for of l before bytes also.0 also.1) (fits_for of kind.Capture before bytes has.0 has.1))
  one_flaw of before bytes TooManyPackets AllTooLong has also = absurd (all_unfit before bytes also.1 has.1)
  one_flaw of before bytes TooManyPackets (Rules g) has also = let e = has.0 in let f = also.0 in cc
  one_flaw of before bytes TooManyPackets (Script g) has also = let e = has.0 in let f = also.0 in cc
  one_flaw of before bytes TooManyPackets (Capture g) has also = absurd (clean bytes has.2.frames g has.2.capture also.2)
  one_flaw of before bytes TooManyPackets TooManyPackets has also = refl

-- ---- each file is read or has a flaw

module _ (of_rules : rules.BytesHaveRulesOrFault) (of_scripts : script.BytesHaveScriptOrFault)
    (of_captures : capture.BytesHaveFramesOrFault) where
  -- bytes of a capture that are few enough
  capture_or_flaw : (before : Totals) (bytes : List ℕ) → IsShortEnough kind.Capture before bytes
      → ((content : Content) × IsRead kind.Capture before bytes content) ⊎ ((flaw : Flaw) × HasFlaw kind.Capture before bytes flaw)
  capture_or_flaw before bytes fits = elim (of_captures bytes) [
    | inr fault ↦ inr (Capture fault.0, (refl, fits, fault.1))
    | inl file ↦ elim (cases_lt most_packets (before.packets + length file.0)) [
      | inl many ↦ inr (TooManyPackets, (refl, fits, record { frames = file.0; capture = file.1; many = many }))
      | inr few ↦ inl (frames_said file.0, record { fits = fits; says = file.1; few = few })
    ]
  ]

  -- more than one capture may have
  too_long_or_all : (before : Totals) (bytes : List ℕ) → most_bytes kind.Capture < length bytes
      → (flaw : Flaw) × HasFlaw kind.Capture before bytes flaw
  too_long_or_all before bytes long = elim (cases_lt (bytes_left before) (most_bytes kind.Capture)) [
    | inl less ↦ (AllTooLong, (refl, omega (arith, long, less), less))
    | inr more ↦ (TooLong kind.Capture, (refl, (long, more)))
  ]

  pub read_or_flawed : FilesAreReadOrFlawed
  read_or_flawed kind.Rules before bytes few = elim (cases_lt (most_bytes kind.Rules) (length bytes)) [
    | inl long ↦ inr (TooLong kind.Rules, (refl, long))
    | inr fits ↦ elim (of_rules bytes) [
      | inl file ↦ inl (rules_said file.0, record { fits = fits; says = file.1; few = few })
      | inr fault ↦ inr (Rules fault.0, (refl, fits, fault.1))
    ]
  ]
  read_or_flawed kind.Script before bytes few = elim (cases_lt (most_bytes kind.Script) (length bytes)) [
    | inl long ↦ inr (TooLong kind.Script, (refl, long))
    | inr fits ↦ elim (of_scripts bytes) [
      | inl file ↦ inl (script_said file.0 file.1, record { fits = fits; says = file.2; few = few })
      | inr fault ↦ inr (Script fault.0, (refl, fits, fault.1))
    ]
  ]
  read_or_flawed kind.Capture before bytes few = elim (cases_lt (most_bytes kind.Capture) (length bytes)) [
    | inl long ↦ inr (too_long_or_all before bytes long)
    | inr short ↦ elim (cases_lt (bytes_left before) (length bytes)) [
      | inl long ↦ inr (AllTooLong, (refl, long, omega (arith, long, short)))
      | inr fits ↦ capture_or_flaw before bytes (short, fits)
    ]
  ]
