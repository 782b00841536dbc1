-- Of words, and files whose contents are told, one thing is found.
use Rattle.std.proofs.Common.{◌≡◌, ◌⊎◌, ℕ, ◌≤◌, zero, suc, Option, Some, None, Result, Ok, Err, List, [], ◌∷◌, refl, sym, ap, subst, inl, inr, arith}
use Rattle.std.specs.Prelude.{IfSome, IsSome}
use Rattle.command_words.specs.Words.{asked_of, Request}
use Rattle.command_words.specs.WordsLaws.{WordsWantNoMemory}
use Rattle.command_words.specs.declared.WordsError.{WordsError}
use Rattle.command_words.specs.declared.WordsError.TheVariants as unasked
use Rattle.command_words.specs.declared.WordsLimit.{WordsLimit}
use Rattle.ct_io.specs.Source.{Source}
use Rattle.run_inputs.specs.declared.flaw.Flaw.{Flaw}
use Rattle.run_inputs.specs.Content.{Content, IsRead, most_packets, no_totals, Totals, totals_with}
use Rattle.run_inputs.specs.Flaw.{HasFlaw}
use Rattle.run_inputs.specs.Inputs.{AreGiven, AreRead, AreReadFrom, AreTold, clean, Finding, Finds, FirstFlaw, FirstFlawFrom, flawed, misused, past}
use Rattle.run_inputs.specs.Laws.{AreAllTold, ContentsAreUnique, FilesAreReadOrFlawed, FindingsAreUnique, FlawsAreUnique, InputsAreFound, ReadFilesHaveNoFlaw}
use Rattle.run_inputs.specs.Files.{AskFor, files_asked, files_of, InputFile}
use Rattle.run_inputs.proofs.Findings.{Agree, agree, at_asked, not_asked, one_first, read_clean, two_errors}

-- ---- something is found

none_told : IsSome {T = List ℕ} None → ⊥
none_told is = cc

-- contents that are told are some bytes
told_bytes : (told : Option (List ℕ)) → IsSome told → (bytes : List ℕ) × (told ≡ Some bytes)
told_bytes None is = absurd (none_told is)
told_bytes (Some bytes) is = (bytes, refl)

-- files are all read, or one is the first with a flaw, with contents that are told
abbrev Scanned : Source → Totals → List InputFile → Type 0
Scanned files before inputs =
    (bytes : List (List ℕ)) × AreTold files inputs bytes
    × (((contents : List Content) × AreReadFrom before inputs bytes contents)
    ⊎ ((file : ℕ) × (flaw : Flaw) × FirstFlawFrom before inputs bytes file flaw))

-- behind a file that is read
behind : (files : Source) (before : Totals) (input : InputFile) (inputs : List InputFile) (b : List ℕ) (content : Content)
    (bytes : List (List ℕ)) → files.contents input.name ≡ Some b → IsRead input.kind before b content → AreTold files inputs bytes
    → ((contents : List Content) × AreReadFrom (totals_with before b content) inputs bytes contents)
    ⊎ ((file : ℕ) × (flaw : Flaw) × FirstFlawFrom (totals_with before b content) inputs bytes file flaw)
    → Scanned files before (input ∷ inputs)
behind files before input inputs b content bytes is read told (inl rest) =
    (b ∷ bytes, (is, told), inl (content ∷ rest.0, (read, rest.1)))
behind files before input inputs b content bytes is read told (inr first) =
    (b ∷ bytes, (is, told), inr (suc first.0, first.1, (content, read, first.2)))

-- a file that is read or has a flaw, before others
scan_next : (files : Source) (before : Totals) (input : InputFile) (inputs : List InputFile) (b : List ℕ)
    → files.contents input.name ≡ Some b
    → (((content : Content) × IsRead input.kind before b content) ⊎ ((flaw : Flaw) × HasFlaw input.kind before b flaw))
    → ((content : Content) → IsRead input.kind before b content → Scanned files (totals_with before b content) inputs)
    → Scanned files before (input ∷ inputs)
scan_next files before input inputs b is (inl read) rest =
    let more : Scanned files (totals_with before b read.0) inputs = rest read.0 read.1 in
    behind files before input inputs b read.0 more.0 is read.1 more.1 more.2
scan_next files before input inputs b is (inr flaw) rest = (b ∷ [], (is, tt), inr (zero, flaw.0, flaw.1))

scan : FilesAreReadOrFlawed → (files : Source) (before : Totals) (inputs : List InputFile) → before.packets ≤ most_packets
    → AreAllTold files inputs → Scanned files before inputs
scan sorted files before [] few told = ([], tt, inl ([], tt))
scan sorted files before (input ∷ inputs) few told =
    let b : (bytes : List ℕ) × (files.contents input.name ≡ Some bytes) = told_bytes (files.contents input.name) told.0 in
    scan_next files before input inputs b.0 b.1 (sorted input.kind before b.0 few)
    (λ content read. scan sorted files (totals_with before b.0 content) inputs read.few told.1)

module _ (words : List (List ℕ)) (files : Source) where
  by_scan : (asked : Request) (bytes : List (List ℕ)) → asked_of words ≡ Ok asked → AreTold files (files_of asked) bytes
      → ((contents : List Content) × AreReadFrom no_totals (files_of asked) bytes contents)
      ⊎ ((file : ℕ) × (flaw : Flaw) × FirstFlawFrom no_totals (files_of asked) bytes file flaw)
      → (found : Finding) × Finds words files found
  by_scan asked bytes says told (inl all) =
      (clean, record { asked = asked; says = says; holds = (all.0, record { bytes = bytes; told = told; read = all.1 }) })
  by_scan asked bytes says told (inr first) =
      (flawed first.0 first.1, record { asked = asked; says = says; holds = record { bytes = bytes; given = told; first = first.2 } })

  found_by : FilesAreReadOrFlawed → WordsWantNoMemory → (answer : Result Request WordsError) → asked_of words ≡ answer
      → AreAllTold files (files_asked answer) → (found : Finding) × Finds words files found
  found_by sorted known (Ok asked) says told =
      let all : Scanned files no_totals (files_of asked) = scan sorted files no_totals (files_of asked) (omega arith) told in
      by_scan asked all.0 says all.1 all.2
  found_by sorted known (Err unasked.Usage) says told = (misused, says)
  found_by sorted known (Err (unasked.Limit limit)) says told = (past limit, says)
  found_by sorted known (Err unasked.NoMemory) says told = absurd (known words says)

pub inputs_are_found : FilesAreReadOrFlawed → WordsWantNoMemory → InputsAreFound
inputs_are_found sorted known = λ words files told. found_by words files sorted known (asked_of words) refl told

-- ---- one thing is found

given_of_told : (told : Option (List ℕ)) (b : List ℕ) → told ≡ Some b → IfSome told (λ contents. b ≡ contents)
given_of_told None b is = tt
given_of_told (Some contents) b is = sym (subst (λ (t : Option (List ℕ)). IfSome t (λ found. contents ≡ found)) is refl)

-- contents that are told are those that are given
told_are_given : (files : Source) (inputs : List InputFile) (bytes : List (List ℕ)) → AreTold files inputs bytes → AreGiven files inputs bytes
told_are_given files inputs [] told = tt
told_are_given files [] (b ∷ bytes) told = absurd told
told_are_given files (input ∷ inputs) (b ∷ bytes) told =
    (given_of_told (files.contents input.name) b told.0, told_are_given files inputs bytes told.1)

module _ (clean_files : ReadFilesHaveNoFlaw) (one : ContentsAreUnique) where
  -- the first flaw is that of one file
  one_place : (before : Totals) (inputs : List InputFile) (bytes others : List (List ℕ)) (k l : ℕ) (f g : Flaw)
      → Agree bytes others → FirstFlawFrom before inputs bytes k f → FirstFlawFrom before inputs others l g → k ≡ l
  one_place before [] bytes others k l f g same found also = absurd found
  one_place before (input ∷ inputs) [] others k l f g same found also = absurd found
  one_place before (input ∷ inputs) (b ∷ bytes) [] k l f g same found also = absurd also
  one_place before (input ∷ inputs) (b ∷ bytes) (o ∷ others) zero zero f g same found also = refl
  one_place before (input ∷ inputs) (b ∷ bytes) (o ∷ others) zero (suc l) f g same found also =
      absurd (clean_files input.kind before o also.0 f also.1 (subst (λ x. HasFlaw input.kind before x f) same.0 found))
  one_place before (input ∷ inputs) (b ∷ bytes) (o ∷ others) (suc k) zero f g same found also =
      absurd (clean_files input.kind before o found.0 g (subst (λ x. IsRead input.kind before x found.0) same.0 found.1) also)
  one_place before (input ∷ inputs) (b ∷ bytes) (o ∷ others) (suc k) (suc l) f g same found also =
      let here : IsRead input.kind before o found.0 = subst (λ x. IsRead input.kind before x found.0) same.0 found.1 in
      let content : found.0 ≡ also.0 = one input.kind before o found.0 also.0 here also.1 in
      let total : totals_with before b found.0 ≡ totals_with before o also.0 = rw (same.0, content) refl in
      ap suc (one_place (totals_with before o also.0) inputs bytes others k l f g same.1
      (subst (λ (t : Totals). FirstFlawFrom t inputs bytes k f) total found.2) also.2)

same_limit : (words : List (List ℕ)) (limit other : WordsLimit) → asked_of words ≡ Err (unasked.Limit limit)
    → asked_of words ≡ Err (unasked.Limit other) → limit ≡ other
same_limit words limit other says also = cc

module _ (clean_files : ReadFilesHaveNoFlaw) (one : ContentsAreUnique) (unique : FlawsAreUnique) (words : List (List ℕ)) (files : Source) where
  told_agree : (asked : Request) (bytes others : List (List ℕ)) → AreTold files (files_of asked) bytes
      → AreTold files (files_of asked) others → Agree bytes others
  told_agree asked bytes others told also = agree files (files_of asked) bytes others (told_are_given files (files_of asked) bytes told) also

  one_flawed : (k l : ℕ) (f g : Flaw) → AskFor words (λ asked. FirstFlaw AreTold files (files_of asked) k f)
      → AskFor words (λ asked. FirstFlaw AreTold files (files_of asked) l g) → flawed k f ≡ flawed l g
  one_flawed k l f g first also =
      let found : FirstFlaw AreTold files (files_of also.asked) k f =
      at_asked words also.asked (λ (asked : Request). FirstFlaw AreTold files (files_of asked) k f) also.says first in
      let same : Agree found.bytes also.holds.bytes = told_agree also.asked found.bytes also.holds.bytes found.given also.holds.given in
      let place : k ≡ l = one_place clean_files one no_totals (files_of also.asked) found.bytes also.holds.bytes k l f g
      same found.first also.holds.first in
      let flaw : f ≡ g = one_first clean_files one unique no_totals (files_of also.asked) found.bytes also.holds.bytes k l f g
      same found.first also.holds.first in
      rw (place, flaw) refl

  flawed_or_clean : (k : ℕ) (f : Flaw) → AskFor words (λ asked. FirstFlaw AreTold files (files_of asked) k f)
      → AskFor words (λ asked. (contents : List Content) × AreRead files (files_of asked) contents) → ⊥
  flawed_or_clean k f first all =
      let found : FirstFlaw AreTold files (files_of all.asked) k f =
      at_asked words all.asked (λ (asked : Request). FirstFlaw AreTold files (files_of asked) k f) all.says first in
      let read = all.holds.1 in
      read_clean clean_files one no_totals (files_of all.asked) read.bytes found.bytes all.holds.0 k f
      (told_agree all.asked read.bytes found.bytes read.told found.given) read.read found.first

  one_finding : (found other : Finding) → Finds words files found → Finds words files other → found ≡ other
  one_finding misused misused finds also = refl
  one_finding misused (past limit) finds also = absurd (two_errors words limit finds also)
  one_finding misused (flawed l g) finds also = absurd (not_asked words also.asked unasked.Usage finds also.says)
  one_finding misused clean finds also = absurd (not_asked words also.asked unasked.Usage finds also.says)
  one_finding (past limit) misused finds also = absurd (two_errors words limit also finds)
  one_finding (past limit) (past other) finds also = ap past (same_limit words limit other finds also)
  one_finding (past limit) (flawed l g) finds also = absurd (not_asked words also.asked (unasked.Limit limit) finds also.says)
  one_finding (past limit) clean finds also = absurd (not_asked words also.asked (unasked.Limit limit) finds also.says)
  one_finding (flawed k f) misused finds also = absurd (not_asked words finds.asked unasked.Usage also finds.says)
  one_finding (flawed k f) (past other) finds also = absurd (not_asked words finds.asked (unasked.Limit other) also finds.says)
  one_finding (flawed k f) (flawed l g) finds also = one_flawed k l f g finds also
  one_finding (flawed k f) clean finds also = absurd (flawed_or_clean k f finds also)
  one_finding clean misused finds also = absurd (not_asked words finds.asked unasked.Usage also finds.says)
  one_finding clean (past other) finds also = absurd (not_asked words finds.asked (unasked.Limit other) also finds.says)
  one_finding clean (flawed l g) finds also = absurd (flawed_or_clean l g also finds)
  one_finding clean clean finds also = refl

pub findings_are_unique : ReadFilesHaveNoFlaw → ContentsAreUnique → FlawsAreUnique → FindingsAreUnique
findings_are_unique clean_files one unique = λ words files found other finds also.
    one_finding clean_files one unique words files found other finds also
