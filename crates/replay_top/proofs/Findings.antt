-- What the inputs are decides how a run ends.
use Rattle.std.proofs.Common.{false, ◌≡◌, ℕ, zero, suc, Ok, Err, List, [], ◌∷◌, refl, ap, subst, ◌∙◌, inl, inr, arith}
use Rattle.command_words.specs.Words.{asked_of, made, named, Origin, Request}
use Rattle.command_words.specs.declared.WordsError.{WordsError}
use Rattle.command_words.specs.declared.WordsError.TheVariants as unasked
use Rattle.std.specs.Prelude.{All, Option}
use Rattle.std.proofs.lemmas.List.Elements.{All-head}
use Rattle.ct_io.specs.Counts.{Rose}
use Rattle.ct_io.specs.Source.{SameFaults, Source}
use Rattle.ct_io.specs.Tape.{Tape}
use Rattle.history_book.specs.declared.event.Note.{Note}
use Rattle.history_book.specs.declared.report.Report.{Report}
use Rattle.run_inputs.specs.declared.flaw.Flaw.{Flaw}
use Rattle.run_inputs.specs.declared.flaw.Flaw.TheVariants as flaw
use Rattle.run_inputs.specs.declared.flaw.Refusal.{Refusal}
use Rattle.run_inputs.specs.declared.flaw.Refusal.TheVariants.{Flawed, Misused, NoMemory, NotOpened, NotRead, PastLimit}
use Rattle.replay_top.specs.Causes.{StatusFits, FilesFailed, HasCause, OthersStand}
use Rattle.run_inputs.specs.Causes.{CannotOpen, CannotRead, refusal_status}
use Rattle.run_inputs.specs.Content.{Content, totals_with, no_totals, Totals}
use Rattle.replay_top.specs.ErrorLine.{line_of}
use Rattle.run_inputs.specs.Flaw.{flaw_status}
use Rattle.run_inputs.specs.Inputs.{AreGiven, AreRead, AreTold, clean, Finding, Finds, FirstFlaw, FirstFlawFrom, flawed, misused, past, Reaches, ReachesFrom}
use Rattle.replay_top.specs.Internal.Ending.{line_about, name_among, refusal_for}
use Rattle.run_inputs.specs.Reading.{HasCauseFrom, IsReached, part_of, SameFaultsBut}
use Rattle.run_inputs.specs.Laws.{GivenIsTold, WordsSayOne}
use Rattle.replay_top.specs.Replay.{IsReplay, IsReplayOf}
use Rattle.run_inputs.specs.Files.{files_asked, files_named, files_of, files_of_names, files_of_origin, InputFile, AskFor}
use Rattle.run_inputs.specs.Made.{AreInputsOf}

-- ---- causes

-- what follows of a file that is reached, as of each of the files, follows
reached_one : (P : Totals → InputFile → Type 0) (Q : InputFile → Type 0) (R : Type 0) → ((before : Totals) (input : InputFile) → P before input → Q input → R)
    → (before : Totals) (inputs : List InputFile) (bytes : List (List ℕ)) (k : ℕ) → ReachesFrom P before inputs bytes k → All Q inputs → R
reached_one P Q R follows before [] bytes k reached all = absurd reached
reached_one P Q R follows before (input ∷ inputs) bytes zero reached all = follows before input reached (All-head Q input inputs all)
reached_one P Q R follows before (input ∷ inputs) [] (suc k) reached all = absurd reached
reached_one P Q R follows before (input ∷ inputs) (b ∷ rest) (suc k) reached all =
    reached_one P Q R follows (totals_with before b reached.0) inputs rest k reached.2 (λ i d below. all (suc i) d (omega (arith, below)))

module _ (words : List (List ℕ)) (asked : Request) (says : asked_of words ≡ Ok asked) where
  reached_asked : (files : Source) (file : ℕ) (P : Totals → InputFile → Type 0) → IsReached (part_of no_totals 0 (files_of asked)) files file P
      → AskFor words (λ asked. Reaches files (files_of asked) file P)
  reached_asked files file P cause =
      let same : cause.index ≡ file = omega (arith, cause.number) in
      record {
        asked = asked;
        says = says;
        holds = record {
          bytes = cause.bytes;
          given = cause.given;
          reached = subst (λ k. ReachesFrom P no_totals (files_of asked) cause.bytes k) same cause.reached;
        };
      }

  -- the cause of a refusal of what is asked for is the run's
  pub has_cause : (files files' : Source) (why : Refusal) → HasCauseFrom (part_of no_totals 0 (files_of asked)) files files' why → HasCause words files files' why
  has_cause files files' Misused cause = absurd cause
  has_cause files files' (PastLimit limit) cause = absurd cause
  has_cause files files' (Flawed file f) cause =
      let same : cause.index ≡ file = omega (arith, cause.number) in
      record {
        asked = asked;
        says = says;
        holds = record {
          bytes = cause.bytes;
          given = cause.given;
          first = subst (λ k. FirstFlawFrom no_totals (files_of asked) cause.bytes k f) same cause.found;
        };
      }
  has_cause files files' (NotOpened file) cause = reached_asked files file (CannotOpen files files') cause
  has_cause files files' (NotRead file) cause = reached_asked files file (CannotRead files files') cause
  has_cause files files' NoMemory cause = tt

  same_files : files_named words ≡ files_of asked
  same_files = ap files_asked says

  -- the line
  pub line_named : (why : Refusal) → line_of words why ≡ line_about (name_among (files_of asked) why) why
  line_named why = line_by why ∙ ap (λ (inputs : List InputFile). line_about (name_among inputs why) why) same_files where
    line_by : (why : Refusal) → line_of words why ≡ line_about (name_among (files_named words) why) why
    line_by Misused = refl
    line_by (PastLimit limit) = refl
    line_by (Flawed file f) = refl
    line_by (NotOpened file) = refl
    line_by (NotRead file) = refl
    line_by NoMemory = refl

-- why words ask for nothing
abbrev pub CauseOf : List (List ℕ) → WordsError → Type 0
CauseOf words unasked.Usage = asked_of words ≡ Err unasked.Usage
CauseOf words (unasked.Limit limit) = asked_of words ≡ Err (unasked.Limit limit)
CauseOf words unasked.NoMemory = Unit {0}

-- the cause of a refusal of words that ask for nothing
pub words_cause : (words : List (List ℕ)) (error : WordsError) (files files' : Source) → CauseOf words error → HasCause words files files' (refusal_for error)
words_cause words unasked.Usage files files' cause = cause
words_cause words (unasked.Limit limit) files files' cause = cause
words_cause words unasked.NoMemory files files' cause = tt

-- its line names no file
pub words_line : (words : List (List ℕ)) (error : WordsError) → line_of words (refusal_for error) ≡ line_about [] (refusal_for error)
words_line words unasked.Usage = refl
words_line words (unasked.Limit limit) = refl
words_line words unasked.NoMemory = refl

-- its status is not that of a failure
pub words_status : (error : WordsError) → refusal_status (refusal_for error) ≡ 3 → ⊥
words_status unasked.Usage three = omega (arith, three)
words_status (unasked.Limit limit) three = omega (arith, three)
words_status unasked.NoMemory three = omega (arith, three)

not_three : (f : Flaw) → flaw_status f ≡ 3 → ⊥
not_three (flaw.TooLong kind) three = omega (arith, three)
not_three flaw.AllTooLong three = omega (arith, three)
not_three (flaw.Rules fault) three = omega (arith, three)
not_three (flaw.Script fault) three = omega (arith, three)
not_three (flaw.Capture fault) three = omega (arith, three)
not_three flaw.TooManyPackets three = omega (arith, three)

-- the status 3 comes of a failure of the files
pub failed_files : (words : List (List ℕ)) (files files' : Source) (why : Refusal) → HasCause words files files' why
    → refusal_status why ≡ 3 → FilesFailed words files files'
failed_files words files files' Misused cause three = absurd (omega (arith, three))
failed_files words files files' (PastLimit limit) cause three = absurd (omega (arith, three))
failed_files words files files' (Flawed file f) cause three = absurd (not_three f three)
failed_files words files files' (NotOpened file) cause three = (file, inl cause)
failed_files words files files' (NotRead file) cause three = (file, inr cause)
failed_files words files files' NoMemory cause three = absurd (omega (arith, three))

-- ---- counts of other names

-- where no call failed they stand
pub others_same : (words : List (List ℕ)) (files files' : Source) → SameFaults files files' → OthersStand words files files'
others_same words files files' same other apart reads = same.open_faults other

-- the files of what is asked for are those that the words name
asked_files : (words : List (List ℕ)) (P : InputFile → Type 0) (asked : Request) → asked_of words ≡ Ok asked → All P (files_named words) → All P (files_of asked)
asked_files words P asked says all = subst (λ (inputs : List InputFile). All P inputs) (ap files_asked says) all

-- where one failed, only names that share in its count do not
pub others_refused : (words : List (List ℕ)) (files files' : Source) (why : Refusal) → HasCause words files files' why
    → SameFaultsBut why files files' → OthersStand words files files'
others_refused words files files' Misused cause same = others_same words files files' (same (λ three. omega (arith, three)))
others_refused words files files' (PastLimit limit) cause same = others_same words files files' (same (λ three. omega (arith, three)))
others_refused words files files' (Flawed file f) cause same = others_same words files files' (same (not_three f))
others_refused words files files' (NotOpened file) cause same = λ other apart reads.
    reached_one (CannotOpen files files') (λ (input : InputFile). files.shares input.name other ≡ false) (files'.open_faults other ≡ files.open_faults other)
    (λ before input failed shared. failed.alone.opens other shared) no_totals (files_of cause.asked) cause.holds.bytes file cause.holds.reached
    (asked_files words (λ (input : InputFile). files.shares input.name other ≡ false) cause.asked cause.says apart)
others_refused words files files' (NotRead file) cause same = λ other apart reads.
    reached_one (CannotRead files files') (λ (input : InputFile). files.shares input.name other ≡ false) (files'.open_faults other ≡ files.open_faults other)
    (λ before input failed shared. failed.alone other reads) no_totals (files_of cause.asked) cause.holds.bytes file cause.holds.reached
    (asked_files words (λ (input : InputFile). files.shares input.name other ≡ false) cause.asked cause.says apart)
others_refused words files files' NoMemory cause same = others_same words files files' (same (λ three. omega (arith, three)))

-- ---- findings

-- there is no first flaw where there is no file
no_first : (before : Totals) (bytes : List (List ℕ)) (file : ℕ) (f : Flaw) → FirstFlawFrom before [] bytes file f → ⊥
no_first before bytes file f first = first

module _ (as_told : GivenIsTold) (say : WordsSayOne) (words : List (List ℕ)) (files files' : Source) (out out' : Tape) where
  -- what the words ask for is what they were said to ask for
  at_asked : (asked : Request) (P : Request → Type 0) → asked_of words ≡ Ok asked → AskFor words P → P asked
  at_asked asked P says of = subst P (say.request words of.asked asked of.says says) of.holds

  -- inputs that were read have no flaw, and what is made is no file
  inputs_clean : (origin : Origin) (bytes : List (List ℕ)) (contents : List Content) (file : ℕ) (f : Flaw)
      → AreInputsOf files origin bytes contents → FirstFlaw AreTold files (files_of_origin origin) file f → ⊥
  inputs_clean (named names) bytes contents file f inputs first =
      as_told.read files (files_of_names names) bytes first.bytes contents file f inputs.0 first.given inputs.1 first.first
  inputs_clean (made workload) bytes contents file f inputs first = no_first no_totals first.bytes file f first.first

  -- where a report was made, no file has a flaw
  replayed_clean : (report : Report) (heard : Option (List (List Note))) (file : ℕ) (f : Flaw) → IsReplay words files report heard
      → AskFor words (λ asked. FirstFlaw AreTold files (files_of asked) file f) → ⊥
  replayed_clean report heard file f of first =
      let replay : IsReplayOf files first.asked report heard = at_asked first.asked (λ (asked : Request). IsReplayOf files asked report heard) first.says of in
      inputs_clean first.asked.origin replay.bytes replay.contents file f replay.inputs first.holds

  -- where all files are read, none was found to have a flaw
  clean_unflawed : (file : ℕ) (f : Flaw) → AskFor words (λ asked. FirstFlaw AreGiven files (files_of asked) file f)
      → AskFor words (λ asked. (contents : List Content) × AreRead files (files_of asked) contents) → ⊥
  clean_unflawed file f first all =
      let found : FirstFlaw AreGiven files (files_of all.asked) file f =
      at_asked all.asked (λ (asked : Request). FirstFlaw AreGiven files (files_of asked) file f) all.says first in
      let read = all.holds.1 in
      as_told.flawed files (files_of all.asked) found.bytes read.bytes all.holds.0 file f found.given read.told found.first read.read

  -- the first flaw that was found is the one that is there
  same_flaw : (k file : ℕ) (f g : Flaw) → AskFor words (λ asked. FirstFlaw AreGiven files (files_of asked) k f)
      → AskFor words (λ asked. FirstFlaw AreTold files (files_of asked) file g) → f ≡ g
  same_flaw k file f g first told =
      let found : FirstFlaw AreGiven files (files_of told.asked) k f =
      at_asked told.asked (λ (asked : Request). FirstFlaw AreGiven files (files_of asked) k f) told.says first in
      as_told.one files (files_of told.asked) found.bytes told.holds.bytes k file f g found.given told.holds.given found.first
      told.holds.first

  pub answers_done : (report : Report) (heard : Option (List (List Note))) (found : Finding) → IsReplay words files report heard → Finds words files found
      → StatusFits words files files' out out' 0 found
  answers_done report heard misused of finds = absurd (say.refused words of.asked unasked.Usage finds of.says)
  answers_done report heard (past limit) of finds = absurd (say.refused words of.asked (unasked.Limit limit) finds of.says)
  answers_done report heard (flawed file f) of finds = absurd (replayed_clean report heard file f of finds)
  answers_done report heard clean of finds = inl (inl refl)

  pub answers_not_written : (report : Report) (heard : Option (List (List Note))) (found : Finding) → IsReplay words files report heard → Rose out.faults out'.faults
      → Finds words files found → StatusFits words files files' out out' 4 found
  answers_not_written report heard misused of rose finds = absurd (say.refused words of.asked unasked.Usage finds of.says)
  answers_not_written report heard (past limit) of rose finds = absurd (say.refused words of.asked (unasked.Limit limit) finds of.says)
  answers_not_written report heard (flawed file f) of rose finds = absurd (replayed_clean report heard file f of finds)
  answers_not_written report heard clean of rose finds = inr (inr (refl, rose))

  pub answers_refused : (why : Refusal) (found : Finding) → HasCause words files files' why → Finds words files found
      → StatusFits words files files' out out' (refusal_status why) found
  answers_refused Misused misused cause finds = inl refl
  answers_refused Misused (past limit) cause finds = absurd (say.misused words limit cause finds)
  answers_refused Misused (flawed file g) cause finds = absurd (say.refused words finds.asked unasked.Usage cause finds.says)
  answers_refused Misused clean cause finds = absurd (say.refused words finds.asked unasked.Usage cause finds.says)
  answers_refused (PastLimit l) misused cause finds = absurd (say.misused words l finds cause)
  answers_refused (PastLimit l) (past limit) cause finds = inl refl
  answers_refused (PastLimit l) (flawed file g) cause finds = absurd (say.refused words finds.asked (unasked.Limit l) cause finds.says)
  answers_refused (PastLimit l) clean cause finds = absurd (say.refused words finds.asked (unasked.Limit l) cause finds.says)
  answers_refused (Flawed k f) misused cause finds = absurd (say.refused words cause.asked unasked.Usage finds cause.says)
  answers_refused (Flawed k f) (past limit) cause finds = absurd (say.refused words cause.asked (unasked.Limit limit) finds cause.says)
  answers_refused (Flawed k f) (flawed file g) cause finds = inl (inl (ap flaw_status (same_flaw k file f g cause finds)))
  answers_refused (Flawed k f) clean cause finds = absurd (clean_unflawed k f cause finds)
  answers_refused (NotOpened k) misused cause finds = absurd (say.refused words cause.asked unasked.Usage finds cause.says)
  answers_refused (NotOpened k) (past limit) cause finds = absurd (say.refused words cause.asked (unasked.Limit limit) finds cause.says)
  answers_refused (NotOpened k) (flawed file g) cause finds = inr (refl, failed_files words files files' (NotOpened k) cause refl)
  answers_refused (NotOpened k) clean cause finds = inr (inl (refl, failed_files words files files' (NotOpened k) cause refl))
  answers_refused (NotRead k) misused cause finds = absurd (say.refused words cause.asked unasked.Usage finds cause.says)
  answers_refused (NotRead k) (past limit) cause finds = absurd (say.refused words cause.asked (unasked.Limit limit) finds cause.says)
  answers_refused (NotRead k) (flawed file g) cause finds = inr (refl, failed_files words files files' (NotRead k) cause refl)
  answers_refused (NotRead k) clean cause finds = inr (inl (refl, failed_files words files files' (NotRead k) cause refl))
  answers_refused NoMemory misused cause finds = inr refl
  answers_refused NoMemory (past limit) cause finds = inr refl
  answers_refused NoMemory (flawed file g) cause finds = inl (inr refl)
  answers_refused NoMemory clean cause finds = inl (inr refl)
