-- Laws of scripts, over lists of lines.
use Rattle.std.proofs.Common.{◌≡◌, ◌∙◌, ◌⊎◌, ℕ, ◌+◌, ◌<◌, ◌≤◌, Bool, true, false, nat_le, if◌then◌else◌, List, [], ◌∷◌, ◌++◌, length, Result, Ok, Err, IfOk, inl, inr, bytes_eq, codes, arith, refl, sym, ap, subst, append_assoc, append-nil, length-append}
use Rattle.std.proofs.lemmas.Bool.Decides.{nat_tests}
use Rattle.std.proofs.lemmas.Result.{IfOk-at_ok}
use Rattle.file_text.specs.Reading.{◌>>=◌, located}
use Rattle.file_text.specs.Text.{lines_of, words_of_line}
use Rattle.file_text.specs.ReadingLaws.{came_to, read_there, same_read, stopped, went_on, wrong_there}
use Rattle.conntrack_cmd.specs.declared.command.Command.{Command}
use Rattle.conntrack_cmd.specs.declared.command.LineMeaning.{LineMeaning}
use Rattle.conntrack_cmd.specs.declared.command.LineMeaning.TheVariants as meaning
use Rattle.conntrack_cmd.specs.declared.read.ScriptKind.{ScriptKind}
use Rattle.conntrack_cmd.specs.declared.read.ScriptKind.TheVariants as kind
use Rattle.conntrack_cmd.specs.declared.read.ScriptFault.{ScriptFault}
use Rattle.conntrack_cmd.specs.Line.{command_of, line_of, wait_of}
use Rattle.conntrack_cmd.specs.Script.{before_wait, commands_of, fault_at, has_wait, next_of, meanings_from, script_of, script_of_meanings, IsScript, HasFault}
use Rattle.conntrack_cmd.specs.ScriptLaws.{LinesMean, IsFirst, waits_of}
use Rattle.conntrack_cmd.proofs.ScriptLines.{at_most_all, commands_joined, few_more, has_room}

-- a script and another of the same bytes
pub same_script : (read : Result (List Command × ℕ) ScriptFault) (commands others : List Command) (wait other : ℕ) → read ≡ Ok (commands, wait) → read ≡ Ok (others, other) → (commands ≡ others) × (wait ≡ other)
same_script read commands others wait other first second =
    let same : (commands, wait) ≡ (others, other) = same_read read (commands, wait) (others, other) first second in
    (ap (λ (s : List Command × ℕ). s.0) same, ap (λ (s : List Command × ℕ). s.1) same)

script_or_fault : (read : Result (List Command × ℕ) ScriptFault) → ((commands : List Command) × (wait : ℕ) × (read ≡ Ok (commands, wait))) ⊎ ((fault : ScriptFault) × (read ≡ Err fault))
script_or_fault (Ok (commands, wait)) = inl (commands, wait, refl)
script_or_fault (Err fault) = inr (fault, refl)

pub either : (bytes : List ℕ) → ((commands : List Command) × (wait : ℕ) × IsScript bytes commands wait) ⊎ ((fault : ScriptFault) × HasFault bytes fault)
either bytes = script_or_fault (script_of bytes)

-- what a line says where it may say less, it says by itself
waits_alone : (waited : Bool) (words : List (List ℕ)) (next : LineMeaning) → wait_of waited words ≡ Ok next → wait_of false words ≡ Ok next
waits_alone false [] next said = said
waits_alone true [] next said = absurd (cc)
waits_alone false (word ∷ words) next said = said
waits_alone true (word ∷ words) next said = said

chosen_alone : (test full : Bool) (wait alone told : Result LineMeaning ScriptKind) (next : LineMeaning) → (wait ≡ Ok next → alone ≡ Ok next) →
    (if test then wait else (if full then Err kind.TooMany else told)) ≡ Ok next → (if test then alone else told) ≡ Ok next
chosen_alone true full wait alone told next by said = by said
chosen_alone false false wait alone told next by said = said
chosen_alone false true wait alone told next by said = absurd (cc)

by_itself : (full waited : Bool) (words : List (List ℕ)) (next : LineMeaning) → line_of full waited words ≡ Ok next → line_of false false words ≡ Ok next
unfolding line_of
by_itself full waited [] next said = said
by_itself full waited (word ∷ words) next said =
    chosen_alone (bytes_eq word (codes "wait")) full (wait_of waited words) (wait_of false words) _ next (waits_alone waited words next) said

-- the lines of what was read say what was read behind the rest
pub say : (said all : List LineMeaning) (lines : List (List ℕ)) → meanings_from said lines ≡ Ok all → (more : List LineMeaning) × (all ≡ said ++ more) × LinesMean lines more
unfolding meanings_from
say said all [] read = ([], same_read (Ok all) all (said ++ []) refl (sym read ∙ ap Ok (sym (append-nil said))), refl)
say said all (line ∷ lines) read =
    let h = came_to (located fault_at (length said + 1) (next_of said line)) (λ (next : LineMeaning). meanings_from (said ++ next ∷ []) lines) all read in
    let k = say (said ++ h.0 ∷ []) all lines h.2 in
    let is : all ≡ said ++ h.0 ∷ k.0 = k.1 ∙ append_assoc said (h.0 ∷ []) k.0 in
    let told : line_of false false (words_of_line line) ≡ Ok h.0 =
    by_itself (nat_le 256 (length (commands_of said))) (has_wait said) (words_of_line line) h.0 (read_there fault_at (length said + 1) (next_of said line) h.0 h.1) in
    (h.0 ∷ k.0, is, (h.0, k.0, refl, told, k.2))

-- the meanings of a script
pub meanings : (bytes : List ℕ) (commands : List Command) (wait : ℕ) → IsScript bytes commands wait →
    (said : List LineMeaning) × (meanings_from [] (lines_of bytes) ≡ Ok said) × (commands ≡ commands_of said) × (wait ≡ before_wait said)
meanings bytes commands wait is =
    let h = came_to (meanings_from [] (lines_of bytes)) (λ (said : List LineMeaning). Ok (script_of_meanings said)) (commands, wait) is in
    let same = same_script (Ok (commands, wait)) commands (commands_of h.0) wait (before_wait h.0) refl (sym h.2) in
    (h.0, h.1, same.0, same.1)

pub scripts_say : (bytes : List ℕ) (commands : List Command) (wait : ℕ) → IsScript bytes commands wait →
    (said : List LineMeaning) × LinesMean (lines_of bytes) said × (commands ≡ commands_of said) × (wait ≡ before_wait said)
scripts_say bytes commands wait is =
    let s = meanings bytes commands wait is in
    let k = say [] s.0 (lines_of bytes) s.1 in
    (s.0, subst (λ (said : List LineMeaning). LinesMean (lines_of bytes) said) (sym k.1) k.2, s.2, s.3)

-- at most 256 commands
few_lines : (said : List LineMeaning) (lines : List (List ℕ)) → length (commands_of said) ≤ 256 → IfOk (meanings_from said lines) (λ all. length (commands_of all) ≤ 256)
unfolding meanings_from
few_lines said [] few = few
few_lines said (line ∷ lines) few =
    went_on {A = LineMeaning} {B = List LineMeaning} (λ (next : LineMeaning). next_of said line ≡ Ok next) (λ (all : List LineMeaning). length (commands_of all) ≤ 256) (located fault_at (length said + 1) (next_of said line)) _
    (here (next_of said line))
    (λ next is. few_lines (said ++ next ∷ []) lines
    (few_more said next few (λ c e. has_room (nat_le 256 (length (commands_of said))) (has_wait said) (words_of_line line) c (is ∙ ap Ok e))))
  where
    here : (read : Result LineMeaning ScriptKind) → IfOk (located fault_at (length said + 1) read) (λ (next : LineMeaning). read ≡ Ok next)
    here (Ok next) = refl
    here (Err k) = tt

pub short : (bytes : List ℕ) (commands : List Command) (wait : ℕ) → IsScript bytes commands wait → (length commands ≤ 256) × (wait ≤ length commands)
short bytes commands wait is =
    let s = meanings bytes commands wait is in
    let few : length (commands_of s.0) ≤ 256 = IfOk-at_ok (λ (all : List LineMeaning). length (commands_of all) ≤ 256) s.1 (few_lines [] (lines_of bytes) (omega arith)) in
    (omega (arith, ap length s.2), omega (arith, ap length s.2, s.3, at_most_all s.0))

-- a line in its place says what it says by itself, if that may stand there
waits_here : (waited : Bool) (words : List (List ℕ)) (next : LineMeaning) → (next ≡ meaning.Wait → waited ≡ false) → wait_of false words ≡ Ok next → wait_of waited words ≡ Ok next
waits_here false words next first said = said
waits_here true [] next first said = let none : true ≡ false = first cc in absurd (cc)
waits_here true (word ∷ words) next first said = said

chosen_here : (test full : Bool) (wait alone : Result LineMeaning ScriptKind) (command : Result Command ScriptKind) (next : LineMeaning) → (alone ≡ Ok next → wait ≡ Ok next) → ((c : Command) → next ≡ meaning.Command c → full ≡ false) →
    (if test then alone else (command >>= λ (c : Command). Ok (meaning.Command c))) ≡ Ok next →
    (if test then wait else (if full then Err kind.TooMany else (command >>= λ (c : Command). Ok (meaning.Command c)))) ≡ Ok next
chosen_here true full wait alone command next by room said = by said
chosen_here false false wait alone command next by room said = said
chosen_here false true wait alone (Ok c) next by room said = let none : true ≡ false = room c (same_read (Ok next) next (meaning.Command c) refl (sym said)) in absurd (cc)
chosen_here false true wait alone (Err k) next by room said = absurd (cc)

in_place : (full waited : Bool) (words : List (List ℕ)) (next : LineMeaning) → line_of false false words ≡ Ok next → (next ≡ meaning.Wait → waited ≡ false) → ((c : Command) → next ≡ meaning.Command c → full ≡ false) →
    line_of full waited words ≡ Ok next
unfolding line_of
in_place full waited [] next said first room = said
in_place full waited (word ∷ words) next said first room =
    chosen_here (bytes_eq word (codes "wait")) full (wait_of waited words) (wait_of false words) (command_of word words) next (waits_here waited words next first) room said

waits_joined : (said more : List LineMeaning) → waits_of (said ++ more) ≡ waits_of said + waits_of more
waits_joined [] more = omega arith
waits_joined (meaning.Nothing ∷ said) more = waits_joined said more
waits_joined (meaning.Command c ∷ said) more = waits_joined said more
waits_joined (meaning.Wait ∷ said) more = omega (arith, waits_joined said more)

no_waits : (said : List LineMeaning) → waits_of said ≡ 0 → has_wait said ≡ false
no_waits [] none = refl
no_waits (meaning.Nothing ∷ said) none = no_waits said none
no_waits (meaning.Command c ∷ said) none = no_waits said none
no_waits (meaning.Wait ∷ said) none = absurd (omega arith)

room_for : (said others : List LineMeaning) (c : Command) → length (commands_of (said ++ meaning.Command c ∷ others)) ≤ 256 → nat_le 256 (length (commands_of said)) ≡ false
room_for said others c few =
    let below : length (commands_of said) < 256 =
    omega (arith, ap length (commands_joined said (meaning.Command c ∷ others)), length-append (commands_of said) (c ∷ commands_of others)) in
    grind (arith, nat_tests)

wait_for : (said others : List LineMeaning) → waits_of (said ++ meaning.Wait ∷ others) ≤ 1 → has_wait said ≡ false
wait_for said others once = no_waits said (omega (arith, waits_joined said (meaning.Wait ∷ others)))

-- lines that say this are read as this
pub make : (said more : List LineMeaning) (lines : List (List ℕ)) → LinesMean lines more → length (commands_of (said ++ more)) ≤ 256 → waits_of (said ++ more) ≤ 1 → meanings_from said lines ≡ Ok (said ++ more)
unfolding meanings_from
make said more [] none few once = ap Ok (sym (append-nil said)) ∙ ap (λ (m : List LineMeaning). Ok (said ++ m)) (sym none)
make said more (line ∷ lines) (first, others, is, told, rest) few once =
    let few_here : length (commands_of (said ++ first ∷ others)) ≤ 256 = subst (λ (m : List LineMeaning). length (commands_of (said ++ m)) ≤ 256) is few in
    let once_here : waits_of (said ++ first ∷ others) ≤ 1 = subst (λ (m : List LineMeaning). waits_of (said ++ m) ≤ 1) is once in
    let here : next_of said line ≡ Ok first =
    in_place (nat_le 256 (length (commands_of said))) (has_wait said) (words_of_line line) first told
    (λ e. wait_for said others (subst (λ (f : LineMeaning). waits_of (said ++ f ∷ others) ≤ 1) e once_here))
    (λ c e. room_for said others c (subst (λ (f : LineMeaning). length (commands_of (said ++ f ∷ others)) ≤ 256) e few_here)) in
    let joined : (said ++ first ∷ []) ++ others ≡ said ++ first ∷ others = append_assoc said (first ∷ []) others in
    let later : meanings_from (said ++ first ∷ []) lines ≡ Ok ((said ++ first ∷ []) ++ others) =
    make (said ++ first ∷ []) others lines rest (subst (λ (m : List LineMeaning). length (commands_of m) ≤ 256) (sym joined) few_here) (subst (λ (m : List LineMeaning). waits_of m ≤ 1) (sym joined) once_here) in
    rw here (later ∙ ap Ok (joined ∙ ap (λ (m : List LineMeaning). said ++ m) (sym is)))

pub make_script : (bytes : List ℕ) (said : List LineMeaning) → LinesMean (lines_of bytes) said → length (commands_of said) ≤ 256 → waits_of said ≤ 1 → IsScript bytes (commands_of said) (before_wait said)
make_script bytes said told few once =
    ap (λ (r : Result (List LineMeaning) ScriptFault). r >>= λ (all : List LineMeaning). Ok (script_of_meanings all)) (make [] said (lines_of bytes) told few once)

-- a fault is that of the first faulty line, behind lines that say this
pub record IsFirstFrom (said : List LineMeaning) (lines : List (List ℕ)) (fault : ScriptFault) : Type 0 where
  pub before : List (List ℕ)
  pub line : List ℕ
  pub behind : List (List ℕ)
  pub lines_are : lines ≡ before ++ line ∷ behind
  pub number_is : fault.line ≡ length said + length before + 1
  pub all : List LineMeaning
  pub flawless : meanings_from said before ≡ Ok all
  pub faulty : next_of all line ≡ Err fault.kind

here_first : (said : List LineMeaning) (line : List ℕ) (lines : List (List ℕ)) (fault : ScriptFault) → located fault_at (length said + 1) (next_of said line) ≡ Err fault → IsFirstFrom said (line ∷ lines) fault
unfolding meanings_from
here_first said line lines fault is =
    let wrong = wrong_there fault_at (length said + 1) (next_of said line) fault is in
    record {
      before = [];
      line = line;
      behind = lines;
      lines_are = refl;
      number_is = omega (arith, ap (λ (f : ScriptFault). f.line) wrong.2);
      all = said;
      flawless = refl;
      faulty = wrong.1 ∙ ap (λ (f : ScriptFault). Err f.kind) wrong.2;
    }

later_first : (said : List LineMeaning) (line : List ℕ) (lines : List (List ℕ)) (fault : ScriptFault) (next : LineMeaning) → next_of said line ≡ Ok next → IsFirstFrom (said ++ next ∷ []) lines fault → IsFirstFrom said (line ∷ lines) fault
unfolding meanings_from
later_first said line lines fault next told first = record {
  before = line ∷ first.before;
  line = first.line;
  behind = first.behind;
  lines_are = ap (λ (ls : List (List ℕ)). line ∷ ls) first.lines_are;
  number_is = omega (arith, first.number_is, length-append said (next ∷ []));
  all = first.all;
  flawless = rw told first.flawless;
  faulty = first.faulty;
}

first_of : (said : List LineMeaning) (line : List ℕ) (lines : List (List ℕ)) (fault : ScriptFault) →
    ((before : List LineMeaning) → meanings_from before lines ≡ Err fault → IsFirstFrom before lines fault) →
    (located fault_at (length said + 1) (next_of said line) ≡ Err fault) ⊎ ((next : LineMeaning) × (located fault_at (length said + 1) (next_of said line) ≡ Ok next) × (meanings_from (said ++ next ∷ []) lines ≡ Err fault)) →
    IsFirstFrom said (line ∷ lines) fault
first_of said line lines fault again (inl is) = here_first said line lines fault is
first_of said line lines fault again (inr (next, told, is)) =
    later_first said line lines fault next (read_there fault_at (length said + 1) (next_of said line) next told) (again (said ++ next ∷ []) is)

first : (said : List LineMeaning) (lines : List (List ℕ)) (fault : ScriptFault) → meanings_from said lines ≡ Err fault → IsFirstFrom said lines fault
unfolding meanings_from
first said [] fault read = absurd (cc)
first said (line ∷ lines) fault read =
    first_of said line lines fault (λ before again. first before lines fault again)
    (stopped (located fault_at (length said + 1) (next_of said line)) (λ (next : LineMeaning). meanings_from (said ++ next ∷ []) lines) fault read)

ended_first : (bytes : List ℕ) (fault : ScriptFault) →
    (meanings_from [] (lines_of bytes) ≡ Err fault) ⊎ ((said : List LineMeaning) × (meanings_from [] (lines_of bytes) ≡ Ok said) × (Ok (script_of_meanings said) ≡ Err fault)) → IsFirst bytes fault
ended_first bytes fault (inl is) =
    let f = first [] (lines_of bytes) fault is in
    record {
      before = f.before;
      line = f.line;
      behind = f.behind;
      lines = f.lines_are;
      number = omega (arith, f.number_is);
      meanings = f.all;
      flawless = f.flawless;
      faulty = f.faulty;
    }
ended_first bytes fault (inr (said, read, is)) = absurd (cc)

pub fault_first : (bytes : List ℕ) (fault : ScriptFault) → HasFault bytes fault → IsFirst bytes fault
fault_first bytes fault has = ended_first bytes fault (stopped (meanings_from [] (lines_of bytes)) (λ (said : List LineMeaning). Ok (script_of_meanings said)) fault has)

located_fault : (said : List LineMeaning) (line : List ℕ) (lines : List (List ℕ)) (k : ScriptKind) → next_of said line ≡ Err k → meanings_from said (line ∷ lines) ≡ Err (record { line = length said + 1; kind = k })
unfolding meanings_from
located_fault said line lines k told = rw told

make_fault : (said all : List LineMeaning) (before : List (List ℕ)) (line : List ℕ) (behind : List (List ℕ)) (k : ScriptKind) (place : ℕ) → meanings_from said before ≡ Ok all →
    next_of all line ≡ Err k → place ≡ length said + length before + 1 → meanings_from said (before ++ line ∷ behind) ≡ Err (record { line = place; kind = k })
unfolding meanings_from
make_fault said all [] line behind k place read faulty at =
    let is : said ≡ all = same_read (Ok said) said all refl read in
    let here : next_of said line ≡ Err k = subst (λ (s : List LineMeaning). next_of s line ≡ Err k) (sym is) faulty in
    subst (λ (n : ℕ). meanings_from said (line ∷ behind) ≡ Err (record { line = n; kind = k })) (omega arith) (located_fault said line behind k here)
make_fault said all (b ∷ bs) line behind k place read faulty at =
    let h = came_to (located fault_at (length said + 1) (next_of said b)) (λ (next : LineMeaning). meanings_from (said ++ next ∷ []) bs) all read in
    let here : next_of said b ≡ Ok h.0 = read_there fault_at (length said + 1) (next_of said b) h.0 h.1 in
    let more : meanings_from (said ++ h.0 ∷ []) (bs ++ line ∷ behind) ≡ Err (record { line = place; kind = k }) =
    make_fault (said ++ h.0 ∷ []) all bs line behind k place h.2 faulty (omega (arith, length-append said (h.0 ∷ []))) in
    rw here more

pub first_fault : (bytes : List ℕ) (fault : ScriptFault) → IsFirst bytes fault → HasFault bytes fault
first_fault bytes fault is =
    let read : meanings_from [] (lines_of bytes) ≡ Err fault =
    subst (λ (lines : List (List ℕ)). meanings_from [] lines ≡ Err fault) (sym is.lines)
    (make_fault [] is.meanings is.before is.line is.behind fault.kind fault.line is.flawless is.faulty (omega (arith, is.number))) in
    ap (λ (r : Result (List LineMeaning) ScriptFault). r >>= λ (said : List LineMeaning). Ok (script_of_meanings said)) read
