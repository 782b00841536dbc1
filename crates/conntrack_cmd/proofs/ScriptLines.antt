-- A script, line by line.
use Rattle.std.proofs.Common.{◌≡◌, ◌∙◌, ℕ, ◌+◌, ◌<◌, ◌≤◌, Bool, true, false, nat_le, if◌then◌else◌, List, [], ◌∷◌, ◌++◌, length, Option, Some, None, is_some, Result, Ok, Err, arith, refl, sym, ap, subst, bytes_eq, codes, length-append}
use Rattle.std.proofs.lemmas.Bool.Decides.{nat_tests}
use Rattle.std.specs.Option.{unwrap_or}
use Rattle.file_text.specs.Reading.{◌>>=◌}
use Rattle.file_text.specs.Text.{lines_of, words_of_line}
use Rattle.conntrack_cmd.specs.declared.command.Command.{Command}
use Rattle.conntrack_cmd.specs.declared.command.LineMeaning.{LineMeaning}
use Rattle.conntrack_cmd.specs.declared.command.LineMeaning.TheVariants as meaning
use Rattle.conntrack_cmd.specs.declared.read.ScriptKind.{ScriptKind}
use Rattle.conntrack_cmd.specs.declared.read.ScriptKind.TheVariants as kind
use Rattle.conntrack_cmd.specs.declared.read.ScriptFault.{ScriptFault}
use Rattle.conntrack_cmd.specs.Internal.{wait_after}
use Rattle.conntrack_cmd.specs.Line.{command_of, line_of, wait_of}
use Rattle.conntrack_cmd.specs.Script.{before_wait, commands_of, has_wait, next_of, meanings_from, script_of, script_of_meanings}

pub commands_joined : (said more : List LineMeaning) → commands_of (said ++ more) ≡ commands_of said ++ commands_of more
commands_joined [] more = refl
commands_joined (meaning.Nothing ∷ said) more = commands_joined said more
commands_joined (meaning.Command c ∷ said) more = ap (λ (cs : List Command). c ∷ cs) (commands_joined said more)
commands_joined (meaning.Wait ∷ said) more = commands_joined said more

-- a `wait` that was said stays, and the commands before it
stays_waited : (said more : List LineMeaning) → has_wait said ≡ true → has_wait (said ++ more) ≡ true
stays_waited [] more waited = absurd (cc)
stays_waited (meaning.Nothing ∷ said) more waited = stays_waited said more waited
stays_waited (meaning.Command c ∷ said) more waited = stays_waited said more waited
stays_waited (meaning.Wait ∷ said) more waited = refl

stays_before : (said more : List LineMeaning) → has_wait said ≡ true → before_wait (said ++ more) ≡ before_wait said
stays_before [] more waited = absurd (cc)
stays_before (meaning.Nothing ∷ said) more waited = stays_before said more waited
stays_before (meaning.Command c ∷ said) more waited = ap (λ (n : ℕ). n + 1) (stays_before said more waited)
stays_before (meaning.Wait ∷ said) more waited = refl

-- where none was said, what is said next decides
next_waits : (said more : List LineMeaning) → has_wait said ≡ false → has_wait (said ++ more) ≡ has_wait more
next_waits [] more none = refl
next_waits (meaning.Nothing ∷ said) more none = next_waits said more none
next_waits (meaning.Command c ∷ said) more none = next_waits said more none
next_waits (meaning.Wait ∷ said) more none = absurd (cc)

next_before : (said more : List LineMeaning) → has_wait said ≡ false → before_wait (said ++ more) ≡ length (commands_of said) + before_wait more
next_before [] more none = omega arith
next_before (meaning.Nothing ∷ said) more none = next_before said more none
next_before (meaning.Command c ∷ said) more none = omega (arith, next_before said more none)
next_before (meaning.Wait ∷ said) more none = absurd (cc)

-- without `wait`, all commands stand before it
all_before : (said : List LineMeaning) → has_wait said ≡ false → before_wait said ≡ length (commands_of said)
all_before [] none = refl
all_before (meaning.Nothing ∷ said) none = all_before said none
all_before (meaning.Command c ∷ said) none = omega (arith, all_before said none)
all_before (meaning.Wait ∷ said) none = absurd (cc)

pub at_most_all : (said : List LineMeaning) → before_wait said ≤ length (commands_of said)
at_most_all [] = omega arith
at_most_all (meaning.Nothing ∷ said) = at_most_all said
at_most_all (meaning.Command c ∷ said) = omega (arith, at_most_all said)
at_most_all (meaning.Wait ∷ said) = omega arith

-- what is kept of `wait`
abbrev pub Keeps : Option ℕ → List LineMeaning → Type 0
Keeps None said = has_wait said ≡ false
Keeps (Some count) said = (has_wait said ≡ true) × (before_wait said ≡ count)

kept_test : (wait : Option ℕ) (said : List LineMeaning) → Keeps wait said → is_some wait ≡ has_wait said
kept_test None said none = sym none
kept_test (Some count) said (waited, is) = sym waited

kept_more : (wait : Option ℕ) (said : List LineMeaning) (next : LineMeaning) (count : ℕ) → Keeps wait said → count ≡ length (commands_of said) → (next ≡ meaning.Wait → has_wait said ≡ false) →
    Keeps (wait_after wait next count) (said ++ next ∷ [])
kept_more None said meaning.Nothing count none all first = next_waits said (meaning.Nothing ∷ []) none ∙ refl
kept_more None said (meaning.Command c) count none all first = next_waits said (meaning.Command c ∷ []) none ∙ refl
kept_more None said meaning.Wait count none all first =
    (next_waits said (meaning.Wait ∷ []) none, omega (arith, next_before said (meaning.Wait ∷ []) none))
kept_more (Some n) said meaning.Nothing count (waited, is) all first =
    (stays_waited said (meaning.Nothing ∷ []) waited, stays_before said (meaning.Nothing ∷ []) waited ∙ is)
kept_more (Some n) said (meaning.Command c) count (waited, is) all first =
    (stays_waited said (meaning.Command c ∷ []) waited, stays_before said (meaning.Command c ∷ []) waited ∙ is)
kept_more (Some n) said meaning.Wait count (waited, is) all first =
    let none : has_wait said ≡ false = first refl in absurd (cc)

-- a line says a command only where there is room, and `wait` only where none was said
chosen_command : (test full : Bool) (wait told : Result LineMeaning ScriptKind) (c : Command) → (wait ≡ Ok (meaning.Command c) → ⊥) →
    (if test then wait else (if full then Err kind.TooMany else told)) ≡ Ok (meaning.Command c) → full ≡ false
chosen_command true full wait told c never said = absurd (never said)
chosen_command false false wait told c never said = refl
chosen_command false true wait told c never said = absurd (cc)

no_command : (waited : Bool) (words : List (List ℕ)) (c : Command) → wait_of waited words ≡ Ok (meaning.Command c) → ⊥
no_command true [] c said = cc
no_command false [] c said = cc
no_command true (word ∷ words) c said = cc
no_command false (word ∷ words) c said = cc

pub has_room : (full waited : Bool) (words : List (List ℕ)) (c : Command) → line_of full waited words ≡ Ok (meaning.Command c) → full ≡ false
unfolding line_of
has_room full waited [] c said = absurd (cc)
has_room full waited (word ∷ words) c said =
    chosen_command (bytes_eq word (codes "wait")) full (wait_of waited words) _ c (no_command waited words c) said

not_wait : (read : Result Command ScriptKind) → (read >>= λ (c : Command). Ok (meaning.Command c)) ≡ Ok meaning.Wait → ⊥
not_wait (Ok c) said = cc
not_wait (Err k) said = cc

chosen_wait : (test full waited : Bool) (wait told : Result LineMeaning ScriptKind) → (wait ≡ Ok meaning.Wait → waited ≡ false) → (told ≡ Ok meaning.Wait → ⊥) →
    (if test then wait else (if full then Err kind.TooMany else told)) ≡ Ok meaning.Wait → waited ≡ false
chosen_wait true full waited wait told first never said = first said
chosen_wait false false waited wait told first never said = absurd (never said)
chosen_wait false true waited wait told first never said = absurd (cc)

wait_first : (waited : Bool) (words : List (List ℕ)) → wait_of waited words ≡ Ok meaning.Wait → waited ≡ false
wait_first true [] said = absurd (cc)
wait_first false [] said = refl
wait_first true (word ∷ words) said = absurd (cc)
wait_first false (word ∷ words) said = refl

pub is_first : (full waited : Bool) (words : List (List ℕ)) → line_of full waited words ≡ Ok meaning.Wait → waited ≡ false
unfolding line_of
is_first full waited [] said = absurd (cc)
is_first full waited (word ∷ words) said =
    chosen_wait (bytes_eq word (codes "wait")) full waited (wait_of waited words) _ (wait_first waited words) (not_wait (command_of word words)) said

-- what lines said, and one more
pub few_more : (said : List LineMeaning) (next : LineMeaning) → length (commands_of said) ≤ 256 → ((c : Command) → next ≡ meaning.Command c → nat_le 256 (length (commands_of said)) ≡ false) →
    length (commands_of (said ++ next ∷ [])) ≤ 256
few_more said meaning.Nothing few room = omega (arith, ap length (commands_joined said (meaning.Nothing ∷ [])), length-append (commands_of said) [])
few_more said (meaning.Command c) few room =
    let not_full = room c refl in
    let below : length (commands_of said) < 256 = grind (arith, nat_tests, not_full) in
    omega (arith, ap length (commands_joined said (meaning.Command c ∷ [])), length-append (commands_of said) (c ∷ []))
few_more said meaning.Wait few room = omega (arith, ap length (commands_joined said (meaning.Wait ∷ [])), length-append (commands_of said) [])

-- so many lines are read, which say this, and what is left decides
pub record HasRead (bytes rest : List ℕ) (commands : List Command) (wait : Option ℕ) (number : ℕ) : Type 0 where
  pub said : List LineMeaning
  pub same : meanings_from said (lines_of rest) ≡ meanings_from [] (lines_of bytes)
  pub numbered : number ≡ length said
  pub fits : number + length rest ≤ length bytes
  pub commands_are : commands ≡ commands_of said
  pub keeps : Keeps wait said
  pub few : length commands ≤ 256

line_said : (said : List LineMeaning) (line : List ℕ) (lines : List (List ℕ)) (next : LineMeaning) → next_of said line ≡ Ok next → meanings_from (said ++ next ∷ []) lines ≡ meanings_from said (line ∷ lines)
unfolding meanings_from
line_said said line lines next is = rw is

line_faulty : (said : List LineMeaning) (line : List ℕ) (lines : List (List ℕ)) (k : ScriptKind) → next_of said line ≡ Err k → meanings_from said (line ∷ lines) ≡ Err (record { line = length said + 1; kind = k })
unfolding meanings_from
line_faulty said line lines k is = rw is

told_here : (said : List LineMeaning) (commands : List Command) (wait : Option ℕ) (line : List ℕ) (read : Result LineMeaning ScriptKind) → commands ≡ commands_of said → Keeps wait said →
    line_of (nat_le 256 (length commands)) (is_some wait) (words_of_line line) ≡ read → next_of said line ≡ read
told_here said commands wait line read are keeps told =
    subst (λ (cs : List Command). line_of (nat_le 256 (length cs)) (has_wait said) (words_of_line line) ≡ read) are
    (subst (λ (waited : Bool). line_of (nat_le 256 (length commands)) waited (words_of_line line) ≡ read) (kept_test wait said keeps) told)

-- a line that has no fault is read
pub read_more : (bytes rest line behind : List ℕ) (commands longer : List Command) (wait later : Option ℕ) (number : ℕ) (next : LineMeaning) → HasRead bytes rest commands wait number →
    lines_of rest ≡ line ∷ lines_of behind → length behind < length rest → line_of (nat_le 256 (length commands)) (is_some wait) (words_of_line line) ≡ Ok next →
    longer ≡ commands ++ commands_of (next ∷ []) → later ≡ wait_after wait next (length commands) → HasRead bytes behind longer later (number + 1)
read_more bytes rest line behind commands longer wait later number next read here less told grown after =
    let said : List LineMeaning = read.said in
    let is : next_of said line ≡ Ok next = told_here said commands wait line (Ok next) read.commands_are read.keeps told in
    let are : longer ≡ commands_of (said ++ next ∷ []) = grown ∙ (ap (λ (cs : List Command). cs ++ commands_of (next ∷ [])) read.commands_are ∙ sym (commands_joined said (next ∷ []))) in
    record {
      said = said ++ next ∷ [];
      same = line_said said line (lines_of behind) next is ∙ (ap (λ (lines : List (List ℕ)). meanings_from said lines) (sym here) ∙ read.same);
      numbered = omega (arith, read.numbered, length-append said (next ∷ []));
      fits = omega (arith, read.fits);
      commands_are = are;
      keeps = subst (λ (w : Option ℕ). Keeps w (said ++ next ∷ [])) (sym after)
          (kept_more wait said next (length commands) read.keeps (ap length read.commands_are)
          (λ e. is_first (nat_le 256 (length (commands_of said))) (has_wait said) (words_of_line line) (is ∙ ap Ok e)));
      few = subst (λ (cs : List Command). length cs ≤ 256) (sym are)
          (few_more said next (subst (λ (cs : List Command). length cs ≤ 256) read.commands_are read.few)
          (λ c e. has_room (nat_le 256 (length (commands_of said))) (has_wait said) (words_of_line line) c (is ∙ ap Ok e)));
    }

ended : (bytes : List ℕ) (read : Result (List LineMeaning) ScriptFault) → meanings_from [] (lines_of bytes) ≡ read → script_of bytes ≡ (read >>= λ (said : List LineMeaning). Ok (script_of_meanings said))
ended bytes read is = ap (λ (r : Result (List LineMeaning) ScriptFault). r >>= λ (said : List LineMeaning). Ok (script_of_meanings said)) is

-- a line that has a fault is the first
pub found_fault : (bytes rest line behind : List ℕ) (commands : List Command) (wait : Option ℕ) (number : ℕ) (k : ScriptKind) → HasRead bytes rest commands wait number →
    lines_of rest ≡ line ∷ lines_of behind → line_of (nat_le 256 (length commands)) (is_some wait) (words_of_line line) ≡ Err k → script_of bytes ≡ Err (record { line = number + 1; kind = k })
found_fault bytes rest line behind commands wait number k read here told =
    let is : next_of read.said line ≡ Err k = told_here read.said commands wait line (Err k) read.commands_are read.keeps told in
    let same : meanings_from [] (lines_of bytes) ≡ Err (record { line = length read.said + 1; kind = k }) =
    sym read.same ∙ (ap (λ (lines : List (List ℕ)). meanings_from read.said lines) here ∙ line_faulty read.said line (lines_of behind) k is) in
    ended bytes (Err (record { line = length read.said + 1; kind = k })) same
    ∙ ap (λ (n : ℕ). Err (record { line = n; kind = k })) (omega (arith, read.numbered))

nothing_left : (said : List LineMeaning) → meanings_from said (lines_of []) ≡ Ok said
unfolding meanings_from lines_of
nothing_left said = refl

-- behind the last line all is read
all_read : (bytes rest : List ℕ) (commands : List Command) (wait : Option ℕ) (number : ℕ) (read : HasRead bytes rest commands wait number) → length rest ≡ 0 → script_of bytes ≡ Ok (commands, before_wait read.said)
all_read bytes [] commands wait number read empty =
    ended bytes (Ok read.said) (sym read.same ∙ nothing_left read.said) ∙ ap (λ (cs : List Command). Ok (cs, before_wait read.said)) (sym read.commands_are)
all_read bytes (b ∷ rest) commands wait number read empty = absurd (omega arith)

kept_number : (wait : Option ℕ) (said : List LineMeaning) (all : ℕ) → Keeps wait said → all ≡ length (commands_of said) → before_wait said ≡ unwrap_or wait all
kept_number None said all none is = all_before said none ∙ sym is
kept_number (Some count) said all (waited, is) same = is

-- all lines are a script
pub all_said : (bytes rest : List ℕ) (commands : List Command) (wait : Option ℕ) (number all : ℕ) → HasRead bytes rest commands wait number → all ≡ length commands → length rest ≡ 0 →
    script_of bytes ≡ Ok (commands, unwrap_or wait all)
all_said bytes rest commands wait number all read is empty =
    all_read bytes rest commands wait number read empty
    ∙ ap (λ (n : ℕ). Ok (commands, n)) (kept_number wait read.said all read.keeps (is ∙ ap length read.commands_are))

pub wait_within : (bytes rest : List ℕ) (commands : List Command) (wait : Option ℕ) (number all : ℕ) → HasRead bytes rest commands wait number → all ≡ length commands → unwrap_or wait all ≤ length commands
wait_within bytes rest commands wait number all read is =
    omega (arith, kept_number wait read.said all read.keeps (is ∙ ap length read.commands_are), at_most_all read.said, ap length read.commands_are)
