-- What clap makes of one word that does not begin with `-`.
use Rattle.std.proofs.Common.{◌≡◌, ◌∙◌, ℕ, false, List, [], ◌∷◌, refl, ap, ap₂}
use Rattle.std.specs.Prelude.{is_some}
use Rattle.clap.specs.Faults.{check_fault, defaults_fault, entered_fault, settle_fault, step_fault, turn_fault, walk_fault}
use Rattle.clap.specs.Kinds.{or_else}
use Rattle.clap.specs.Simple.{built, entered}
use Rattle.clap.specs.Walk.{after_step, arg_by_index, finished, Held, idle, nothing_held, settled, Step, to_positional, value, Walk, walk_from, walked, word_met}
use Rattle.clap.specs.Words.{fault_of, Kinds, matches_of, Row, Rule, Shape}
use Rattle.clap.proofs.OnLiterals.{clap_on_literals}
use Rattle.command_words.specs.Words.{app, table_app, workload_app}
use Rattle.command_words.specs.WordsLaws.{begins_with_dash}

-- it is a value, where nothing waits for one
met : (c : List Rule) (position : ℕ) (word : List ℕ) (h : Held) → begins_with_dash word ≡ false →
    word_met c [] false idle position word h ≡ (h, value)
met c position [] h other = refl
met c position (x ∷ xs) h other = simp other

-- the walk over it, from the start
abbrev first_walk : List Rule → List ℕ → Walk
first_walk c word = to_positional c (arg_by_index c 1) word (walk_from nothing_held) nothing_held

is_walked : (c : List Rule) (word : List ℕ) → begins_with_dash word ≡ false →
    walked c [] (walk_from nothing_held) word ≡ first_walk c word
unfolding walked
is_walked c word other =
    ap (λ (m : Held × Step). after_step c word (walk_from nothing_held) m.0 m.1) (met c 1 word nothing_held other)

-- the fault of its turn is that of a value
turn : (s : Shape) (word : List ℕ) → begins_with_dash word ≡ false →
    turn_fault s [] (walk_from nothing_held) word ≡ or_else [] (step_fault s 1 nothing_held value)
turn s [] other = refl
turn s (x ∷ xs) other = simp other

abbrev rules : List Rule
rules = (built app).top.rules

-- the rows of a walk
abbrev rows_at_end : Walk → List Row
rows_at_end w = finished rules w.held

-- the faults of a walk whose turn has this one
abbrev faults_at_end : Kinds → Walk → Kinds
faults_at_end first w =
    or_else (or_else first [])
    (or_else (entered_fault (built app) w.stopped) (or_else (settle_fault rules (built app).top.args_override_self w.held)
    (or_else (defaults_fault (settled rules w.held).rows rules)
    (check_fault (built app).top (finished rules w.held) (is_some (entered (built app) w.stopped))))))

rows_of_walk : (program word : List ℕ) → matches_of app (program ∷ word ∷ []) ≡ rows_at_end (walked rules [] (walk_from nothing_held) word)
unfolding app workload_app table_app
rows_of_walk program word = refl

rows_of_value : (program word : List ℕ) → rows_at_end (first_walk rules word) ≡ matches_of app (program ∷ (45 ∷ 45 ∷ []) ∷ word ∷ [])
unfolding app workload_app table_app clap_on_literals
rows_of_value program word = refl

faults_of_walk : (program word : List ℕ) → fault_of app (program ∷ word ∷ [])
    ≡ faults_at_end (turn_fault (built app).top [] (walk_from nothing_held) word) (walked rules [] (walk_from nothing_held) word)
unfolding app workload_app table_app walk_fault
faults_of_walk program word = refl

faults_of_value : (program word : List ℕ) →
    faults_at_end (or_else [] (step_fault (built app).top 1 nothing_held value)) (first_walk rules word)
    ≡ fault_of app (program ∷ (45 ∷ 45 ∷ []) ∷ word ∷ [])
unfolding app workload_app table_app clap_on_literals
faults_of_value program word = refl

-- clap takes such a word as it takes one behind `--`
pub same_rows : (program word : List ℕ) → begins_with_dash word ≡ false →
    matches_of app (program ∷ word ∷ []) ≡ matches_of app (program ∷ (45 ∷ 45 ∷ []) ∷ word ∷ [])
same_rows program word other =
    rows_of_walk program word ∙ ap rows_at_end (is_walked rules word other) ∙ rows_of_value program word

pub same_faults : (program word : List ℕ) → begins_with_dash word ≡ false →
    fault_of app (program ∷ word ∷ []) ≡ fault_of app (program ∷ (45 ∷ 45 ∷ []) ∷ word ∷ [])
same_faults program word other =
    faults_of_walk program word ∙ ap₂ faults_at_end (turn (built app).top word other) (is_walked rules word other)
    ∙ faults_of_value program word
