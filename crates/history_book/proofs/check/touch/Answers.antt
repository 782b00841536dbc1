use Rattle.std.proofs.Common.{◌≡◌, ℕ, ◌+◌, ◌<◌, List, ◌++◌, cond, length, take, drop, get_or, map, sym, ap, ◌∙◌, arith}
use Rattle.std.specs.Prelude.{◌≢◌, slice_set}
use Rattle.std.proofs.lemmas.Bool.{eq-eqb}
use Rattle.std.proofs.lemmas.List.{get_or_default}
use Rattle.std.proofs.lemmas.List.Edits.{map_over_more}
use Rattle.proto_rules.specs.declared.Part.{Part}
use Rattle.history_book.specs.declared.record.Record.{Record}
use Rattle.history_book.specs.State.{with_part}
use Rattle.history_book.proofs.Records.{with_part-other}
use Rattle.history_book.proofs.check.touch.Goals.{then-r-id, else-r-id}
use Rattle.history_book.proofs.check.touch.Goals as goal

written : {X : Type 0} (f : X → X) (xs ys : List X) (i : ℕ) (d : X) → i < length xs → length ys ≡ length xs
    → ys ≡ map f (take i xs) ++ drop i xs
    → slice_set ys i (f (get_or ys i d)) ≡ map f (take (i + 1) xs) ++ drop (i + 1) xs
written f xs ys i d within long so_far =
    map_over_more f xs ys i (get_or ys i d) within so_far (get_or_default ys i d (get_or ys i d) (omega arith))

changed : (id : ℕ) (after : Part) (ys : List Record) (i : ℕ) (d : Record) → (get_or ys i d).id ≡ id
    → slice_set ys i (record (get_or ys i d) { part = after }) ≡ slice_set ys i (with_part id after (get_or ys i d))
changed id after ys i d is =
    ap (λ b. slice_set ys i (cond b (record (get_or ys i d) { part = after }) (get_or ys i d)))
    (sym (eq-eqb (get_or ys i d).id id is))

unchanged : (id : ℕ) (after : Part) (ys : List Record) (i : ℕ) (d : Record) → (get_or ys i d).id ≢ id
    → slice_set ys i (get_or ys i d) ≡ slice_set ys i (with_part id after (get_or ys i d))
unchanged id after ys i d other =
    sym (ap (slice_set ys i) (with_part-other id after (get_or ys i d) other))

pub records-preserved : goal.records-preserved
records-preserved c =
    let next = written (with_part c.args.id c.args.after.now) c.args.records.now c.records.records c.records.r-index _
    c.records-test.true c.records.auto.records c.records.invariant in
    elim c.if-r-id.branch [
      | then-r-id w ↦ w.records-is ∙ changed c.args.id c.args.after.now c.records.records c.records.r-index _ w.if-r-id.true ∙ next
      | else-r-id w ↦ w.records-is ∙ unchanged c.args.id c.args.after.now c.records.records c.records.r-index _ w.if-r-id.false ∙ next
    ]
