-- The text of a report reads no places, and of lists no more than their items.
use Rattle.std.proofs.Common.{◌≡◌, ℕ, ◌+◌, List, [], ◌∷◌, ◌++◌, length, map, codes, decimal, refl, sym, ap, ap₂, ◌∙◌}
use Rattle.std.proofs.lemmas.List.{length-map}
use Rattle.room_list.specs.Roomed.{Roomed}
use Rattle.history_book.specs.declared.event.Event.{Event}
use Rattle.history_book.specs.declared.event.Event.TheVariants.{Confirm, Touch, Destroy, Expect, Claim, Unexpect}
use Rattle.history_book.specs.declared.event.Numbered.{Numbered}
use Rattle.history_book.specs.declared.record.Record.{Record}
use Rattle.history_book.specs.declared.report.Report.{Report}
use Rattle.history_book.specs.declared.verdict.Verdict.{Verdict}
use Rattle.report_text.specs.Line.{event_line, history_head, thread_head, verdict_line}
use Rattle.report_text.specs.Piece.{event_text, flow_text, record_text, who_text}
use Rattle.report_text.specs.Report.{history_text, line_of_event, report_text, script_text, thread_text, tracking_text}
use Rattle.report_text.specs.Summary.{all_verdicts, summary_head, summary_text, words_text}
use Rattle.report_text.specs.Texts.{texts_from}
use Rattle.replay_laws.specs.OneAnswer.{IsSameReport, SameReportsPrintTheSame, unplaced, unplaced_item}

-- ---- lists

texts_of_map : {X Y : Type 0} (f : ℕ → X → List ℕ) (g : ℕ → Y → List ℕ) (h : X → Y) → ((i : ℕ) (x : X) → f i x ≡ g i (h x))
    → (from : ℕ) (xs : List X) → texts_from f from xs ≡ texts_from g from (map h xs)
texts_of_map f g h same from [] = refl
texts_of_map f g h same from (x ∷ xs) =
    ap₂ (λ (a b : List ℕ). a ++ b) (same from x) (texts_of_map f g h same (from + 1) xs)

same_texts : {X Y : Type 0} (f : ℕ → X → List ℕ) (g : ℕ → Y → List ℕ) (h : X → Y) → ((i : ℕ) (x : X) → f i x ≡ g i (h x))
    → (from : ℕ) (xs ys : List X) → map h xs ≡ map h ys → texts_from f from xs ≡ texts_from f from ys
same_texts {Y = Y} f g h same from xs ys e =
    texts_of_map f g h same from xs ∙ ap (λ (zs : List Y). texts_from g from zs) e ∙ sym (texts_of_map f g h same from ys)

same_length : {X Y : Type 0} (h : X → Y) (xs ys : List X) → map h xs ≡ map h ys → length xs ≡ length ys
same_length {Y = Y} h xs ys e = sym (length-map xs h) ∙ ap (λ (zs : List Y). length zs) e ∙ length-map ys h

-- ---- events

unplaced_record : (r : Record) → record_text r ≡ record_text (record r { place = 0 })
unfolding record_text flow_text
unplaced_record r = refl

unplaced_text : (who : List ℕ) (e : Event) → event_text who e ≡ event_text who (unplaced e)
unfolding event_text
unplaced_text who (Confirm r) =
    ap (λ (xs : List ℕ). codes " " ++ codes "confirm" ++ codes " " ++ who ++ (codes " " ++ xs)) (unplaced_record r)
unplaced_text who (Touch id direction segment moment part) = refl
unplaced_text who (Destroy id why) = refl
unplaced_text who (Expect expectation replaced moment) = refl
unplaced_text who (Claim expectation master tuple moment) = refl
unplaced_text who (Unexpect expectation moment) = refl

unplaced_line : (script index : ℕ) (n : Numbered) → line_of_event script index n ≡ line_of_event script index (unplaced_item n)
unfolding event_line
unplaced_line script index n =
    ap (λ (xs : List ℕ). decimal n.number ++ xs ++ codes "\n") (unplaced_text (who_text script n.thread n.index) n.event)

same_history : (script : ℕ) (xs ys : List Numbered) → map unplaced_item xs ≡ map unplaced_item ys
    → history_text script xs ≡ history_text script ys
unfolding history_text
same_history script xs ys e =
    ap₂ (λ (a b : List ℕ). a ++ b) (ap history_head (same_length unplaced_item xs ys e))
    (same_texts (line_of_event script) (line_of_event script) unplaced_item (unplaced_line script) 0 xs ys e)

-- ---- verdicts

items_text : ℕ → List Verdict → List ℕ
items_text thread vs = thread_head thread (length vs) ++ texts_from verdict_line 0 vs

same_threads : (xs ys : List (Roomed Verdict)) → map (λ (vs : Roomed Verdict). vs.items) xs ≡ map (λ (vs : Roomed Verdict). vs.items) ys
    → texts_from thread_text 0 xs ≡ texts_from thread_text 0 ys
unfolding thread_text items_text
same_threads xs ys e = same_texts thread_text items_text (λ (vs : Roomed Verdict). vs.items) (λ i vs. refl) 0 xs ys e

verdicts_of_items : List (List Verdict) → List Verdict
verdicts_of_items [] = []
verdicts_of_items (vs ∷ vss) = vs ++ verdicts_of_items vss

all_of_items : (xs : List (Roomed Verdict)) → all_verdicts xs ≡ verdicts_of_items (map (λ (vs : Roomed Verdict). vs.items) xs)
unfolding verdicts_of_items
all_of_items [] = refl
all_of_items (x ∷ xs) = ap (λ (vs : List Verdict). x.items ++ vs) (all_of_items xs)

same_verdicts : (xs ys : List (Roomed Verdict)) → map (λ (vs : Roomed Verdict). vs.items) xs ≡ map (λ (vs : Roomed Verdict). vs.items) ys
    → all_verdicts xs ≡ all_verdicts ys
same_verdicts xs ys e = all_of_items xs ∙ ap verdicts_of_items e ∙ sym (all_of_items ys)

-- ---- reports

module _ (report other : Report) (same : IsSameReport report other) where
  same_count : length report.threads.items ≡ length other.threads.items
  same_count = same_length (λ (vs : Roomed Verdict). vs.items) report.threads.items other.threads.items same.verdicts

  same_tracking : tracking_text report ≡ tracking_text other
  unfolding tracking_text
  same_tracking =
      ap₂ (λ (a b : List ℕ). a ++ b)
      (ap (λ (n : ℕ). history_text n report.history.items) same_count
      ∙ same_history (length other.threads.items) report.history.items other.history.items same.history)
      (same_threads report.threads.items other.threads.items same.verdicts)

  same_report : report_text report ≡ report_text other
  unfolding report_text
  same_report =
      ap₂ (λ (a b : List ℕ). a ++ b) same_tracking (ap script_text same.answers)

  same_summary : summary_text report ≡ summary_text other
  unfolding summary_text
  same_summary =
      let all : all_verdicts report.threads.items ≡ all_verdicts other.threads.items =
      same_verdicts report.threads.items other.threads.items same.verdicts in
      ap₂ (λ (a b : List ℕ). a ++ b)
      (ap (λ (n : ℕ). summary_head n (length (all_verdicts report.threads.items)) (length report.history.items) report.live) same_count
      ∙ ap (λ (vs : List Verdict). summary_head (length other.threads.items) (length vs) (length report.history.items) report.live) all
      ∙ ap (λ (n : ℕ). summary_head (length other.threads.items) (length (all_verdicts other.threads.items)) n report.live)
      (same_length unplaced_item report.history.items other.history.items same.history)
      ∙ ap (λ (n : ℕ). summary_head (length other.threads.items) (length (all_verdicts other.threads.items)) (length other.history.items) n)
      same.live)
      (ap words_text all)

pub print_the_same : SameReportsPrintTheSame
print_the_same report other same = record { text = same_report report other same; summary = same_summary report other same }
