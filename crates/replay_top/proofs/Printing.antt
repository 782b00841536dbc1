-- What is printed: a report or its summary, then what was heard, and how packets leave.
use Rattle.std.proofs.Common.{◌≡◌, ℕ, zero, suc, ◌+◌, ◌<◌, ◌≤◌, List, [], ◌∷◌, ◌++◌, length, map, take, Option, Some, None, refl, sym, ap, subst, ◌∙◌, ap₂, arith, append_assoc, append-nil, length-append, length-take}
use Rattle.std.specs.Prelude.{Err, get_or, min, Ok, option_map, Result, slice_get}
use Rattle.std.proofs.lemmas.List.{length-map, take-append-le, take_more}
use Rattle.std.proofs.lemmas.Option.{get_or_from_slice_get, slice_get-map, slice_get_within}
use Rattle.std.proofs.Math.Seq.{take-append-add}
use Rattle.command_words.specs.Words.{Request}
use Rattle.ct_io.specs.Counts.{Rose}
use Rattle.ct_io.specs.Source.{SameFaults, Source}
use Rattle.ct_io.specs.Tape.{Tape}
use Rattle.history_book.specs.declared.event.Note.{Note}
use Rattle.ftp_rewrite.specs.declared.write.WriteFault as lines_fault
use Rattle.ftp_rewrite.specs.Wrote as lines
use Rattle.report_text.specs.declared.heard.HeardCount.{HeardCount}
use Rattle.report_text.specs.declared.write.WriteFault.{WriteFault}
use Rattle.report_text.specs.Heard.{heard_counts, heard_text}
use Rattle.report_text.specs.Wrote.{followed_by, Wrote, WroteFront}
use Rattle.replay_top.specs.declared.ending.Replayed.{Replayed}
use Rattle.replay_top.specs.Internal.Ending.{counts_of, ended, Ends, heard_of, IsReplayWith}
use Rattle.replay_top.specs.Internal.Replaying.{rewritten_text}
use Rattle.replay_top.specs.Replay.{printed, text_of}

-- one text, and then another
followed_twice : (before : Option (List ℕ)) (first second : List ℕ) → followed_by (followed_by before first) second ≡ followed_by before (first ++ second)
followed_twice None first second = refl
followed_twice (Some bytes) first second = ap (λ (xs : List ℕ). Some xs) (append_assoc bytes first second)

-- where the first was written whole, and the second was written or only its front
pub wrote_both : (first second : List ℕ) (t u v : Tape) (result : Result (Unit {0}) WriteFault) → Wrote first t u (Ok tt) → Wrote second u v result
    → Wrote (first ++ second) t v result
wrote_both first second t u v (Ok done) (is, same) (then, still) = (
  then ∙ ap (λ (w : Option (List ℕ)). followed_by w second) is ∙ followed_twice t.written first second,
  still ∙ same,
)
wrote_both first second t u v (Err fault) (is, same) (rose, front) = (
  subst (λ (n : ℕ). Rose n v.faults) same rose,
  (
    length first + front.0,
    omega (arith, front.1, length-append first second),
    front.2 ∙ ap (λ (w : Option (List ℕ)). followed_by w (take front.0 second)) is ∙ followed_twice t.written first (take front.0 second)
        ∙ ap (followed_by t.written) (sym (take-append-add first second front.0)),
  ),
)

-- where only the front of the first was
pub wrote_less : (first second : List ℕ) (t u : Tape) (fault : WriteFault) → Wrote first t u (Err fault) → Wrote (first ++ second) t u (Err fault)
wrote_less first second t u fault (rose, front) = (
  rose,
  (
    front.0,
    omega (arith, front.1, length-append first second),
    front.2 ∙ ap (followed_by t.written) (sym (take-append-le front.0 first second (omega (arith, front.1)))),
  ),
)

-- where there is nothing to write
nothing_follows : (before : Option (List ℕ)) → before ≡ followed_by before []
nothing_follows None = refl
nothing_follows (Some bytes) = ap (λ (xs : List ℕ). Some xs) (sym (append-nil bytes))

pub wrote_nothing : (t : Tape) → Wrote [] t t (Ok tt)
wrote_nothing t = (nothing_follows t.written, refl)

-- what was written of how packets leave, in the words of the report's text
same_followed : (before : Option (List ℕ)) (text : List ℕ) → lines.followed_by before text ≡ followed_by before text
same_followed None text = refl
same_followed (Some bytes) text = refl

pub wrote_rewrites : (text : List ℕ) (t u : Tape) → lines.Wrote text t u (Ok tt) → Wrote text t u (Ok tt)
wrote_rewrites text t u wrote = (wrote.written ∙ same_followed t.written text, wrote.no_fault)

pub wrote_some_rewrites : (text : List ℕ) (t u : Tape) (fault : lines_fault.WriteFault) (own : WriteFault) → lines.Wrote text t u (Err fault)
    → Wrote text t u (Err own)
wrote_some_rewrites text t u fault own wrote = (wrote.rose, (wrote.count, wrote.few, wrote.written ∙ same_followed t.written (take wrote.count text)))

-- ---- how many were heard

-- one thread more
counts_behind : (made heard : List ℕ) (m h : ℕ) → length made ≡ length heard
    → heard_counts (made ++ m ∷ []) (heard ++ h ∷ []) ≡ heard_counts made heard ++ record { heard = h; made = m } ∷ []
counts_behind [] [] m h long = refl
counts_behind [] (b ∷ heard) m h long = absurd (omega (arith, long))
counts_behind (a ∷ made) [] m h long = absurd (omega (arith, long))
counts_behind (a ∷ made) (b ∷ heard) m h long =
    ap (λ (xs : List HeardCount). record { heard = b; made = a } ∷ xs) (counts_behind made heard m h (omega (arith, long)))

pub counts_more : (k : ℕ) (made : List ℕ) (heard : List (List Note)) (notes : List Note) (h : ℕ) → k < length made → slice_get heard k ≡ Some notes
    → h ≡ length notes → heard_counts (take (k + 1) made) (take (k + 1) (map length heard))
    ≡ heard_counts (take k made) (take k (map length heard)) ++ record { heard = h; made = get_or made k 0 } ∷ []
counts_more k made heard notes h below is long =
    let lengths : List ℕ = map length heard in
    let within : k < length lengths = subst (λ (n : ℕ). k < n) (sym (length-map heard length)) (slice_get_within heard k notes is) in
    let here : get_or lengths k 0 ≡ h =
    get_or_from_slice_get lengths k (length notes) 0 (slice_get-map length heard k ∙ ap (option_map length) is) ∙ sym long in
    ap₂ heard_counts (take_more made k 0 below) (take_more lengths k 0 within ∙ ap (λ (y : ℕ). take k lengths ++ y ∷ []) here)
    ∙ counts_behind (take k made) (take k lengths) (get_or made k 0) h (omega (arith, below, within, length-take k made, length-take k lengths))

-- all threads
pub counts_all : (k : ℕ) (made heard : List ℕ) → min (length made) (length heard) ≤ k → heard_counts (take k made) (take k heard) ≡ heard_counts made heard
counts_all zero [] heard past = refl
counts_all zero (a ∷ made) [] past = refl
counts_all zero (a ∷ made) (b ∷ heard) past = absurd (omega (arith, past))
counts_all (suc k) [] heard past = refl
counts_all (suc k) (a ∷ made) [] past = refl
counts_all (suc k) (a ∷ made) (b ∷ heard) past =
    ap (λ (xs : List HeardCount). record { heard = b; made = a } ∷ xs) (counts_all k made heard (omega (arith, past)))

-- ---- how a run ends

-- the text of a report, or its summary, and the lines behind it are what is printed
module _ (files files' : Source) (asked : Request) (made : Replayed) (out out' : Tape) (counts : List HeardCount) (with : IsReplayWith files asked made)
    (same : SameFaults files files') (are : counts ≡ counts_of made.listened) where
  abbrev text_made : List ℕ
  text_made = text_of asked.summary made.report ++ heard_text counts ++ rewritten_text made.rewrites

  all_printed : text_made ≡ printed asked with.replay.bytes with.replay.contents made.report (heard_of made.listened)
  all_printed =
      ap₂ (λ (heard rewrites : List ℕ). text_of asked.summary made.report ++ heard ++ rewrites) (ap heard_text are ∙ with.lines) with.rewrites

  pub ends_so : (written : Result (Unit {0}) WriteFault) → Wrote text_made out out' written → Ends asked files files' out out' (ended written made)
  ends_so (Ok done) (is, still) = (record { replay = with.replay; text = is ∙ ap (followed_by out.written) all_printed }, same, still)
  ends_so (Err fault) (rose, front) = (
    record {
      replay = with.replay;
      failed = rose;
      text = subst (λ (text : List ℕ). WroteFront text out.written out'.written) all_printed front;
    },
    same,
  )
