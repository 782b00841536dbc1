-- The verdicts of a thread that makes each event that is still to come follow one another, where each is the tracker's
-- reaction.
use Rattle.std.proofs.Common.{◌≡◌, ℕ, ◌+◌, ◌≤◌, true, List, [], ◌∷◌, ◌++◌, length, take, drop, max, refl, sym, ap, subst, ◌∙◌, arith, append_assoc, length-append}
use Rattle.std.proofs.lemmas.List.{length-take-le, take-append-drop}
use Rattle.std.proofs.Math.Seq.{take-append_seam}
use Rattle.history_book.specs.declared.event.Event.{Event}
use Rattle.history_book.specs.declared.event.Note.{Note}
use Rattle.history_book.specs.declared.verdict.Verdict.{Verdict}
use Rattle.history_book.specs.History.{after, is_legal, run}
use Rattle.history_book.specs.Mark.{mark_past, points_of}
use Rattle.history_book.specs.State.{State, empty_state, next}
use Rattle.packet_path.specs.Packet.{Given}
use Rattle.packet_path.specs.Verdict.{FitsFrame}
use Rattle.replay_runs.specs.Report.{past_packet, Progress, TrackerSetup, VerdictFits, VerdictsFit}
use Rattle.replay_laws.specs.OneAnswer.{Follows}
use Rattle.replay_laws.specs.Reaction.{ReactsTo, configuration_of}
use Rattle.replay_laws.proofs.FrameReacts.{FrameReacts}
use Rattle.replay_laws.proofs.Marks.{at_each, at_up, mark_not_above, next_within, noted_drop, noted_length, noted_none, noted_take, past_least, past_up}
use Rattle.replay_laws.proofs.Noted.{noted}
use Rattle.replay_laws.proofs.Within.{AreWithin}

pub run-append : (s : State) (log more : List Event) → run s (log ++ more) ≡ run (run s log) more
run-append s [] more = refl
run-append s (e ∷ es) more = run-append (next s e) es more

pub after_front : (front later : List Event) → after (front ++ later) (length front) ≡ run empty_state front
unfolding after
after_front front later = ap (run empty_state) (take-append_seam front later)

-- what the next packet leaves: the mark is just behind its events, and its points are no later
record IsAhead (tracker : TrackerSetup) (log : List Event) (n made : ℕ) (es : List Event) (now : Progress) (gs : List Given) (v : Verdict)
    (vs : List Verdict) : Type 0 where
  pub points : AreWithin (n + made) (points_of v.class)
  pub mark : (past_packet now (noted n es) v).mark ≡ n + made
  pub rest : VerdictsFit tracker log (noted (n + made) (drop made es)) (past_packet now (noted n es) v) gs vs

module _ (tracker : TrackerSetup) (log : List Event) where
  is_ahead : (n : ℕ) (es : List Event) (now : Progress) (g : Given) (gs : List Given) (v : Verdict) (vs : List Verdict)
      → now.mark ≡ n → n + length es ≡ length log → VerdictFits tracker log (noted n es) now g v
      → VerdictsFit tracker log (drop v.made (noted n es)) (past_packet now (noted n es) v) gs vs
      → IsAhead tracker log n v.made es now gs v vs
  is_ahead n es now g gs v vs mark whole here later =
      let behind : Progress = past_packet now (noted n es) v in
      let made : v.made ≤ length es = omega (arith, here.within, noted_length n es) in
      let own : length (take v.made es) ≡ v.made = length-take-le v.made es made in
      let size : v.made + length (drop v.made es) ≡ length es =
      omega (arith, length-append (take v.made es) (drop v.made es), ap (λ (xs : List Event). length xs) (take-append-drop v.made es), own) in
      let rest : VerdictsFit tracker log (noted (n + v.made) (drop v.made es)) behind gs vs =
      subst (λ (ns : List Note). VerdictsFit tracker log ns behind gs vs) (noted_drop n v.made es made) later in
      let within : behind.mark ≤ length log =
      next_within tracker log n now.mark v.made es g v.class (omega (arith, mark, whole)) whole here.fits in
      let up : behind.mark ≤ n + v.made =
      mark_not_above tracker log (n + v.made) (drop v.made es) behind gs vs rest within (omega (arith, size, whole)) in
      let past : ℕ = mark_past now.mark (take v.made (noted n es)) in
      let least : n + length (take v.made es) ≤ max n past =
      subst (λ (ns : List Note). n + length (take v.made es) ≤ max n (mark_past now.mark ns)) (sym (noted_take n v.made es))
      (past_least n now.mark (take v.made es)) in
      let low : now.mark ≤ past = past_up now.mark (take v.made (noted n es)) in
      let high : past ≤ behind.mark = at_up past (points_of v.class) in
      record {
        points = at_each (n + v.made) past (points_of v.class) up;
        mark = omega (arith, up, least, low, high, own, mark);
        rest = rest;
      }

module _ (reacts : FrameReacts) (tracker : TrackerSetup) where
  reacts_here : (front es : List Event) (g : Given) (v : Verdict) (now : Progress) → is_legal tracker.sizes (front ++ es) ≡ true
      → now.mark ≡ length front → v.made ≤ length es → VerdictFits tracker (front ++ es) (noted (length front) es) now g v
      → AreWithin (length front + v.made) (points_of v.class)
      → ReactsTo (configuration_of tracker) (run empty_state front) (length front) g (record { events = take v.made es; class = v.class })
  reacts_here front es g v now legal mark made here points =
      let own : List Event = take v.made es in
      let later : List Event = drop v.made es in
      let parts : own ++ later ≡ es = take-append-drop v.made es in
      let fits : FitsFrame tracker.setup tracker.sizes (front ++ es) (length front) g (noted (length front) own) v.class =
      subst (λ (ns : List Note). FitsFrame tracker.setup tracker.sizes (front ++ es) (length front) g ns v.class)
      (noted_take (length front) v.made es)
      (subst (λ (m : ℕ). FitsFrame tracker.setup tracker.sizes (front ++ es) m g (take v.made (noted (length front) es)) v.class)
      mark here.fits) in
      subst (λ (s : State). ReactsTo (configuration_of tracker) s (length front) g (record { events = own; class = v.class }))
      (after_front front (own ++ later))
      (reacts tracker front own later g v.class
      (subst (λ (xs : List Event). is_legal tracker.sizes (front ++ xs) ≡ true) (sym parts) legal)
      (subst (λ (xs : List Event). FitsFrame tracker.setup tracker.sizes (front ++ xs) (length front) g (noted (length front) own) v.class)
      (sym parts) fits)
      (subst (λ (k : ℕ). AreWithin (length front + k) (points_of v.class)) (sym (length-take-le v.made es made)) points))

  pub follows_from : (gs : List Given) (vs : List Verdict) (front es : List Event) (now : Progress)
      → is_legal tracker.sizes (front ++ es) ≡ true → now.first ≡ length front → now.mark ≡ length front
      → VerdictsFit tracker (front ++ es) (noted (length front) es) now gs vs
      → Follows (configuration_of tracker) (run empty_state front) (length front) gs es vs
  follows_from [] [] front es now legal first mark fit = noted_none (length front) es fit
  follows_from [] (v ∷ vs) front es now legal first mark fit = fit
  follows_from (g ∷ gs) [] front es now legal first mark fit = fit
  follows_from (g ∷ gs) (v ∷ vs) front es now legal first mark (here, later) =
      let own : List Event = take v.made es in
      let rest : List Event = drop v.made es in
      let behind : Progress = past_packet now (noted (length front) es) v in
      let made : v.made ≤ length es = omega (arith, here.within, noted_length (length front) es) in
      let size : length own ≡ v.made = length-take-le v.made es made in
      let both : length (front ++ own) ≡ length front + v.made = omega (arith, length-append front own, size) in
      let whole : length front + length es ≡ length (front ++ es) = sym (length-append front es) in
      let ahead : IsAhead tracker (front ++ es) (length front) v.made es now gs v vs =
      is_ahead tracker (front ++ es) (length front) es now g gs v vs mark whole here later in
      let same : (front ++ own) ++ rest ≡ front ++ es =
      append_assoc front own rest ∙ ap (λ (xs : List Event). front ++ xs) (take-append-drop v.made es) in
      let fit : VerdictsFit tracker ((front ++ own) ++ rest) (noted (length (front ++ own)) rest) behind gs vs =
      subst (λ (log : List Event). VerdictsFit tracker log (noted (length (front ++ own)) rest) behind gs vs) (sym same)
      (subst (λ (n : ℕ). VerdictsFit tracker (front ++ es) (noted n rest) behind gs vs) (sym both) ahead.rest) in
      let follow : Follows (configuration_of tracker) (run empty_state (front ++ own)) (length (front ++ own)) gs rest vs =
      follows_from gs vs (front ++ own) rest behind
      (subst (λ (log : List Event). is_legal tracker.sizes log ≡ true) (sym same) legal)
      (omega (arith, first, both)) (omega (arith, ahead.mark, both)) fit in (
        here.starts ∙ first,
        made,
        reacts_here front es g v now legal mark made here ahead.points,
        subst (λ (n : ℕ). Follows (configuration_of tracker) (run (run empty_state front) own) n gs rest vs) both
            (subst (λ (s : State). Follows (configuration_of tracker) s (length (front ++ own)) gs rest vs) (run-append empty_state front own) follow),
      )
