-- Two reports of what one thread's tracker makes of the same frames are the same without places.
use Rattle.std.proofs.Common.{◌≡◌, ℕ, ◌+◌, ◌≤◌, zero, suc, List, [], ◌∷◌, ◌++◌, map, length, take, drop, refl, sym, ap, ap₂, subst, subst₂, ◌∙◌, Some, slice_get, arith, length-append}
use Rattle.std.proofs.Math.Seq.{take-append-add}
use Rattle.std.proofs.lemmas.List.{length-map, length-take-le, map-append, take-append-drop, take-append-le}
use Rattle.ftp_helper.specs.Laws.{NamedEndsAreUnique}
use Rattle.history_book.specs.declared.event.Event.{Event}
use Rattle.history_book.specs.declared.verdict.Verdict.{Verdict}
use Rattle.history_book.specs.History.{run}
use Rattle.history_book.specs.State.{State}
use Rattle.history_book.specs.StateLaws.{FreeIsAbsent}
use Rattle.nat_setup.specs.declared.rule.Rule.{Rule}
use Rattle.packet_path.specs.Packet.{Given}
use Rattle.replay_laws.specs.Reaction.{Configuration}
use Rattle.replay_laws.specs.OneAnswer.{ChoseTheSame, Follows, NoneIsDropped, unplaced}
use Rattle.replay_laws.proofs.Bare.{bare, run_same}
use Rattle.replay_laws.proofs.Follow.{run-append}
use Rattle.replay_laws.proofs.SameBeginning.{IsSame}
use Rattle.replay_laws.proofs.SameReaction.{one_reaction, slice_get-past}

-- from this state on, where as many entries are live as a full table may have, each place has one
abbrev pub KeepsRoom : Configuration → State → List Event → Type 0
KeepsRoom tracker s es =
    (j : ℕ) → j ≤ length es → tracker.full ≤ length (run s (take j es)).records → tracker.entries ≤ length (run s (take j es)).records

room_of : (tracker : Configuration) (s q : State) → s ≡ q → tracker.full ≤ length q.records
    → (tracker.full ≤ length s.records → tracker.entries ≤ length s.records) → tracker.entries ≤ length q.records
room_of tracker s q e full h =
    subst (λ (x : State). tracker.entries ≤ length x.records) e
    (h (subst (λ (x : State). tracker.full ≤ length x.records) (sym e) full))

room_front : (tracker : Configuration) (s : State) (es fs : List Event) → KeepsRoom tracker s (es ++ fs) → KeepsRoom tracker s es
room_front tracker s es fs room j within full =
    room_of tracker (run s (take j (es ++ fs))) (run s (take j es)) (ap (run s) (take-append-le j es fs within)) full
    (room j (omega (arith, within, length-append es fs)))

room_back : (tracker : Configuration) (s : State) (es fs : List Event) → KeepsRoom tracker s (es ++ fs) → KeepsRoom tracker (run s es) fs
room_back tracker s es fs room j within full =
    room_of tracker (run s (take (length es + j) (es ++ fs))) (run (run s es) (take j fs))
    (ap (run s) (take-append-add es fs j) ∙ run-append s es (take j fs)) full
    (room (length es + j) (omega (arith, within, length-append es fs)))

get_append : {X : Type 0} (xs ys : List X) (i : ℕ) (x : X) → slice_get xs i ≡ Some x → slice_get (xs ++ ys) i ≡ Some x
get_append [] ys i x h = cc
get_append (y ∷ xs) ys zero x h = h
get_append (y ∷ xs) ys (suc i) x h = get_append xs ys i x h

undropped_front : (es fs : List Event) → NoneIsDropped (es ++ fs) → NoneIsDropped es
undropped_front es fs none n id moment x = none n id moment (get_append es fs n _ x)

undropped_back : (es fs : List Event) → NoneIsDropped (es ++ fs) → NoneIsDropped fs
undropped_back es fs none n id moment x = none (length es + n) id moment (slice_get-past es fs n ∙ x)

chose_front : (rules : List Rule) (es fs ds gs : List Event) → ChoseTheSame rules (es ++ fs) (ds ++ gs) → ChoseTheSame rules es ds
chose_front rules es fs ds gs same n r q x y ruled = same n r q (get_append es fs n _ x) (get_append ds gs n _ y) ruled

chose_back : (rules : List Rule) (es fs ds gs : List Event) → length es ≡ length ds → ChoseTheSame rules (es ++ fs) (ds ++ gs)
    → ChoseTheSame rules fs gs
chose_back rules es fs ds gs e same n r q x y ruled =
    same (length es + n) r q (slice_get-past es fs n ∙ x)
    (ap (λ (k : ℕ). slice_get (ds ++ gs) (k + n)) e ∙ slice_get-past ds gs n ∙ y) ruled

same_verdict : (v w : Verdict) → v.class ≡ w.class → v.first ≡ w.first → v.made ≡ w.made → v ≡ w
same_verdict v w e f g = λ i. record { class = e i; first = f i; made = g i }

module _ (unique : NamedEndsAreUnique) (absent : FreeIsAbsent) (tracker : Configuration) where
  pub two_follow : (s q : State) (number : ℕ) (frames : List Given) (es fs : List Event) (vs ws : List Verdict) → bare s ≡ bare q
      → Follows tracker s number frames es vs → Follows tracker q number frames fs ws
      → KeepsRoom tracker s es → NoneIsDropped es → ChoseTheSame tracker.rules es fs
      → (map unplaced es ≡ map unplaced fs) × (vs ≡ ws)
  two_follow s q number [] es fs [] [] e a b room undropped same = (ap (map unplaced) (a ∙ sym b), refl)
  two_follow s q number [] es fs [] (w ∷ ws) e a b room undropped same = absurd b
  two_follow s q number [] es fs (v ∷ vs) ws e a b room undropped same = absurd a
  two_follow s q number (g ∷ gs) es fs [] ws e a b room undropped same = absurd a
  two_follow s q number (g ∷ gs) es fs (v ∷ vs) [] e a b room undropped same = absurd b
  two_follow s q number (g ∷ gs) es fs (v ∷ vs) (w ∷ ws) e (at, count, reacts, a) (to, counted, reacted, b) room undropped same =
      let left : take v.made es ++ drop v.made es ≡ es = take-append-drop v.made es in
      let right : take w.made fs ++ drop w.made fs ≡ fs = take-append-drop w.made fs in
      let rooms : KeepsRoom tracker s (take v.made es ++ drop v.made es) =
      subst (λ (x : List Event). KeepsRoom tracker s x) (sym left) room in
      let none : NoneIsDropped (take v.made es ++ drop v.made es) = subst NoneIsDropped (sym left) undropped in
      let chose : ChoseTheSame tracker.rules (take v.made es ++ drop v.made es) (take w.made fs ++ drop w.made fs) =
      subst₂ (λ (x y : List Event). ChoseTheSame tracker.rules x y) (sym left) (sym right) same in
      let here : IsSame (record { events = take v.made es; class = v.class }) (record { events = take w.made fs; class = w.class }) =
      one_reaction unique absent tracker s q number g (record { events = take v.made es; class = v.class })
      (record { events = take w.made fs; class = w.class }) e reacts reacted
      (room_front tracker s (take v.made es) (drop v.made es) rooms)
      (undropped_front (take v.made es) (drop v.made es) none)
      (chose_front tracker.rules (take v.made es) (drop v.made es) (take w.made fs) (drop w.made fs) chose) in
      let long : length (take v.made es) ≡ length (take w.made fs) =
      sym (length-map (take v.made es) unplaced) ∙ ap (λ (x : List Event). length x) here.events ∙ length-map (take w.made fs) unplaced in
      let made : v.made ≡ w.made = sym (length-take-le v.made es count) ∙ long ∙ length-take-le w.made fs counted in
      let rest : (map unplaced (drop v.made es) ≡ map unplaced (drop w.made fs)) × (vs ≡ ws) =
      two_follow (run s (take v.made es)) (run q (take w.made fs)) (number + v.made) gs (drop v.made es) (drop w.made fs) vs ws
      (run_same s q (take v.made es) (take w.made fs) e here.events) a
      (subst (λ (n : ℕ). Follows tracker (run q (take w.made fs)) (number + n) gs (drop w.made fs) ws) (sym made) b)
      (room_back tracker s (take v.made es) (drop v.made es) rooms)
      (undropped_back (take v.made es) (drop v.made es) none)
      (chose_back tracker.rules (take v.made es) (drop v.made es) (take w.made fs) (drop w.made fs) long chose) in (
        ap (map unplaced) (sym left) ∙ map-append unplaced (take v.made es) (drop v.made es)
            ∙ ap₂ (λ (x y : List Event). x ++ y) here.events rest.0
            ∙ sym (map-append unplaced (take w.made fs) (drop w.made fs)) ∙ ap (map unplaced) right,
        ap₂ (λ (x : Verdict) (xs : List Verdict). x ∷ xs) (same_verdict v w here.class (at ∙ sym to) made) rest.1,
      )
