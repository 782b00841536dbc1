-- Where one capture is replayed alone, each packet has one answer, and one text is printed: as far as rules choose the
-- same, while the table is not nearly full, and while no entry is dropped.
use Rattle.std.specs.Prelude.{◌≡◌, ℕ, ◌+◌, ◌<◌, ◌≤◌, List, [], ◌∷◌, length, map, take, drop, slice_get, Some, IsSome}
use Rattle.room_list.specs.Roomed.{Roomed}
use Rattle.history_book.specs.declared.event.Event.{Event}
use Rattle.history_book.specs.declared.event.Event.TheVariants.{Confirm, Touch, Destroy, Expect, Claim, Unexpect}
use Rattle.history_book.specs.declared.event.Numbered.{Numbered}
use Rattle.history_book.specs.declared.event.Why.TheVariants.{Dropped}
use Rattle.history_book.specs.declared.record.Record.{Record}
use Rattle.history_book.specs.declared.report.Report.{Report}
use Rattle.history_book.specs.declared.sizes.Sizes.{Sizes}
use Rattle.history_book.specs.declared.verdict.Verdict.{Verdict}
use Rattle.history_book.specs.History.{after, run}
use Rattle.history_book.specs.Numbered.{events_of}
use Rattle.history_book.specs.Sizes.{fewest_of_full}
use Rattle.history_book.specs.State.{State, empty_state}
use Rattle.nat_setup.specs.declared.rule.Rule.{Rule}
use Rattle.nat_setup.specs.Rule.{rule_for}
use Rattle.packet_path.specs.Packet.{Given}
use Rattle.replay_runs.specs.Report.{IsWellFormed, TrackerSetup, Work}
use Rattle.report_text.specs.Report.{report_text}
use Rattle.report_text.specs.Summary.{summary_text}
use Rattle.replay_laws.specs.Reaction.{Configuration, ReactsTo, configuration_of}

-- one capture, and no command; a script without commands may have a line `wait`
abbrev pub alone : List Given → ℕ → Work
alone frames wait = record { captures = frames ∷ []; commands = []; wait = wait }

-- ---- a report is what the tracker of one thread does

-- from a state and a point on, each verdict and its events are the tracker's reaction to the frame, one after another, and
-- there are no other events
abbrev pub Follows : Configuration → State → ℕ → List Given → List Event → List Verdict → Type 0
Follows tracker s at [] events [] = events ≡ []
Follows tracker s at [] events (v ∷ vs) = ⊥
Follows tracker s at (g ∷ gs) events [] = ⊥
Follows tracker s at (g ∷ gs) events (v ∷ vs) =
    (v.first ≡ at) × (v.made ≤ length events)
    × ReactsTo tracker s at g (record { events = take v.made events; class = v.class })
    × Follows tracker (run s (take v.made events)) (at + v.made) gs (drop v.made events) vs

-- the report has one thread, and its verdicts and events are the tracker's reactions to the frames
pub record IsFollowed (tracker : TrackerSetup) (frames : List Given) (report : Report) : Type 0 where
  pub verdicts : Roomed Verdict
  pub alone : report.threads.items ≡ verdicts ∷ []
  pub follows : Follows (configuration_of tracker) empty_state 0 frames (events_of report.history.items) verdicts.items

abbrev pub OneThreadFollows : Type 0
OneThreadFollows =
    (tracker : TrackerSetup) (frames : List Given) (wait : ℕ) (report : Report)
    → IsWellFormed tracker (alone frames wait) report → IsFollowed tracker frames report

-- ---- two reports of one capture

-- FULL is determined at each point: where as many entries are live as it asks for, each place has one. With one pass that
-- is always so. With more it says that at no point so many are live.
abbrev pub NeverNearlyFull : Sizes → List Event → Type 0
NeverNearlyFull sizes log =
    (p : ℕ) → p ≤ length log → fewest_of_full sizes ≤ length (after log p).records → sizes.entries ≤ length (after log p).records

-- no event of the history is a drop
abbrev pub NoneIsDropped : List Event → Type 0
NoneIsDropped log = (n id moment : ℕ) → slice_get log n ≡ Some (Destroy id (Dropped moment)) → ⊥

-- in a tracker of one pass no table is nearly full
abbrev pub OnePassIsNeverNearlyFull : Type 0
OnePassIsNeverNearlyFull = (sizes : Sizes) (log : List Event) → sizes.passes ≡ 1 → NeverNearlyFull sizes log

-- one capture of fewer frames than it takes for FULL leaves no table nearly full
abbrev pub FewFramesAreNeverNearlyFull : Type 0
FewFramesAreNeverNearlyFull =
    (tracker : TrackerSetup) (frames : List Given) (wait : ℕ) (report : Report)
    → IsWellFormed tracker (alone frames wait) report → length frames < fewest_of_full tracker.sizes
    → NeverNearlyFull tracker.sizes (events_of report.history.items)

-- where both histories confirm a flow at one number, and a rule is for it, the rule chose the same reply tuple
abbrev pub ChoseTheSame : List Rule → List Event → List Event → Type 0
ChoseTheSame rules log other =
    (n : ℕ) (r q : Record) → slice_get log n ≡ Some (Confirm r) → slice_get other n ≡ Some (Confirm q)
    → IsSome (rule_for rules r.original) → r.reply ≡ q.reply

-- an event, but for the place of a new entry, which is not printed
abbrev pub unplaced : Event → Event
unplaced (Confirm r) = Confirm (record r { place = 0 })
unplaced (Touch id direction segment moment part) = Touch id direction segment moment part
unplaced (Destroy id why) = Destroy id why
unplaced (Expect expectation replaced moment) = Expect expectation replaced moment
unplaced (Claim expectation master tuple moment) = Claim expectation master tuple moment
unplaced (Unexpect expectation moment) = Unexpect expectation moment

abbrev pub unplaced_item : Numbered → Numbered
unplaced_item n = record n { event = unplaced n.event }

-- the same events, but for places; the same verdicts, with their points; the same answers; and as many live entries
pub record IsSameReport (report other : Report) : Type 0 where
  pub history : map unplaced_item report.history.items ≡ map unplaced_item other.history.items
  pub verdicts : map (λ (vs : Roomed Verdict). vs.items) report.threads.items ≡ map (λ (vs : Roomed Verdict). vs.items) other.threads.items
  pub answers : report.answers.items ≡ other.answers.items
  pub live : report.live ≡ other.live

-- two trackers have the same rules, ports of the helper, and room. Lists of their setup may have more room than they use,
-- and their buckets and seeds differ.
abbrev pub AreAlike : TrackerSetup → TrackerSetup → Type 0
AreAlike tracker other = configuration_of tracker ≡ configuration_of other

-- one capture has one report with trackers that are alike, where the rules chose the same, the table was never nearly
-- full, and one of the reports has no drop
abbrev pub OnePacketOneAnswer : Type 0
OnePacketOneAnswer =
    (tracker twin : TrackerSetup) (frames : List Given) (wait : ℕ) (report other : Report) → AreAlike tracker twin
    → IsWellFormed tracker (alone frames wait) report → IsWellFormed twin (alone frames wait) other
    → NeverNearlyFull tracker.sizes (events_of report.history.items)
    → NoneIsDropped (events_of report.history.items)
    → ChoseTheSame tracker.setup.rules.items (events_of report.history.items) (events_of other.history.items)
    → IsSameReport report other

-- ---- what is printed

-- the text and the summary are the same
pub record IsSameText (report other : Report) : Type 0 where
  pub text : report_text report ≡ report_text other
  pub summary : summary_text report ≡ summary_text other

-- the same reports have the same text
abbrev pub SameReportsPrintTheSame : Type 0
SameReportsPrintTheSame = (report other : Report) → IsSameReport report other → IsSameText report other

-- without rules one capture has one text with trackers that are alike, where the table was never nearly full and no
-- entry was dropped
abbrev pub OneCaptureOneText : Type 0
OneCaptureOneText =
    (tracker twin : TrackerSetup) (frames : List Given) (wait : ℕ) (report other : Report) → AreAlike tracker twin
    → tracker.setup.rules.items ≡ []
    → IsWellFormed tracker (alone frames wait) report → IsWellFormed twin (alone frames wait) other
    → NeverNearlyFull tracker.sizes (events_of report.history.items)
    → NoneIsDropped (events_of report.history.items) → IsSameText report other
