-- Which words each call of a clerk may have changed itself.
use Rattle.std.specs.Prelude.{ℕ, Bool, true, false}
use Rattle.history_book.specs.declared.outcome.ClaimOutcome.{ClaimOutcome}
use Rattle.history_book.specs.declared.outcome.ClaimOutcome.TheVariants as claim
use Rattle.history_book.specs.declared.outcome.ConfirmOutcome.{ConfirmOutcome}
use Rattle.history_book.specs.declared.outcome.ConfirmOutcome.TheVariants as confirm
use Rattle.history_book.specs.declared.outcome.ExpectOutcome.{ExpectOutcome}
use Rattle.history_book.specs.declared.outcome.ExpectOutcome.TheVariants as expect
use Rattle.history_book.specs.declared.outcome.KillOutcome.{KillOutcome}
use Rattle.history_book.specs.declared.outcome.KillOutcome.TheVariants as kill
use Rattle.history_book.specs.declared.outcome.TouchOutcome.{TouchOutcome}
use Rattle.history_book.specs.declared.outcome.TouchOutcome.TheVariants as touch
use Rattle.history_book.specs.declared.outcome.UnexpectOutcome.{UnexpectOutcome}
use Rattle.history_book.specs.declared.outcome.UnexpectOutcome.TheVariants as unexpect
use Rattle.history_book.specs.declared.record.Flow.{Flow}
use Rattle.history_book.specs.declared.record.Record.{Record}
use Rattle.history_book.specs.declared.sizes.Sizes.{Sizes}
use Rattle.track_rule.specs.ChangesOnly.{either, is_expect_turn, is_free_turn, is_gen_of, is_history, is_live_of, is_next_of, is_phase_of, is_refs_of, is_some_next, is_some_phase, is_some_refs, is_tuple_of, is_turn_of, no_word, where_so}
use Rattle.track_rule.specs.PhaseSteps.{phase_dead, phase_free}
use Rattle.track_rule.specs.declared.view.Reading.{Reading}
use Rattle.entry_pool.specs.Take.{recycle_words}
use Rattle.bucket_table.specs.Following.{bucket_in}
use Rattle.bucket_table.specs.LockedChain.{heads_of}
use Rattle.shared_desk.specs.Killing.{flow_of}

-- WHETHER AN EVENT WAS MADE

abbrev pub is_touched : TouchOutcome → Bool
is_touched (touch.Touched number before) = true
is_touched (touch.Ignored at) = false
is_touched (touch.Invalid at) = false
is_touched (touch.Reopen at) = false
is_touched (touch.Reset at) = false
is_touched (touch.Expired at) = false
is_touched (touch.Gone at) = false

abbrev pub is_expected : ExpectOutcome → Bool
is_expected (expect.Expected id replaced) = true
is_expected (expect.MasterGone at) = false
is_expected (expect.Clash id at) = false
is_expected (expect.ExpectFull at) = false

abbrev pub is_claimed : ClaimOutcome → Bool
is_claimed (claim.Claimed number expectation master) = true
is_claimed (claim.Unclaimed at) = false

abbrev pub is_removed : UnexpectOutcome → Bool
is_removed (unexpect.Removed number) = true
is_removed (unexpect.Gone at) = false
is_removed (unexpect.Not deadline at) = false

-- THE CALLS

-- those that read an entry or make an event: the turn of the entry's record, or that of the expectations; and the history word where
-- an event was made
abbrev pub touch_words : ℕ → TouchOutcome → Sizes → Reading → Bool
touch_words place outcome = either (is_turn_of place) (where_so (is_touched outcome) is_history)

abbrev pub expect_words : ℕ → ExpectOutcome → Sizes → Reading → Bool
expect_words place outcome = either (is_turn_of place) (either is_expect_turn (where_so (is_expected outcome) is_history))

abbrev pub claim_words : ClaimOutcome → Sizes → Reading → Bool
claim_words outcome = either is_expect_turn (where_so (is_claimed outcome) is_history)

abbrev pub unexpect_words : UnexpectOutcome → Sizes → Reading → Bool
unexpect_words outcome = either is_expect_turn (where_so (is_removed outcome) is_history)

-- the generations of the buckets of a flow's two tuples, and their heads
abbrev pub flow_gens : Flow → Sizes → Reading → Bool
flow_gens flow z = either (is_gen_of (bucket_in z flow.original)) (is_gen_of (bucket_in z flow.reply)) z

abbrev pub flow_heads : Flow → Sizes → Reading → Bool
flow_heads flow z = heads_of (bucket_in z flow.original) (bucket_in z flow.reply) z

-- confirm: the tuples of the place, the turn of its record, and these generations; where the flow became an entry the heads besides, and
-- of the place its next links, its references, and its phase, which became LIVE; and the history word
abbrev pub commit_words : ℕ → Flow → Sizes → Reading → Bool
commit_words place flow = either (either (flow_heads flow) (is_next_of place)) (either (is_refs_of place) (either is_history (is_live_of place)))

abbrev pub enter_words : Flow → ℕ → ConfirmOutcome → Sizes → Reading → Bool
enter_words flow place (confirm.Confirmed id) = either (flow_gens flow) (commit_words place flow)
enter_words flow place (confirm.Clash id direction both at) = flow_gens flow

abbrev pub confirm_words : Flow → ℕ → ConfirmOutcome → Sizes → Reading → Bool
confirm_words flow place outcome = either (is_tuple_of place) (either (is_turn_of place) (enter_words flow place outcome))

-- kill: the turn of the record; where the entry was destroyed the place's references, and its phase, which became DEAD, the generations of
-- the entry's two buckets, their heads, the next links there, and the history word; and the turn of the expectations where the entry had the helper
abbrev pub destroy_words : ℕ → Record → Sizes → Reading → Bool
destroy_words place r = either (is_phase_of place phase_dead) (either is_history (either (flow_heads (flow_of r)) is_some_next))

abbrev pub end_words : ℕ → Record → Sizes → Reading → Bool
end_words place r = either (flow_gens (flow_of r)) (either (is_refs_of place) (destroy_words place r))

abbrev pub killed_words : ℕ → KillOutcome → Sizes → Reading → Bool
killed_words place (kill.Killed number subject) = either (where_so subject.helper is_expect_turn) (end_words place subject)
killed_words place (kill.Gone at) = no_word
killed_words place (kill.Not subject at) = no_word

abbrev pub kill_words : ℕ → KillOutcome → Sizes → Reading → Bool
kill_words place outcome = either (is_turn_of place) (killed_words place outcome)

-- hold, find: the references, of the place or of some, and the way back; hold besides the turn of the place's record
abbrev pub give_words : ℕ → Sizes → Reading → Bool
give_words place = either (is_refs_of place) (recycle_words place)

abbrev pub hold_words : ℕ → Sizes → Reading → Bool
hold_words place = either (is_turn_of place) (give_words place)

abbrev pub find_words : Sizes → Reading → Bool
find_words = either is_some_refs (either is_free_turn (is_some_phase phase_free))
