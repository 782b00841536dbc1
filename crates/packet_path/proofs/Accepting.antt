-- A packet that takes the common way, over what the desk knew.
use Rattle.std.proofs.Common.{◌≡◌, ℕ, ◌-◌, ◌≤◌, [], ◌∷◌, ◌++◌, length, ap, subst, ◌∙◌, arith, length-append}
use Rattle.room_list.specs.Roomed.{Roomed}
use Rattle.history_book.specs.declared.verdict.Class.{Class}
use Rattle.history_book.specs.declared.verdict.Verdict.{Verdict}
use Rattle.history_book.specs.Laws.{EventsStay, StatesStay}
use Rattle.history_book.specs.Sight.{Sight}
use Rattle.history_book.specs.SightLaws.{GoingOnAddsUp, SeeingAddsUp}
use Rattle.history_book.specs.WentOn.{Saw}
use Rattle.packet_path.specs.declared.fast.Tried.{Tried}
use Rattle.packet_path.specs.declared.fast.Tried.TheVariants.{Done, Killed, Left}
use Rattle.packet_path.specs.declared.setup.Setup.{Setup}
use Rattle.packet_path.specs.Internal.Attempt.{KilledOne}
use Rattle.packet_path.specs.Internal.Fast.{Answered, Appended, TriedSays, TryAt}
use Rattle.packet_path.specs.Packet.{FlowPacket}
use Rattle.packet_path.specs.Taken.{taken_by}
use Rattle.packet_path.proofs.Attempts.{answers_after, answers_before, answers_from, killed_after, killed_before, starts_longer}
use Rattle.packet_path.proofs.Marks.{happened_lower}

-- a verdict that was appended is so when the desk has seen more
appended_stays : (class : Class) (first base : ℕ) (c d : Sight) (before after : Roomed Verdict) → Saw c d → Appended class first base c.own before after
    → Appended class first base d.own before after
appended_stays class first base c d before after saw appended = record {
  items = subst (λ n. after.items ≡ before.items ++ record { class = class; first = first - base; made = n - first } ∷ [])
      (omega (arith, ap length saw.went.own, length-append c.own [])) appended.items;
  room = appended.room;
}

-- an entry that was killed past a point was so past each earlier one
lower_kill : (a b : Sight) (packet : FlowPacket) (kills lower from : ℕ) → lower ≤ from → KilledOne a b packet kills from → KilledOne a b packet kills lower
lower_kill a b packet kills lower from le one = record {
  few = one.few;
  note = one.note;
  went = one.went;
  high = one.high;
  kill = record {
    happened = happened_lower b.front lower from one.note le one.kill.happened;
    found = one.kill.found;
    live = one.kill.live;
    kill = one.kill.kill;
  };
}

module _ (states : StatesStay) (events : EventsStay) (going : GoingOnAddsUp) (twice : SeeingAddsUp) where
  -- the desk had seen more before, and sees more behind it
  answered_along : (setup : Setup) (a b c d : Sight) (packet : FlowPacket) (t : TryAt) (before after : Roomed Verdict) → Saw a b
      → Answered setup packet t b c before after → Saw c d → Answered setup packet t a d before after
  answered_along setup a b c d packet t before after saw answered more = record {
    class = answered.class;
    answers = answers_before states events going twice setup a c d packet t.kills (length a.front) answered.class
        (answers_from states events going twice setup a c packet t.kills (length a.front) (length b.front) answered.class
        (starts_longer b.front a.front saw.went.front)
        (answers_after states events going twice setup a b c packet t.kills (length b.front) answered.class saw answered.answers))
        more;
    taken = more.taken ∙ answered.taken ∙ ap (taken_by answered.class) saw.taken;
    appended = appended_stays answered.class t.counting.first t.counting.base c d before after more answered.appended;
  }

  pub tried_along : (setup : Setup) (a b c d : Sight) (packet : FlowPacket) (t : TryAt) (before after : Roomed Verdict) (tried : Tried) → Saw a b
      → TriedSays setup packet t b c before after tried → Saw c d → TriedSays setup packet t a d before after tried
  tried_along setup a b c d packet t before after Done saw answered more =
      answered_along setup a b c d packet t before after saw answered more
  tried_along setup a b c d packet t before after Killed saw ended more = record {
    killed = killed_before states events going twice a c d packet t.kills (length a.front)
        (lower_kill a c packet t.kills (length a.front) (length b.front) (starts_longer b.front a.front saw.went.front)
        (killed_after states events going twice a b c packet t.kills (length b.front) saw ended.killed))
        more;
    taken = more.taken ∙ ended.taken ∙ saw.taken;
    kept = ended.kept;
  }
  tried_along setup a b c d packet t before after Left saw left more = record {
    saw = twice a c d (twice a b c saw left.saw) more;
    kept = left.kept;
  }
