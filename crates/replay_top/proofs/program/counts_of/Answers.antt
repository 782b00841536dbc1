use Rattle.std.proofs.Common.{◌≡◌, ◌+◌, ◌<◌, ◌≤◌, ℕ, List, ◌++◌, ◌∷◌, [], ◌∙◌, ap, arith, get_or, length, length-append, map, subst, sym, take}
use Rattle.std.proofs.Math.Nat.{min-le_left}
use Rattle.report_text.specs.declared.heard.HeardCount.{HeardCount}
use Rattle.std.proofs.lemmas.List.{length-map}
use Rattle.report_text.specs.Heard.{heard_counts}
use Rattle.replay_top.specs.Internal.Ending.{counts_of}
use Rattle.replay_top.proofs.Printing.{counts_all, counts_more}
use Rattle.replay_top.proofs.program.counts_of.Goals as goal

pub push-requires : goal.push-requires
push-requires c = omega (arith, c.threads.invariant.long, c.threads.invariant.room, c.threads-test.true)

pub threads-preserved : goal.threads-preserved
threads-preserved c =
    let below : c.threads.thread < length c.in-Some.told.made.items = omega (
      arith,
      c.threads-test.true,
      c.min-threads.ensures,
      ap length c.as_slice-made.ensures,
      min-le_left (length c.as_slice-made.result.now) c.len.result,
    ) in
    let more : heard_counts (take (c.threads.thread + 1) c.in-Some.told.made.items) (take (c.threads.thread + 1) (map length c.in-Some.told.heard))
    ≡ heard_counts (take c.threads.thread c.in-Some.told.made.items) (take c.threads.thread (map length c.in-Some.told.heard))
    ++ record { heard = c.len-in-threads.result; made = get_or c.as_slice-made.result.now c.threads.thread 0 } ∷ [] =
    subst (λ (xs : List ℕ). heard_counts (take (c.threads.thread + 1) c.in-Some.told.made.items) (take (c.threads.thread + 1) (map length c.in-Some.told.heard))
    ≡ heard_counts (take c.threads.thread c.in-Some.told.made.items) (take c.threads.thread (map length c.in-Some.told.heard))
    ++ record { heard = c.len-in-threads.result; made = get_or xs c.threads.thread 0 } ∷ []) (sym c.as_slice-made.ensures)
    (counts_more c.threads.thread c.in-Some.told.made.items c.in-Some.told.heard c.at.result.now.items c.len-in-threads.result below c.at.ensures
    c.len-in-threads.ensures.exact) in
    record {
      counted = c.push.ensures.items
          ∙ ap (λ (cs : List HeardCount).
          cs ++ record { heard = c.len-in-threads.result; made = get_or c.as_slice-made.result.now c.threads.thread 0 } ∷ []) c.threads.invariant.counted
          ∙ sym more;
      long = ap length c.push.ensures.items ∙ length-append _ _ ∙ ap (λ (n : ℕ). n + 1) c.threads.invariant.long;
      room = subst (λ (r : ℕ). c.min-threads.result ≤ r) (sym c.push.ensures.room) c.threads.invariant.room;
    }

pub returns : goal.returns
returns c =
    c.threads.invariant.counted
    ∙ counts_all c.threads.thread c.in-Some.told.made.items (map length c.in-Some.told.heard)
    (omega (arith, c.threads-test.false, c.min-threads.ensures, ap length c.as_slice-made.ensures, c.len.ensures, length-map c.in-Some.told.heard length))
    ∙ ap counts_of (sym c.in-Some.is)
