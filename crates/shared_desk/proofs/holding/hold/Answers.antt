use Rattle.std.proofs.Common.{refl}
use Rattle.track_rule.specs.ChangeLaws.{frees_joined, unchanged}
use Rattle.track_rule.specs.ChangesOnly.{no_word}
use Rattle.shared_desk.specs.Changed.{hold_words}
use Rattle.shared_desk.proofs.Wording.{hold_none}
use Rattle.shared_desk.proofs.HoldingFrames.{looks_again, looks_none}
use Rattle.shared_desk.proofs.holding.hold.Goals as goal

pub tries-init : goal.tries-init
tries-init g c = record { next = tt; finite = tt; looks = looks_none c.args.pass.now; words = hold_none c.args.place c.args.pass.now.view c.args.pass.now.view (unchanged no_word c.args.pass.now.view c.args.pass.now.view refl) }

pub tries-preserved : goal.tries-preserved
tries-preserved g c = record {
  next = tt;
  finite = tt;
  looks = looks_again c.args.pass.now c.tries.pass c.try_once.new.pass c.tries.invariant.looks c.in_default.ensures.tries;
  words = frees_joined (hold_words c.args.place) c.args.pass.now.view c.tries.pass.view c.try_once.new.pass.view c.tries.invariant.words c.try_once.ensures.words;
}

pub returns-in-Some-try_once-clause-words : goal.returns-in-Some-try_once-clause-words
returns-in-Some-try_once-clause-words g c =
    frees_joined (hold_words c.args.place) c.args.pass.now.view c.tries.pass.view c.try_once.new.pass.view c.tries.invariant.words c.try_once.ensures.words
