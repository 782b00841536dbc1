use Rattle.shared_desk.specs.Sights.{sight_of}
use Rattle.std.proofs.Common.{refl, rules}
use Rattle.track_rule.specs.ChangesOnly.{no_word}
use Rattle.track_rule.specs.ChangeLaws.{frees_joined, unchanged}
use Rattle.shared_desk.specs.Changed.{find_words}
use Rattle.shared_desk.proofs.Wording.{find_none}
use Rattle.shared_desk.proofs.clerk.Clerk.look_on.Goals as goal

pub looks-init : goal.looks-init
looks-init g c = record {
  next = tt;
  finite = tt;
  saw = search rules;
  same = search rules;
  own = find_none c.args.self.now.pass.view c.args.self.now.pass.view (unchanged no_word c.args.self.now.pass.view c.args.self.now.pass.view refl);
}

pub looks-preserved : goal.looks-preserved
looks-preserved g c = record {
  next = tt;
  finite = tt;
  saw = c.seeing_adds_up.ensures.twice (sight_of c.args.self.now) (sight_of c.looks.self) (sight_of c.look.new.self) c.looks.invariant.saw c.in_default.ensures.says.0;
  same = search rules;
  own = frees_joined find_words c.args.self.now.pass.view c.looks.self.pass.view c.look.new.self.pass.view c.looks.invariant.own c.look.ensures.own;
}

pub returns-in-Some-look-clause-own : goal.returns-in-Some-look-clause-own
returns-in-Some-look-clause-own g c =
    frees_joined find_words c.args.self.now.pass.view c.looks.self.pass.view c.look.new.self.pass.view c.looks.invariant.own c.look.ensures.own
