use Rattle.std.proofs.Common.{◌+◌}
use Rattle.std.proofs.Common.{refl}
use Rattle.track_rule.specs.ChangeLaws.{by_view, joined}
use Rattle.track_rule.specs.ChangesOnly.{is_refs_of, no_word}
use Rattle.track_rule.specs.Readings.{found, stored}
use Rattle.track_rule.specs.Layout.{refs_word}
use Rattle.track_rule.specs.Sights.{sizes_of}
use Rattle.shared_desk.proofs.Wording.{none_then, refs_in}
use Rattle.shared_desk.proofs.Committing.{loads_refs, missed_refs}
use Rattle.shared_desk.proofs.commit.add_reference.Goals as goal

pub tries-init : goal.tries-init
tries-init g c =
    let can = loads_refs c.args.place c.ref_load-seen.result c.args.pass.now c.ref_load-seen.new.self c.requires.second c.ref_load-seen.ensures.kept c.ref_load-seen.ensures.loads in
    record {
      next = tt;
      finite = tt;
      same = can.same;
      words = by_view no_word (found (refs_word (sizes_of c.args.pass.now) c.args.place) c.ref_load-seen.result) _ _ _ c.ref_load-seen.ensures.loads.view refl refl refl;
      some = can.some;
      bound = can.bound;
    }

pub tries-preserved : goal.tries-preserved
tries-preserved g c =
    let can = missed_refs c.args.place c.tries.seen c.in-Err.now c.args.pass.now c.tries.pass c.ref_up.new.self c.requires.second c.tries.invariant.same c.in-Err.ensures.kept c.in-Err.ensures.err in
    record {
      next = tt;
      finite = tt;
      same = can.same;
      words = joined no_word c.args.pass.now.view c.tries.pass.view c.ref_up.new.self.view c.tries.invariant.words
          (by_view no_word (found (refs_word (sizes_of c.tries.pass) c.args.place) c.in-Err.now) _ _ _ c.in-Err.ensures.err.view refl refl refl);
      some = can.some;
      bound = can.bound;
    }

pub returns-in-Ok-clause-words : goal.returns-in-Ok-clause-words
returns-in-Ok-clause-words g c =
    none_then (is_refs_of c.args.place) c.args.pass.now.view c.tries.pass.view c.ref_up.new.self.view c.tries.invariant.words
    (by_view (is_refs_of c.args.place) (stored (refs_word (sizes_of c.tries.pass) c.args.place) (c.tries.seen + 1)) _ _ _ c.in-Ok.ensures.ok.view refl refl
    (refs_in (sizes_of c.tries.pass) c.args.place (c.tries.seen + 1)))
