use Rattle.std.proofs.Common.{ap, ◌∙◌}
use Rattle.history_book.specs.declared.sizes.Sizes.{Sizes}
use Rattle.track_rule.specs.Layout.{refs_word}
use Rattle.bucket_table.proofs.Meeting.{met_held, met_moved, met_zero}
use Rattle.bucket_table.proofs.finding.meet.Goals as goal

pub returns-then-seen-eq0 : goal.returns-then-seen-eq0
returns-then-seen-eq0 c =
    met_zero c.args.goal.now c.args.place c.ref_load-seen.result c.args.met c.args.pass.now c.ref_load-seen.new.self c.load_again.new.pass c.load_again.result
    c.ref_load-seen.ensures.loads c.ref_load-seen.ensures.kept c.if-seen-eq0.true c.load_again.ensures

pub returns-in-Ok : goal.returns-in-Ok
returns-in-Ok c =
    met_held c.args.place c.ref_load-seen.result c.args.pass.now c.ref_load-seen.new.self c.ref_up.new.self c.requires.can c.requires.place
    c.ref_load-seen.ensures.loads c.ref_load-seen.ensures.kept c.if-seen-eq0.false c.in-Ok.ensures.ok c.in-Ok.ensures.kept c.args.goal.now c.args.met
    c.test.new.pass c.test.result c.test.ensures

pub returns-in-Err : goal.returns-in-Err
returns-in-Err c =
    met_moved c.args.goal.now c.args.place c.ref_load-seen.result c.in-Err.now c.args.met c.args.pass.now c.ref_load-seen.new.self c.ref_up.new.self
    c.ref_load-seen.ensures.loads c.ref_load-seen.ensures.kept c.if-seen-eq0.false c.in-Err.ensures.err c.in-Err.ensures.kept c.refs_word.result
    (c.refs_word.ensures.word ∙ ap (λ (z : Sizes). refs_word z c.args.place) c.requires.sizes)
