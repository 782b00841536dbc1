use Rattle.std.proofs.Common.{refl, ap, ◌∙◌}
use Rattle.history_book.specs.declared.sizes.Sizes.{Sizes}
use Rattle.track_rule.specs.Layout.{gen_word}
use Rattle.bucket_table.proofs.Meeting.{reads_again}
use Rattle.bucket_table.proofs.finding.load_again.Goals as goal

pub returns : goal.returns
returns c = (
  refl,
  reads_again c.args.goal.now c.gen_word.result c.gen_load-now.result c.args.pass.now c.gen_load-now.new.self
      (c.gen_word.ensures ∙ ap (λ (z : Sizes). gen_word z c.args.goal.now.bucket) c.requires.sizes) c.gen_load-now.ensures.loads c.gen_load-now.ensures.kept,
)
