use Rattle.std.proofs.Common.{◌≡◌, ℕ, ap, subst, ◌∙◌, refl}
use Rattle.history_book.specs.declared.sizes.Sizes.{Sizes}
use Rattle.track_rule.specs.BucketSteps.{LoadsTuple}
use Rattle.track_rule.specs.Layout.{first_word, second_word}
use Rattle.track_rule.specs.Sights.{sizes_of}
use Rattle.bucket_table.proofs.Looking.{compares_first, compares_second}
use Rattle.bucket_table.proofs.lookup.is_here.Goals as goal

pub returns-then-tuple_load-goal : goal.returns-then-tuple_load-goal
returns-then-tuple_load-goal c =
    let word : c.first_word.result ≡ first_word (sizes_of c.args.pass.now) c.args.link =
    c.first_word.ensures.word ∙ ap (λ (z : Sizes). first_word z c.args.link) c.requires.sizes in
    compares_first c.args.goal.now c.args.link c.tuple_load.result c.args.pass.now c.tuple_load.new.self c.requires.some
    (subst (λ (k : ℕ). LoadsTuple k c.args.pass.now.view c.tuple_load.result c.tuple_load.new.self.view) word c.tuple_load.ensures.loads)
    c.tuple_load.ensures.kept c.if-tuple_load-goal.true

pub returns : goal.returns
returns c =
    let word : c.first_word.result ≡ first_word (sizes_of c.args.pass.now) c.args.link =
    c.first_word.ensures.word ∙ ap (λ (z : Sizes). first_word z c.args.link) c.requires.sizes in
    let word' : c.second_word.result ≡ second_word (sizes_of c.args.pass.now) c.args.link =
    c.second_word.ensures.word ∙ ap (λ (z : Sizes). second_word z c.args.link) c.requires.sizes in
    compares_second c.args.goal.now c.args.link c.tuple_load.result c.tuple_load-2.result _ c.args.pass.now c.tuple_load.new.self c.tuple_load-2.new.self c.requires.some
    (subst (λ (k : ℕ). LoadsTuple k c.args.pass.now.view c.tuple_load.result c.tuple_load.new.self.view) word c.tuple_load.ensures.loads)
    c.tuple_load.ensures.kept c.if-tuple_load-goal.false
    (subst (λ (k : ℕ). LoadsTuple k c.tuple_load.new.self.view c.tuple_load-2.result c.tuple_load-2.new.self.view) word' c.tuple_load-2.ensures.loads)
    c.tuple_load-2.ensures.kept refl
