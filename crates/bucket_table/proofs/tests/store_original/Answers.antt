use Rattle.std.proofs.Common.{ℕ, List, ap, sym, ◌∙◌}
use Rattle.std.specs.Prelude.{get_or}
use Rattle.history_book.specs.declared.sizes.Sizes.{Sizes}
use Rattle.track_rule.specs.Layout.{first_word, second_word}
use Rattle.track_rule.specs.declared.view.Pair.{Pair}
use Rattle.bucket_table.specs.LockedChain.{original_link}
use Rattle.bucket_table.proofs.Placing.{first_stored}
use Rattle.bucket_table.proofs.tests.store_original.Goals as goal

pub returns-clause-tuple : goal.returns-clause-tuple
returns-clause-tuple c =
    let pair : List ℕ → Pair = λ xs. record { first = get_or xs 0 0; second = get_or xs 1 0 } in
    first_stored c.args.place c.args.t.now _ _ c.first_word.result c.second_word.result c.args.pass.now c.tuple_store.new.self c.tuple_store-2.new.self
    (sym (ap pair c.words.ensures))
    (c.first_word.ensures.word ∙ ap (λ (z : Sizes). first_word z (original_link c.args.place)) c.sizes-sizes.ensures.sizes)
    (c.second_word.ensures.word ∙ ap (λ (z : Sizes). second_word z (original_link c.args.place)) c.sizes-sizes.ensures.sizes)
    c.requires.links c.tuple_store.ensures c.tuple_store-2.ensures
