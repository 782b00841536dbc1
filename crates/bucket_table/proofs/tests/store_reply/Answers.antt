use Rattle.std.proofs.Common.{ℕ, List, ap, inr, sym, ◌∙◌}
use Rattle.std.specs.Prelude.{get_or}
use Rattle.history_book.specs.declared.sizes.Sizes.{Sizes}
use Rattle.track_rule.specs.Layout.{first_word, second_word}
use Rattle.track_rule.specs.Sights.{sizes_of}
use Rattle.track_rule.specs.declared.view.Pair.{Pair}
use Rattle.bucket_table.specs.LockedChain.{reply_link}
use Rattle.bucket_table.proofs.Placing.{links_stored, own_reply, second_stored}
use Rattle.bucket_table.proofs.tests.store_reply.Goals as goal

pub tuple_store-requires-2-clause-own : goal.tuple_store-requires-2-clause-own
tuple_store-requires-2-clause-own c =
    own_reply c.args.place c.tuple_store.new.self
    (links_stored c.args.place c.args.pass.now c.requires.original.has c.first_word.result _ c.tuple_store.new.self c.tuple_store.ensures)
    c.second_word.result
    (inr (c.second_word.ensures.word ∙ ap (λ (z : Sizes). second_word z (reply_link c.args.place)) (c.sizes-sizes.ensures.sizes ∙ sym (ap sizes_of c.tuple_store.ensures))))

pub returns-clause-place : goal.returns-clause-place
returns-clause-place c =
    let pair : List ℕ → Pair = λ xs. record { first = get_or xs 0 0; second = get_or xs 1 0 } in
    second_stored c.args.place c.args.t.now c.args.u.now _ _ c.first_word.result c.second_word.result c.args.pass.now c.tuple_store.new.self c.tuple_store-2.new.self
    (sym (ap pair c.words.ensures)) c.requires.valid c.requires.reply
    (c.first_word.ensures.word ∙ ap (λ (z : Sizes). first_word z (reply_link c.args.place)) c.sizes-sizes.ensures.sizes)
    (c.second_word.ensures.word ∙ ap (λ (z : Sizes). second_word z (reply_link c.args.place)) c.sizes-sizes.ensures.sizes)
    c.requires.original c.tuple_store.ensures c.tuple_store-2.ensures
