use Rattle.std.proofs.Common.{refl, sym}
use Rattle.track_rule.specs.ChangeLaws.{by_pass, joined}
use Rattle.track_rule.specs.ChangesOnly.{is_tuple_of}
use Rattle.track_rule.specs.Readings.{stored}
use Rattle.track_rule.specs.Layout.{place_of}
use Rattle.shared_desk.proofs.Wording.{first_in, second_in}
use Rattle.std.proofs.Common.{ℕ, List, get_or, ap, ◌∙◌}
use Rattle.history_book.specs.declared.sizes.Sizes.{Sizes}
use Rattle.track_rule.specs.Layout.{first_word}
use Rattle.track_rule.specs.Sights.{sizes_of}
use Rattle.track_rule.specs.declared.view.Pair.{Pair}
use Rattle.shared_desk.proofs.Hooks.{own_first, own_second, tuple_done}
use Rattle.shared_desk.proofs.tuples.store_tuple.Goals as goal

pub tuple_store-requires-clause-own : goal.tuple_store-requires-clause-own
tuple_store-requires-clause-own c =
    own_first (sizes_of c.args.pass.now) c.args.link c.first_word.result c.args.pass.now.view c.requires.there c.requires.low c.requires.owned
    (c.first_word.ensures.word ∙ ap (λ (z : Sizes). first_word z c.args.link) c.requires.sizes)

pub tuple_store-requires-2-clause-own : goal.tuple_store-requires-2-clause-own
tuple_store-requires-2-clause-own c =
    own_second c.args.sizes.now c.args.link c.first_word.result c.second_word.result _ c.args.pass.now c.tuple_store.new.self c.requires.there c.requires.low c.requires.owned c.requires.sizes
    c.second_word.ensures.word c.tuple_store.ensures

pub returns-clause-stores : goal.returns-clause-stores
returns-clause-stores c =
    let pair : List ℕ → Pair = λ xs. record { first = get_or xs 0 0; second = get_or xs 1 0 } in
    tuple_done c.args.sizes.now c.args.link _ _ c.first_word.result c.second_word.result c.args.t.now c.args.pass.now c.tuple_store.new.self c.tuple_store-2.new.self
    c.requires.sizes c.requires.some c.requires.there c.first_word.ensures.word c.second_word.ensures.word (ap pair c.words.ensures) c.tuple_store.ensures c.tuple_store-2.ensures

pub returns-clause-words : goal.returns-clause-words
returns-clause-words c =
    joined (is_tuple_of (place_of c.args.link)) c.args.pass.now.view c.tuple_store.new.self.view c.tuple_store-2.new.self.view
    (by_pass (is_tuple_of (place_of c.args.link)) (stored c.first_word.result (get_or c.words.result 0 0)) c.args.pass.now c.tuple_store.new.self _ c.tuple_store.ensures refl refl
    (first_in (sizes_of c.args.pass.now) c.args.sizes.now c.args.link c.first_word.result (get_or c.words.result 0 0) c.requires.sizes c.first_word.ensures.word))
    (by_pass (is_tuple_of (place_of c.args.link)) (stored c.second_word.result (get_or c.words.result 1 0)) c.tuple_store.new.self c.tuple_store-2.new.self _ c.tuple_store-2.ensures refl refl
    (second_in (sizes_of c.tuple_store.new.self) c.args.sizes.now c.args.link c.second_word.result (get_or c.words.result 1 0) (c.requires.sizes ∙ sym (ap sizes_of c.tuple_store.ensures)) c.second_word.ensures.word))
