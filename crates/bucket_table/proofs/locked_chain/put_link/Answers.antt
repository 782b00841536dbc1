use Rattle.bucket_table.proofs.Chaining.{put_words}
use Rattle.bucket_table.proofs.Stringing.{put_done, put_may}
use Rattle.bucket_table.proofs.locked_chain.put_link.Goals as goal

pub link_store-requires-2-clause-may : goal.link_store-requires-2-clause-may
link_store-requires-2-clause-may c =
    (put_may c.args.sizes.now c.args.bucket c.args.link c.link_load-first.result c.head_word-head.result c.next_word.result c.args.pass.now c.link_load-first.new.self
    c.link_store.new.self c.requires.sizes c.requires.bucket c.head_word-head.ensures.word c.next_word.ensures.word c.link_load-first.ensures.loads
    c.link_load-first.ensures.kept c.link_store.ensures.strings c.requires.mine c.requires.down c.requires.placed c.requires.owned c.requires.before c.requires.alone).0

pub returns-clause-puts : goal.returns-clause-puts
returns-clause-puts c =
    put_done c.args.sizes.now c.args.bucket c.args.link c.link_load-first.result c.head_word-head.result c.next_word.result c.args.pass.now c.link_load-first.new.self
    c.link_store.new.self c.link_store-2.new.self c.head_word-head.ensures.link c.next_word.ensures.link c.requires.sizes c.requires.bucket c.head_word-head.ensures.word c.next_word.ensures.word c.link_load-first.ensures.loads
    c.link_load-first.ensures.kept c.link_store.ensures.strings c.link_store.ensures.kept c.requires.mine c.requires.down c.requires.placed c.requires.owned c.requires.before c.requires.alone
    c.link_store-2.ensures.strings c.link_store-2.ensures.kept

pub returns-clause-words : goal.returns-clause-words
returns-clause-words c =
    put_words c.args.sizes.now c.args.bucket c.args.link c.link_load-first.result c.head_word-head.result c.next_word.result
    c.args.pass.now.view c.link_load-first.new.self.view c.link_store.new.self.view c.link_store-2.new.self.view
    c.requires.sizes c.requires.bucket c.head_word-head.ensures.word c.next_word.ensures.word c.link_load-first.ensures.loads c.link_store.ensures.strings
    c.link_store-2.ensures.strings
