use Rattle.history_book.proofs.Again.{kept_protocol}
use Rattle.history_book.proofs.laws.entries_keep_their_protocol.Goals as goal

pub returns : goal.returns
returns c = λ sizes log p id r segment legal at.
    kept_protocol c.accepted_go_on.ensures c.same_part_is_equality.ensures sizes log p id r segment legal at
