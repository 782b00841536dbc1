use Rattle.history_book.proofs.Again.{found_protocol}
use Rattle.history_book.proofs.laws.found_keep_their_protocol.Goals as goal

pub returns : goal.returns
returns c = λ sizes log p t found segment legal live.
    found_protocol c.accepted_go_on.ensures c.same_part_is_equality.ensures sizes log p t found segment legal live
