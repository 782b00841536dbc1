use Rattle.expect_table.proofs.Adding.{order_added}
use Rattle.expect_table.proofs.laws.adding_keeps_order.Goals as goal

pub returns : goal.returns
returns c = order_added
