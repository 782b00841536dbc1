use Rattle.expect_table.proofs.Adding.{order_filtered}
use Rattle.expect_table.proofs.laws.removing_keeps_order.Goals as goal

pub returns : goal.returns
returns c = order_filtered
