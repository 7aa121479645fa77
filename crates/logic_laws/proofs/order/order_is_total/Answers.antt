use Rattle.logic_laws.proofs.OrderKeys.{order_is_total}
use Rattle.logic_laws.proofs.order.order_is_total.Goals as goal

pub returns : goal.returns
returns c = order_is_total
