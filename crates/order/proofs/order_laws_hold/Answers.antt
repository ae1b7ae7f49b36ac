use Rattle.order.proofs.Laws.{before_is_an_order, new_item_parts_nothing}
use Rattle.order.proofs.order_laws_hold.Goals as goal

pub returns : goal.returns
returns c = record { before = before_is_an_order; others = new_item_parts_nothing }
