use Rattle.teg_calc.specs.ExpressionTrees.{tree_of_expression}
use Rattle.call_conditions.proofs.NodeCounts.{some_node}
use Rattle.call_conditions.proofs.expressions.+room_after.Goals as goal

pub returns-then-room-eq0 : goal.returns-then-room-eq0
returns-then-room-eq0 t c = rw c.if-room-eq0.true (some_node (tree_of_expression c.args.expr.now))
