-- Nodes of an expression.
use Rattle.std.proofs.Common.{◌<◌, arith}
use Rattle.teg_calc.specs.ExpressionTrees.{Tree, epsilon, least, left, mono, never, node_count, plus, star, times, unit}

-- there is one at least
pub some_node : (t : Tree) → 0 < node_count t
some_node (mono shift minus date) = omega arith
some_node epsilon = omega arith
some_node unit = omega arith
some_node never = omega arith
some_node (plus a b) = omega arith
some_node (times a b) = omega arith
some_node (star a) = omega arith
some_node (least a b) = omega arith
some_node (left a b) = omega arith
