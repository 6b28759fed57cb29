-- Expressions as trees, whatever boxes the code keeps them in.
use Rattle.std.specs.Prelude.{ℕ, ◌+◌, ◌^◌, ◌<◌, Bool}
use Rattle.teg_calc.specs.declared.expressions.Expr.{Expr}
use Rattle.teg_calc.specs.declared.expressions.Expr.TheVariants.{Mono, Epsilon, Unit as UnitExpr, Never, Plus', Times', Star', Least', Left'}

-- an expression as a tree: a monomial with its shift, whether a minus stands before its date, and the date; or a word;
-- or an operation of trees
pub data Tree : Type 0 where
  mono : ℕ → Bool → ℕ → Tree
  epsilon : Tree
  unit : Tree
  never : Tree
  plus : Tree → Tree → Tree
  times : Tree → Tree → Tree
  star : Tree → Tree
  least : Tree → Tree → Tree
  left : Tree → Tree → Tree

-- the tree of an expression
abbrev pub tree_of_expression : Expr → Tree
tree_of_expression (Mono shift minus date) = mono shift minus date
tree_of_expression Epsilon = epsilon
tree_of_expression UnitExpr = unit
tree_of_expression Never = never
tree_of_expression (Plus' p a q b) = plus (tree_of_expression a) (tree_of_expression b)
tree_of_expression (Times' p a q b) = times (tree_of_expression a) (tree_of_expression b)
tree_of_expression (Star' p a) = star (tree_of_expression a)
tree_of_expression (Least' p a q b) = least (tree_of_expression a) (tree_of_expression b)
tree_of_expression (Left' p a q b) = left (tree_of_expression a) (tree_of_expression b)

-- how many nodes a tree has
abbrev pub node_count : Tree → ℕ
node_count (mono shift minus date) = 1
node_count epsilon = 1
node_count unit = 1
node_count never = 1
node_count (plus a b) = node_count a + node_count b + 1
node_count (times a b) = node_count a + node_count b + 1
node_count (star a) = node_count a + 1
node_count (least a b) = node_count a + node_count b + 1
node_count (left a b) = node_count a + node_count b + 1

-- each shift and each date in the tree is below 10^19
abbrev pub HasShortNumbers : Tree → Type 0
HasShortNumbers (mono shift minus date) = (shift < 10 ^ 19) × (date < 10 ^ 19)
HasShortNumbers epsilon = Unit {0}
HasShortNumbers unit = Unit {0}
HasShortNumbers never = Unit {0}
HasShortNumbers (plus a b) = HasShortNumbers a × HasShortNumbers b
HasShortNumbers (times a b) = HasShortNumbers a × HasShortNumbers b
HasShortNumbers (star a) = HasShortNumbers a
HasShortNumbers (least a b) = HasShortNumbers a × HasShortNumbers b
HasShortNumbers (left a b) = HasShortNumbers a × HasShortNumbers b
