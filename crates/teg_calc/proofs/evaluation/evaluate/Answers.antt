use Rattle.teg_calc.specs.ExpressionTrees.{tree_of_expression}
use Rattle.teg_calc.proofs.Meanings.{if_means}
use Rattle.teg_calc.proofs.evaluation.evaluate.Goals as goal

pub returns-clause-meaning : goal.returns-clause-meaning
returns-clause-meaning c = if_means (tree_of_expression c.args.expr.now) c.evaluate_with.result c.evaluate_with.ensures.answer
