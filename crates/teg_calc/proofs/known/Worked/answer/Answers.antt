use Rattle.std.proofs.Common.{sym, subst, rules, Ok}
use Rattle.series_ops.specs.series_laws.SeriesForms.{Form}
use Rattle.teg_calc.specs.ExpressionTrees.{Tree, tree_of_expression}
use Rattle.teg_calc.specs.Meaning.{Evaluates}
use Rattle.teg_calc.proofs.known.Worked.answer.Goals as goal

pub returns-in-Ok-clause-found : goal.returns-in-Ok-clause-found
returns-in-Ok-clause-found c =
    let w = c.args.self.now in
    subst (λ (z : Form). Evaluates (tree_of_expression c.args.expr.now) (Ok z)) (sym c.in-Ok.ensures.value)
    (subst (λ (t : Tree). Evaluates t (Ok w.series)) (c.are_same.ensures (search rules)) c.requires)
