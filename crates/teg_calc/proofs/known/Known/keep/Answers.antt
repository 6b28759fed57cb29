use Rattle.std.proofs.Common.{Bool, true, false, List, [], ◌∷◌, ◌++◌, Ok, sym, subst, is_ok}
use Rattle.std.specs.Prelude.{All, if◌then◌else◌}
use Rattle.std.proofs.lemmas.List.Elements.{All-push}
use Rattle.series_ops.specs.series_laws.SeriesForms.{Form}
use Rattle.teg_calc.specs.declared.known.Worked.{Worked}
use Rattle.teg_calc.specs.ExpressionTrees.{tree_of_expression}
use Rattle.teg_calc.specs.KnownSeries.{IsWorked}
use Rattle.teg_calc.specs.Meaning.{Evaluates}
use Rattle.teg_calc.proofs.known.Known.keep.Goals as goal

-- where one more is pushed or there is no memory for it
perhaps_pushed : (pushed : Bool) (known : List Worked) (w : Worked) → All IsWorked known → IsWorked w → All IsWorked (if pushed then known ++ (w ∷ []) else known)
perhaps_pushed true known w all one = All-push IsWorked known w all one
perhaps_pushed false known w all one = all

pub returns-then-is_ok : goal.returns-then-is_ok
returns-then-is_ok c =
    let own : Evaluates (tree_of_expression c.args.expr.now) (Ok c.in-Ok.series) =
    subst (λ (z : Form). Evaluates (tree_of_expression c.args.expr.now) (Ok z)) (sym c.in-Ok.ensures.value) c.requires.series in
    subst (λ (z : List Worked). All IsWorked z) (sym c.push.ensures.items)
    (perhaps_pushed (is_ok c.push.result) c.args.self.now.list.items _ c.requires.known own)

pub returns-else-is_ok : goal.returns-else-is_ok
returns-else-is_ok c =
    let own : Evaluates (tree_of_expression c.args.expr.now) (Ok c.in-Ok.series) =
    subst (λ (z : Form). Evaluates (tree_of_expression c.args.expr.now) (Ok z)) (sym c.in-Ok.ensures.value) c.requires.series in
    subst (λ (z : List Worked). All IsWorked z) (sym c.push.ensures.items)
    (perhaps_pushed (is_ok c.push.result) c.args.self.now.list.items _ c.requires.known own)
