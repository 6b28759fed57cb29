-- Working definitions of the series of operations that were worked out.
use Rattle.std.specs.Prelude.{All, Ok}
use Rattle.teg_calc.specs.declared.known.Known.{Known}
use Rattle.teg_calc.specs.declared.known.Worked.{Worked}
use Rattle.teg_calc.specs.ExpressionTrees.{tree_of_expression}
use Rattle.teg_calc.specs.Meaning.{Evaluates}

-- the series is what evaluation answers of the expression
abbrev pub IsWorked : Worked → Type 0
IsWorked w = Evaluates (tree_of_expression w.expr.now) (Ok w.series)

-- so of each that is kept
abbrev pub AreKnown : Known → Type 0
AreKnown known = All IsWorked known.list.items
