use Rattle.std.proofs.Common.{◌<◌, arith, rules, below_more}
use Rattle.dioid_spectra.specs.Eigenvectors.{IsRowOf}
use Rattle.dioid_spectra.proofs.eigenvectors.is_eigen.Goals as goal

pub loop-row-preserved : goal.loop-row-preserved
loop-row-preserved c = below_more (λ i. IsRowOf c.args.a.now c.args.value c.args.vector.now i) _ c.loop-row.invariant (search rules)

pub returns-then-not-is_row-clause-no : goal.returns-then-not-is_row-clause-no
returns-then-not-is_row-clause-no c = λ f fits is.
    let within : c.loop-row.row < c.args.a.now.rows = omega (arith, c.loop-row-test.true, c.rows-row-end.ensures.value) in
    c.if-not-is_row.ensures.no f (fits c.loop-row.row within) (is.each c.loop-row.row within)
