use Rattle.std.proofs.Common.{rules, arith}
use Rattle.std.proofs.lemmas.Int.{to_z-of_z}
use Rattle.std.proofs.lemmas.Grind.{common_steps}
use Rattle.dioid_spectra.proofs.RowChecks.{row_of}
use Rattle.dioid_spectra.proofs.eigenvectors.is_row.Goals as goal

pub returns-then-is_row_within-clause-yes : goal.returns-then-is_row_within-clause-yes
returns-then-is_row_within-clause-yes c = λ t.
    row_of c.args.a.now c.args.value c.args.vector.now c.args.row _ c.in-Some.wanted
    (grind (arith, to_z-of_z, c.in-Some.ensures))
    (grind (arith, common_steps, to_z-of_z, c.in-Some.ensures))
    (c.if-is_row_within.ensures.yes (search rules))
    (c.is_row_just.ensures.yes t)
