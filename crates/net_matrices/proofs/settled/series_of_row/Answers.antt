use Rattle.std.specs.Int.{w128}
use Rattle.std.proofs.lemmas.Int.{to_z-of_z}
use Rattle.net_matrices.proofs.SettledRows.{row_answers, row_rises}
use Rattle.net_matrices.proofs.settled.series_of_row.Goals as goal

pub from_list-requires-clause-rising : goal.from_list-requires-clause-rising
from_list-requires-clause-rising c =
    let same = to_z-of_z w128 c.step.result (record { sfits = c.step.type_inv }) in
    rw (same, c.row-row.ensures.value, c.period-period.ensures.value, c.step.ensures.value)
    (row_rises c.args.form.now c.period-period.ensures.kept.sizes c.args.transition.index c.requires.transition c.requires.rising)

pub returns : goal.returns
returns c =
    let same = to_z-of_z w128 c.step.result (record { sfits = c.step.type_inv }) in
    row_answers c.args.form.now c.period-period.ensures.kept.sizes c.args.transition.index c.requires.transition c.from_list.result
    (rw (same, c.row-row.ensures.value, c.period-period.ensures.value, c.step.ensures.value) at c.from_list.ensures)
