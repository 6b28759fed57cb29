use Rattle.net_matrices.proofs.SettledRows.{times_never_fall}
use Rattle.net_matrices.proofs.settled.series_of_transfer.Goals as goal

pub series_of_row-requires-clause-rising : goal.series_of_row-requires-clause-rising
series_of_row-requires-clause-rising c = times_never_fall c.args._net.now c.args._input.index c.args.form.now c.requires.form
