use Rattle.teg_settle.proofs.Leasts.{keeps_bounds}
use Rattle.teg_settle.proofs.search.grow.Goals as goal

pub with_next_in_cells-requires-clause-bounded : goal.with_next_in_cells-requires-clause-bounded
with_next_in_cells-requires-clause-bounded c = keeps_bounds c.args.asked.now.net.now c.args.asked.now.releases.now c.rules.ensures
