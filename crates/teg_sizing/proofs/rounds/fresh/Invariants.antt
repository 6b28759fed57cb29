use Rattle.teg_sizing.proofs.Offers.{FreshUpTo}
use Rattle.teg_sizing.proofs.rounds.fresh.Given as goal

abbrev pub invariant-loop-cell : goal.invariant-loop-cell
invariant-loop-cell l = FreshUpTo l.before l.cells.items l.cell-index
