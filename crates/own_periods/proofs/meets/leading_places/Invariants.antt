use Rattle.std.specs.Prelude.{All}
use Rattle.own_periods.specs.OwnRows.{LeadsIn}
use Rattle.own_periods.proofs.meets.leading_places.Given as goal

abbrev pub invariant-loop-index : goal.invariant-loop-index
invariant-loop-index l = All (LeadsIn l.of.net.now l.of.owns.now l.transition.index) l.found.items
