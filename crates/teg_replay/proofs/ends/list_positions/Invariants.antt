use Rattle.teg_replay.proofs.InputLists.{PositionsUpTo}
use Rattle.teg_replay.proofs.ends.list_positions.Given as goal

abbrev pub invariant-loop-position : goal.invariant-loop-position
invariant-loop-position l = PositionsUpTo l.net l.positions.items l.position
