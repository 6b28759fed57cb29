use Rattle.teg_replay.proofs.LongestHeld.{LongestLists}
use Rattle.teg_replay.proofs.longest.longest_held.Given as goal

abbrev pub invariant-loop-index : goal.invariant-loop-index
invariant-loop-index l = LongestLists l.net l.lists.items l.index
