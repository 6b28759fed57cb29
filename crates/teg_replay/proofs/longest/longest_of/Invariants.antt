use Rattle.teg_replay.proofs.LongestHeld.{LongestUpTo}
use Rattle.teg_replay.proofs.longest.longest_of.Given as goal

abbrev pub invariant-loop-id : goal.invariant-loop-id
invariant-loop-id l = LongestUpTo l.net l.fn._transition.index l.into l.id-index l.places.items
