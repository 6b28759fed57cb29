use Rattle.std.proofs.Common.{◌≤◌, length}
use Rattle.teg_critical.proofs.EachPlace.{ToldOrLeft}
use Rattle.teg_critical.proofs.each_place.tell_all.Given as goal

abbrev pub invariant-tell : goal.invariant-tell
invariant-tell l = ToldOrLeft l.known.net.now l.best l.slacks l.rest × (length l.rest ≤ length l.initial.rest)

abbrev pub decreases-tell : goal.decreases-tell
decreases-tell l = length l.rest
