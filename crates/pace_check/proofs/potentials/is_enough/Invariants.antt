use Rattle.pace_check.specs.PathPotentials.{ArePathPotentials}
use Rattle.pace_check.proofs.potentials.is_enough.Given as goal

abbrev pub invariant-loop-most : goal.invariant-loop-most
invariant-loop-most l = ArePathPotentials l.asked.net.now l.asked.target l.asked.place l.asked.extra l.most l.potentials.items
