use Rattle.pace_check.proofs.PathPotentials.{IsLowering}
use Rattle.pace_check.proofs.potentials.lower_all.Given as goal

abbrev pub invariant-loop-number : goal.invariant-loop-number
invariant-loop-number l = IsLowering l.asked.net.now l.asked.target l.asked.place l.asked.extra l.most l.initial.potentials l.number l.potentials
