use Rattle.teg_form.proofs.StarEntries.{StarsUpTo}
use Rattle.teg_form.proofs.stars.stars_of.Given as goal

abbrev pub invariant-loop-pair : goal.invariant-loop-pair
invariant-loop-pair l = StarsUpTo l.net l.stars.items l.pair
