use Rattle.pace_laws.proofs.Tight.{best_are_tight, tell_the_ratio, are_one, are_paced}
use Rattle.pace_laws.proofs.laws.tight_potentials_tell_the_ratio.Goals as goal

pub returns : goal.returns
returns c = record { best = best_are_tight; tell = tell_the_ratio; one = are_one; paced = are_paced }
