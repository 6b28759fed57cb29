use Rattle.net_matrices.specs.PlacesBetween.{IsLatestOf}
use Rattle.net_matrices.proofs.places.latest_at.Given as goal

abbrev pub invariant-loop-index : goal.invariant-loop-index
invariant-loop-index l = IsLatestOf l.net l.ids l.shift l.index l.latest
