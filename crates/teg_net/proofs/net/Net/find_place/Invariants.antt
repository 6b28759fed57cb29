use Rattle.std.proofs.Common.{ℕ, ◌<◌, ◌≢◌, get_or}
use Rattle.teg_net.specs.declared.entries.Place.{Place}
use Rattle.teg_net.proofs.net.Net.find_place.Given as goal

abbrev pub invariant-loop-number : goal.invariant-loop-number
invariant-loop-number l = (k : ℕ) (d : Place) → k < l.number → (get_or l.self.places k d).name ≢ l.name
