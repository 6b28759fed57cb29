use Rattle.std.proofs.Common.{ℕ, ◌<◌, ◌≢◌, get_or}
use Rattle.teg_net.specs.declared.entries.Transition.{Transition}
use Rattle.teg_net.proofs.net.Net.find.Given as goal

abbrev pub invariant-loop-index : goal.invariant-loop-index
invariant-loop-index l = (k : ℕ) (d : Transition) → k < l.index → (get_or l.self.transitions k d).name ≢ l.name
