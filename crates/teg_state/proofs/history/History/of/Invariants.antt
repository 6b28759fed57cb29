use Rattle.std.proofs.Common.{◌≡◌, take, length}
use Rattle.teg_state.proofs.history.History.of.Given as goal

abbrev pub invariant-loop-fired : goal.invariant-loop-fired
invariant-loop-fired l = l.history ≡ record { width = length l.net.transitions; run = take l.fired-index l.run }
