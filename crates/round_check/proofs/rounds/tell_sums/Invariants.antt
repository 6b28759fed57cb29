use Rattle.std.proofs.Common.{ℕ, ◌<◌, ◌≡◌, get_or}
use Rattle.teg_net.specs.declared.rounds.Choice.{Choice}
use Rattle.round_check.specs.Checks.{sum_told}
use Rattle.round_check.proofs.rounds.tell_sums.Given as goal

abbrev pub invariant-loop-choice : goal.invariant-loop-choice
invariant-loop-choice l = (k : ℕ) (d : Choice) → k < l.choice-index → (get_or l.choices k d).value ≡ sum_told l.net l.ratio l.choices l.root (get_or l.choices k d)
