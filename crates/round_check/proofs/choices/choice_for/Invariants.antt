use Rattle.std.proofs.Common.{ℕ, ◌<◌, ◌≢◌, get_or}
use Rattle.teg_net.specs.declared.rounds.Choice.{Choice}
use Rattle.round_check.proofs.choices.choice_for.Given as goal

abbrev pub invariant-loop-choice : goal.invariant-loop-choice
invariant-loop-choice l = (k : ℕ) (d : Choice) → k < l.choice-index → (get_or l.choices k d).transition.index ≢ l.transition
