use Rattle.std.proofs.Common.{ℕ, ◌<◌, ◌≡◌, get_or}
use Rattle.policy_rounds.specs.RunAnswers.{potential_of}
use Rattle.teg_certificates.proofs.Deciding.{none_told}
use Rattle.round_check.proofs.Choosing.{none_chosen}
use Rattle.round_check.proofs.others.are_potentials_of.Given as goal

abbrev pub invariant-loop-index : goal.invariant-loop-index
invariant-loop-index l = (k : ℕ) → k < l.index → get_or l.told k none_told ≡ potential_of (get_or l.choices k none_chosen)
