use Rattle.std.proofs.Common.{◌≡◌, ℕ, ◌<◌, length, get_or}
use Rattle.teg_net.specs.declared.answers.PartAnswer.TheVariants.{NoCircuit}
use Rattle.teg_net.specs.PartAnswers.{ArePartAnswers}
use Rattle.teg_net.specs.Certificates.{IsPartCertificate}
use Rattle.std.specs.Prelude.{All}
use Rattle.policy_rounds.specs.RunAnswers.{KeepsLimits}
use Rattle.policy_rounds.specs.LastRounds.{AreRunsFrom, rounds_of_runs}
use Rattle.teg_cycle.proofs.cycle_time.cycle_with_runs.Given as goal

abbrev pub invariant-loop-part : goal.invariant-loop-part
invariant-loop-part l = record {
  count : length l.answers.items ≡ l.part;
  are : ArePartAnswers l.net l.parts.part_of l.answers.items;
  limits : All KeepsLimits l.answers.items;
  certificates : (k : ℕ) → k < length l.answers.items → IsPartCertificate l.net l.parts.part_of k (get_or l.answers.items k NoCircuit);
  runs : AreRunsFrom l.net l.parts.part_of 0 l.answers.items (rounds_of_runs l.runs.items);
}
