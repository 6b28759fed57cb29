use Rattle.std.proofs.Common.{ℕ, ◌<◌, get_or}
use Rattle.teg_net.specs.declared.answers.PartAnswer.TheVariants.{NoCircuit}
use Rattle.teg_net.specs.PartAnswers.{IsPartAnswer}
use Rattle.pace_check.proofs.pace.are_parts_told.Given as goal

abbrev pub invariant-loop-number : goal.invariant-loop-number
invariant-loop-number l = (k : ℕ) → k < l.number → IsPartAnswer l.net l.answer.part_of.items k (get_or l.answer.parts.items k NoCircuit)
