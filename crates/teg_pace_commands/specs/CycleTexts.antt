-- The texts of cycle times, each that of an answer.
use Rattle.std.specs.Prelude.{ℕ, List, ◌∷◌, ◌++◌, Option, Some, None, []}
use Rattle.teg_net.specs.declared.answers.CycleAnswer.{CycleAnswer}
use Rattle.teg_net.specs.Nets.{NetLists}
use Rattle.teg_report.specs.teg_lines.CycleLines.{CycleLists, cycle_lines}
use Rattle.teg_report.specs.ShortAnswers.{no_circuit_line}
use Rattle.teg_report.specs.teg_lines.CycleMeanings.{cycle_lists}
use Rattle.teg_report.specs.teg_lines.RoundLines.{RoundLists, runs_lines, told_runs}
use Rattle.teg_report.specs.teg_text.Lines.{written}

-- that a net has no circuit
abbrev pub no_circuit_text : List ℕ
no_circuit_text = written (no_circuit_line ∷ [])

-- what is told of the circuits of a net: that there are none where no part is the best, and otherwise the cycle times, with the rounds
-- where they are given
abbrev pub times_lines : NetLists → Option ℕ → CycleLists → Option (List (List RoundLists)) → List (List (List ℕ))
times_lines net None times rounds = no_circuit_line ∷ []
times_lines net (Some best) times rounds = cycle_lines net times ++ runs_lines net (told_runs times.parts rounds)

-- the cycle times of a net, with the rounds where they are given
abbrev pub cycle_text : NetLists → CycleAnswer → Option (List (List RoundLists)) → List ℕ
cycle_text net answer rounds = written (times_lines net answer.best (cycle_lists answer) rounds)
