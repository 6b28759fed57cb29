use Rattle.std.proofs.Common.{ap, ◌∙◌, ◌++◌, ◌∷◌, []}
use Rattle.teg_lines.specs.CircuitLines.{token_free_in, token_free_line}
use Rattle.teg_lines.specs.CycleLines.{cycle_in, cycle_lines}
use Rattle.teg_lines.specs.RoundLines.{rounds_in_lines, runs_lines, told_runs}
use Rattle.teg_lines.proofs.CircuitsRead.{circuit_back}
use Rattle.teg_lines.proofs.CyclesRead.{times_read}
use Rattle.teg_text.proofs.Reading.{written_read}
use Rattle.teg_text.proofs.Telling.{text_back}
use Rattle.teg_lines.proofs.laws.lines_tell_back.Goals as goal

pub returns-clause-times : goal.returns-clause-times
returns-clause-times c net answer rounds rules h told kept =
    let read = times_read net answer rounds rules h told kept in
    let lines = cycle_lines net answer ++ runs_lines net (told_runs answer.parts rounds) in
    let same = written_read lines read.words in
    (ap (cycle_in net) same ∙ read.cycle, ap (rounds_in_lines net) same ∙ read.runs)

pub returns-clause-circuits : goal.returns-clause-circuits
returns-clause-circuits c net circuit rules h =
    text_back (token_free_in net) (token_free_line net circuit ∷ []) circuit (circuit_back net circuit rules h)
