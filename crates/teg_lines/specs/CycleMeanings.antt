-- What answers on cycle times and rounds of the code tell, as values.
use Rattle.std.specs.Prelude.{List, map}
use Rattle.std.specs.Global.{Vec}
use Rattle.teg_net.specs.declared.answers.CycleAnswer.{CycleAnswer}
use Rattle.teg_net.specs.declared.answers.PartAnswer.{PartAnswer}
use Rattle.teg_net.specs.declared.answers.PartAnswer.TheVariants.{NoCircuit, Best}
use Rattle.teg_net.specs.declared.rounds.Round.{Round}
use Rattle.teg_lines.specs.CycleLines.{ToldPart, NoCircuitIn, BestOf, CycleLists}
use Rattle.teg_lines.specs.RoundLines.{RoundLists}

-- what is told of a part
abbrev pub part_lists : PartAnswer → ToldPart
part_lists NoCircuit = NoCircuitIn
part_lists (Best ratio circuit potentials) = BestOf ratio circuit.places.items potentials.items

-- cycle times
abbrev pub cycle_lists : CycleAnswer → CycleLists
cycle_lists answer = record { part_of = answer.part_of.items; parts = map part_lists answer.parts.items; best = answer.best }

-- a round
abbrev pub round_lists : Round → RoundLists
round_lists r = record { ratio = r.ratio; circuit = r.circuit.places.items; choices = r.choices.items }

-- rounds, a list for each part with a circuit
abbrev pub runs_lists : List (Vec Round) → List (List RoundLists)
runs_lists runs = map (λ run. map round_lists run.items) runs
