use Rattle.std.proofs.Common.{◌≡◌, take, Some}
use Rattle.teg_calc.specs.ParseAnswers.{IsShallow}
use Rattle.teg_calc.specs.Readers.{StandsWell, stand_of, start, state_of}
use Rattle.teg_calc.proofs.parsing.parse.Given as goal
use Rattle.teg_calc.proofs.TextRuns.{run}

abbrev pub invariant-loop-at : goal.invariant-loop-at
invariant-loop-at l = record {
  read : run start (take l.at l.text) ≡ Some (state_of l.reader);
  well : StandsWell (stand_of l.reader.place);
  shallow : IsShallow l.text l.at;
}
