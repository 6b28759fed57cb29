use Rattle.teg_forever.specs.Divisions.{AreDivisions, IsMeetSoFar}
use Rattle.teg_forever.proofs.residuals.meet_of.Given as goal

abbrev pub invariant-loop-place : goal.invariant-loop-place
invariant-loop-place l = record {
  divisions : AreDivisions l.asked.rows l.divisions;
  meet : IsMeetSoFar l.asked.net l.asked.rows l.asked.input.index l.place l.meet;
}
