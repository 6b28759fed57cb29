use Rattle.teg_forever.specs.InputAnswers.{AreReleasesBelow}
use Rattle.teg_forever.specs.Divisions.{AreDivisions}
use Rattle.walks_by_ends.specs.EndForms.{AreEndsOf}
use Rattle.teg_forever.proofs.inputs.releases_of.Given as goal

abbrev pub invariant-loop-index : goal.invariant-loop-index
invariant-loop-index l = record {
  below : AreReleasesBelow l.due.net l.due.rows l.index l.releases.items;
  divisions : AreDivisions l.due.rows l.divisions;
  ends : AreEndsOf l.due.net l.ends;
}
