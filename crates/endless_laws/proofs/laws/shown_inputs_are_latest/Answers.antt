use Rattle.endless_laws.proofs.WalksToDues.{shown_are_latest}
use Rattle.endless_laws.proofs.laws.shown_inputs_are_latest.Goals as goal

pub returns : goal.returns
returns c = shown_are_latest
