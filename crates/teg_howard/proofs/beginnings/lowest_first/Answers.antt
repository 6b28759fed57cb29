use Rattle.std.proofs.lemmas.Result.{IfOk-weaker}
use Rattle.teg_howard.proofs.Runs.{lowest_begins}
use Rattle.teg_howard.proofs.beginnings.lowest_first.Goals as goal

pub returns : goal.returns
returns c = IfOk-weaker c.lowest_places.result _ _ (λ policy low. lowest_begins c.args.net.now c.args.parts.now c.args.part policy.items c.requires low) c.lowest_places.ensures
