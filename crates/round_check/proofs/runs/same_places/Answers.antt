use Rattle.std.proofs.Common.{◌≡◌, rules}
use Rattle.std.specs.Bool.{Decides}
use Rattle.std.proofs.lemmas.Slice.Eq.{slice_eq-Decides}
use Rattle.teg_net.specs.declared.entries.PlaceId.{PlaceId}
use Rattle.teg_net.specs.contracts.entries.PlaceIdPartialEq.TheImpl.{eq-value as place_eq}
use Rattle.round_check.proofs.runs.same_places.Goals as goal

place_Decides : (a b : PlaceId) → Decides (place_eq.it a b) (a ≡ b)
place_Decides a b = search rules

pub returns : goal.returns
returns c = slice_eq-Decides place_Decides c.args.first.now c.args.second.now c.eq.result c.eq.ensures
