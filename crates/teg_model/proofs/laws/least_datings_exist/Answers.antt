use Rattle.teg_model.specs.Datings.{system_of}
use Rattle.teg_model.proofs.LeastOver.{least_over}
use Rattle.teg_model.proofs.LiveRanks.{live_is_ranked}
use Rattle.teg_model.proofs.OfNet.{least_of, least_of_system}
use Rattle.teg_model.proofs.laws.least_datings_exist.Goals as goal

pub returns : goal.returns
returns c = λ net ends live u.
    let ranked = live_is_ranked net ends live in
    let least = least_of net u ranked.0 ranked.1 ranked.2 in
    (least_over (system_of net u) ranked.0 ranked.1, least_of_system net u (least_over (system_of net u) ranked.0 ranked.1) least, least)
