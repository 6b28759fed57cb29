use Rattle.std.proofs.Common.{subst}
use Rattle.teg_model.specs.LiveRanks.{HasEndsInRange}
use Rattle.teg_model.proofs.OfNet.{net_ends}
use Rattle.teg_net.specs.Circuits.{IsLive}
use Rattle.teg_net.specs.GreatestRatios.{IsAnyPlace, IsGreatestRatio}
use Rattle.law_examples.proofs.timetables.times_are_kept_by_ratio.Goals as goal

pub returns : goal.returns
returns c times are =
    let is = c.requires.backed in
    let live = c.ranked_nets_are_live.ensures c.args.backed.now c.args.live.now c.requires.live in
    c.greatest_times_are_places_back.ensures.ratios c.args.net.now c.args.period times c.args.backs.now c.args.ratio are
    (subst HasEndsInRange is (net_ends c.args.backed.now c.rules.ensures)) (subst IsLive is live)
    (subst (λ n. IsGreatestRatio n IsAnyPlace c.args.ratio) is c.requires.greatest)
