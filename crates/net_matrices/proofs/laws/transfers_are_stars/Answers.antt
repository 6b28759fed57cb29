use Rattle.net_matrices.proofs.WalkStars.{transfers_are_stars, outputs_of_stars}
use Rattle.net_matrices.proofs.laws.transfers_are_stars.Goals as goal

pub returns : goal.returns
returns c =
    let stars = transfers_are_stars c.gain_stars_are_least.ensures c.systems_settle.ensures.periodic c.systems_settle.ensures.settles in
    record { walks = stars; outputs = outputs_of_stars c.dates_are_outputs.ensures.walks stars }
