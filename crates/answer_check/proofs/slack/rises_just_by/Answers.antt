use Rattle.teg_certificates.specs.BestRatios.{best_ratio_of}
use Rattle.teg_certificates.specs.SlackWitnesses.{IsRiseShown}
use Rattle.answer_check.proofs.Told.{of_value}
use Rattle.answer_check.proofs.slack.rises_just_by.Goals as goal

pub returns : goal.returns
returns c y r e =
    let net = c.args.net.now in
    let place = c.args.place in
    let rise = c.args.rise.now in
    let shown = of_value (λ q. IsRiseShown net q place rise.by rise.circuit.places.items rise.potentials.items) (best_ratio_of c.args.answer.now) r (c.shows_rise.ensures.0 y) e in
    record {
      may = c.rise_potentials_tell.ensures net r place rise.by rise.potentials.items shown.potentials;
      no_more = (rise.circuit.places.items, shown.beyond);
    }
