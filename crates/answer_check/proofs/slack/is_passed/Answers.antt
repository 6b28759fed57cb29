use Rattle.teg_certificates.specs.BestRatios.{best_ratio_of}
use Rattle.teg_certificates.specs.SlackWitnesses.{IsCriticalCircuit}
use Rattle.answer_check.proofs.Told.{of_value}
use Rattle.answer_check.proofs.slack.is_passed.Goals as goal

pub returns : goal.returns
returns c y r e =
    let circuit = c.args.circuit.now in
    (circuit, of_value (λ q. IsCriticalCircuit c.args.net.now q c.args.place circuit) (best_ratio_of c.args.answer.now) r (c.shows_critical.ensures.0 y) e)
