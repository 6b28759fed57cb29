use Rattle.teg_check.proofs.Liveness.{ranking_is_live}
use Rattle.teg_howard.specs.RoundStates.{HasCircuit}
use Rattle.teg_howard.proofs.part_answers.numbers_of.Goals as goal

pub returns-clause-circuit : goal.returns-clause-circuit
returns-clause-circuit c =
    let net = c.args.net.now in
    let has : HasCircuit net c.args.parts.now.part_of c.args.part = record {
      kept = c.rules.ensures;
      live = ranking_is_live net c.args.live.now c.requires.live;
      parts_ = c.requires.parts.strong;
      inner = c.requires.circuit;
    } in
    rw c.in_ok-numbers.ensures has
