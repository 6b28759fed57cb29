use Rattle.std.proofs.Common.{arith}
use Rattle.teg_sizing.proofs.Reading.{circuit_in_net}
use Rattle.teg_sizing.proofs.texts.sizing_text.Goals as goal

pub told_text-requires-clause-circuit : goal.told_text-requires-clause-circuit
told_text-requires-clause-circuit c = circuit_in_net c.args.net.now c.args.target.now c.args.place c.args.sizing.now c.requires.sizing

pub returns-clause-told : goal.returns-clause-told
returns-clause-told c =
    let target = c.requires.target in
    let time = target.time in
    let tokens = target.tokens in
    record {
      place = c.requires.place;
      time = omega arith;
      tokens = omega arith;
      circuit = circuit_in_net c.args.net.now c.args.target.now c.args.place c.args.sizing.now c.requires.sizing;
      number = c.in_ok-told_text.ensures.number;
    }
