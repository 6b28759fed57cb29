use Rattle.law_examples.proofs.games.tokens_stay.Goals as goal

pub returns : goal.returns
returns c = c.tokens_on_circuits_stay.ensures c.args.net.now c.args.game.now.run c.requires.game.legal c.args.circuit.now c.requires.circuit
