use Rattle.law_examples.proofs.endless.walk_moves_on.Goals as goal

pub returns : goal.returns
returns c date n walk far =
    let w = c.args.walk.now in
    c.walks_move_on.ensures.walks c.args.net.now c.args.row.now c.requires.row w.start.index w.number date w.steps.items n walk far c.args.rounds
