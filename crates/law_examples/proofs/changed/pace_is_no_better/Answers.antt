use Rattle.law_examples.proofs.changed.pace_is_no_better.Goals as goal

pub returns : goal.returns
returns c =
    let slower = c.slower_nets_have_slower_places.ensures c.args.before.now c.args.after.now c.requires.slower in
    c.pace_rises_with_the_net.ensures.nets c.args.before.now c.args.after.now c.args.first c.args.second slower c.requires.first c.requires.second
