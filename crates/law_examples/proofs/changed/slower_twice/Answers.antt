use Rattle.change_laws.proofs.Changing.{ready_of_tokens}
use Rattle.law_examples.proofs.changed.slower_twice.Goals as goal

pub returns : goal.returns
returns c =
    c.slower_nets_are_ordered.ensures.chain c.args.before.now c.args.middle.now c.args.after.now (ready_of_tokens c.args.middle.now c.rules.ensures) c.requires.first c.requires.second
