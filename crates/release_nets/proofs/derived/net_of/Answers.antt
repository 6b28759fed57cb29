use Rattle.teg_net.specs.Nets.{lists_of}
use Rattle.release_nets.proofs.DerivedNet.{made_rules}
use Rattle.release_nets.proofs.derived.net_of.Goals as goal

pub new-requires : goal.new-requires
new-requires c =
    let p = c.args._planned.now in
    made_rules p.net.now p.period p.table.now (lists_of c.args.transitions.items c.args.places.items c.args.lists.items) c.requires.rules c.requires.made
