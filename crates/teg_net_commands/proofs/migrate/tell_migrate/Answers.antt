use Rattle.std.proofs.Common.{refl, subst}
use Rattle.teg_net.specs.Nets.{NetLists}
use Rattle.teg_net_commands.specs.Migrate.{IsWrittenNet}
use Rattle.teg_net_commands.proofs.migrate.tell_migrate.Goals as goal

pub returns : goal.returns
returns c =
    let told = c.in_ok-text.ensures in
    (refl, subst (λ (net : NetLists). IsWrittenNet net c.in_ok-text.text.items) c.net.ensures.net (told.layout, told.read_back, told.document))
