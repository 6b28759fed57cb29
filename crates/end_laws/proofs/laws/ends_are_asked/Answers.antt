use Rattle.end_laws.proofs.LedNets.{ends_are_asked, led_nets_stand}
use Rattle.end_laws.proofs.laws.ends_are_asked.Goals as goal

pub returns-clause-times : goal.returns-clause-times
returns-clause-times c = ends_are_asked

pub returns-clause-nets : goal.returns-clause-nets
returns-clause-nets c = led_nets_stand
