use Rattle.delay_laws.proofs.Derived.{release_nets_are_live}
use Rattle.delay_laws.proofs.DerivedForms.{release_nets_tell_delays}
use Rattle.delay_laws.proofs.settling.release_nets_tell_delays.Goals as goal

pub returns : goal.returns
returns c = record { live = release_nets_are_live; tells = release_nets_tell_delays }
