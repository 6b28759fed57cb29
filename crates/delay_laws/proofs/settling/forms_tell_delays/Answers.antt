use Rattle.delay_laws.proofs.Steps.{forms_tell_delays}
use Rattle.delay_laws.proofs.settling.forms_tell_delays.Goals as goal

pub returns : goal.returns
returns c = forms_tell_delays
