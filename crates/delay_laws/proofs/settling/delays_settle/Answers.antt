use Rattle.delay_laws.proofs.Together.{delays_settle}
use Rattle.delay_laws.proofs.settling.delays_settle.Goals as goal

pub returns : goal.returns
returns c = delays_settle c.systems_settle.ensures.periodic c.periodic_datings_settle.ensures
