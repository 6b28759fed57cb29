use Rattle.delay_laws.proofs.Dated.{delayed_datings_exist, delayed_datings_are_one}
use Rattle.delay_laws.proofs.laws.delayed_datings_exist.Goals as goal

pub returns : goal.returns
returns c = record { exists = delayed_datings_exist; one = delayed_datings_are_one }
