use Rattle.delay_laws.proofs.OneForm.{forms_are_of_each, forms_of_delays_are_one, delays_left_are_one}
use Rattle.delay_laws.proofs.settling.forms_of_delays_are_one.Goals as goal

pub returns : goal.returns
returns c = record { each = forms_are_of_each; one = forms_of_delays_are_one c.shortest_forms_are_one.ensures; left = delays_left_are_one }
