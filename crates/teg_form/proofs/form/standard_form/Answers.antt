use Rattle.teg_form.proofs.OneForm.{one_form}
use Rattle.teg_form.proofs.form.standard_form.Goals as goal

pub returns-clause-one : goal.returns-clause-one
returns-clause-one c other h =
    one_form c.args.net.now (record { stars = c.in_ok-stars.stars.items; entries = c.in_ok-entries.entries.items }) other
    (record { stars = c.in_ok-stars.ensures; entries = c.in_ok-entries.ensures }) h
