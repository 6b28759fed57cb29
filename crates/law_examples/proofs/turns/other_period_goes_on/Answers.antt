use Rattle.law_examples.proofs.FormTurns.{other_goes_on}
use Rattle.law_examples.proofs.turns.other_period_goes_on.Goals as goal

pub returns : goal.returns
returns c =
    let form = c.requires.form in
    (form.0, form.1, other_goes_on c.args.net.now c.args.form.now form.0 form.2 c.args.transition.index c.requires.transition c.forms_reach_back.ensures c.args.period)
