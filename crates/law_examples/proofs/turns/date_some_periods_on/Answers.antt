use Rattle.law_examples.proofs.FormTurns.{periods_on}
use Rattle.law_examples.proofs.turns.date_some_periods_on.Goals as goal

pub returns : goal.returns
returns c =
    let form = c.requires.form in
    (form.0, form.1, periods_on c.args.net.now c.args.form.now form.0 form.2 c.args.transition.index c.requires.transition c.turns_are_told.ensures)
