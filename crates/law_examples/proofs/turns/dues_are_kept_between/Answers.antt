use Rattle.law_examples.proofs.FormTurns.{dues_between}
use Rattle.law_examples.proofs.turns.dues_are_kept_between.Goals as goal

pub returns : goal.returns
returns c =
    let form = c.requires.form in
    (form.0, form.1, dues_between c.args.net.now c.args.form.now form.0 form.2 c.args.transition.index c.requires.transition c.runs_keep_dues.ensures.keep)
