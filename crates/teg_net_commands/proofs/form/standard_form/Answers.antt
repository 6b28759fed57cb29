use Rattle.std.proofs.lemmas.Result.{IfOk-weaker}
use Rattle.teg_form.specs.StandardForms.{IsStandardFormOf}
use Rattle.teg_report.specs.FormLines.{HasEndsIn}
use Rattle.teg_net_commands.proofs.Formed.{form_within}
use Rattle.teg_net_commands.proofs.form.standard_form.Goals as goal

pub returns-clause-within : goal.returns-clause-within
returns-clause-within c =
    IfOk-weaker c.standard_form.result (IsStandardFormOf c.args.net.now) (HasEndsIn c.args.net.now)
    (form_within c.args.net.now (rw c.net.ensures.net at c.rules.ensures)) (rw c.net-2.ensures.net at c.standard_form.ensures.form)
