use Rattle.teg_forever.proofs.Repeated.{stays_first, stays_second}
use Rattle.teg_forever.proofs.residuals.stays.Goals as goal

pub returns-then-equals : goal.returns-then-equals
returns-then-equals c = λ yes. stays_second c.args.meet.now c.args.residual.now c.equals.ensures.left (c.equals.ensures.forms.0 c.if-equals.true)

pub returns : goal.returns
returns c = λ yes. stays_first c.args.before.now c.args.residual.now c.args.meet.now c.requires (c.equals-2.ensures.forms.0 yes)
