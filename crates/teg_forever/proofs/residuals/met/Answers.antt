use Rattle.teg_forever.proofs.Repeated.{stays_second}
use Rattle.teg_forever.proofs.residuals.met.Goals as goal

pub returns-then-equals-clause-met : goal.returns-then-equals-clause-met
returns-then-equals-clause-met c = stays_second c.args.meet c.args.residual.now c.equals.ensures.left (c.equals.ensures.forms.0 c.if-equals.true)

pub returns-then-equals-clause-stays : goal.returns-then-equals-clause-stays
returns-then-equals-clause-stays c = λ yes. stays_second c.args.meet c.args.residual.now c.equals.ensures.left (c.equals.ensures.forms.0 c.if-equals.true)

pub stays-stays-requires : goal.stays-stays-requires
stays-stays-requires c = record { value = c.in-Ok.ensures.answer.0; fit = c.in-Ok.ensures.answer.1 }

pub returns-in-Ok-clause-met : goal.returns-in-Ok-clause-met
returns-in-Ok-clause-met c = record { value = c.in-Ok.ensures.answer.0; fit = c.in-Ok.ensures.answer.1 }
