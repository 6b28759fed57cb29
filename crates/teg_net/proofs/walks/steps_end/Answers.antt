use Rattle.std.proofs.Common.{Option, Some, None}
use Rattle.std.specs.Prelude.{IfNone}
use Rattle.teg_net.specs.declared.walks.Step.TheVariants.{By}
use Rattle.teg_net.proofs.PathLaws.{no_id}
use Rattle.teg_net.proofs.WalkLaws.{IsWalkLeft-more, IsWalkLeft-none, IsWalkLeft-end}
use Rattle.teg_net.proofs.walks.steps_end.Goals as goal

if_none : {A P : Type 0} (o : Option A) → P → IfNone o P
if_none None p = p
if_none (Some x) p = tt

pub returns-in_err-at-clause-none : goal.returns-in_err-at-clause-none
returns-in_err-at-clause-none c =
    if_none c.from_residual.result
    (IsWalkLeft-none c.args.net.now c.args.steps.now c.args.start.index c.args.number c.loop-step.step-index c.loop-step.at.index
    c.loop-step.count (By no_id) c.loop-step.invariant c.loop-step-test.true c.in_err-at.ensures.none)

pub loop-step-preserved : goal.loop-step-preserved
loop-step-preserved c =
    IsWalkLeft-more c.args.net.now c.args.steps.now c.args.start.index c.args.number c.loop-step.step-index c.loop-step.at.index
    c.loop-step.count c.in_ok-at.field-0-0.index c.in_ok-at.field-0-1 (By no_id) c.loop-step.invariant c.loop-step-test.true c.in_ok-at.ensures.end

pub returns-clause-end : goal.returns-clause-end
returns-clause-end c = IsWalkLeft-end c.args.net.now c.args.steps.now c.args.start.index c.args.number c.loop-step.step-index
    c.loop-step.at.index c.loop-step.count c.loop-step.invariant c.loop-step-test.false
