use Rattle.std.proofs.Common.{◌+◌, ℕ, drop, get_or, refl, ap, sym, subst, length, ◌∙◌, string_bytes, arith}
use Rattle.teg_net.specs.declared.entries.TransitionId.{TransitionId}
use Rattle.teg_net.specs.declared.walks.Step.TheVariants.{By}
use Rattle.late_lines.specs.LateLines.{step_number}
use Rattle.late_lines.proofs.PathsWritten.{IsLeft, left_at, left_more, left_none, next_step, path_small}
use Rattle.late_lines.proofs.late.end_steps.Goals as goal

pub loop-step-init : goal.loop-step-init
loop-step-init c = record { told = refl; path = c.requires }

pub push_step-requires-clause-at : goal.push_step-requires-clause-at
push_step-requires-clause-at c = c.loop-step.invariant.path.inside

pub push_step-requires-clause-few : goal.push_step-requires-clause-few
push_step-requires-clause-few c = path_small _ c.loop-step.at c.loop-step.number _ c.loop-step.invariant.path

pub push_step-requires-clause-step : goal.push_step-requires-clause-step
push_step-requires-clause-step c =
    let steps = c.args.walk.now.steps.items in
    let i = c.loop-step.step-index in
    next_step c.args.net.now c.loop-step.at c.loop-step.number (drop i steps) (drop (i + 1) steps) _
    (left_at steps c.deref-step-items.result.now i (By (record { index = 0 })) c.deref-step-items.ensures.value c.loop-step-test.true) c.loop-step.invariant.path

pub loop-step-preserved : goal.loop-step-preserved
loop-step-preserved c =
    let net = c.args.net.now in
    let walk = c.args.walk.now in
    let steps = walk.steps.items in
    let i = c.loop-step.step-index in
    let step = get_or c.deref-step-items.result.now i (By (record { index = 0 })) in
    let before = string_bytes c.args.text.now in
    let text = string_bytes c.push_step.new.text in
    let more = left_more net walk.start walk.number steps before (string_bytes c.loop-step.text) text i c.loop-step.at c.loop-step.number step c.rules.ensures
    (left_at steps c.deref-step-items.result.now i (By (record { index = 0 })) c.deref-step-items.ensures.value c.loop-step-test.true) c.in_ok-at.ensures.text c.loop-step.invariant in
    subst (λ (n : ℕ). IsLeft net walk.start walk.number steps before text (i + 1) c.in_ok-at.field-0-0 n) (sym c.in_ok-at.ensures.number)
    (subst (λ (t : TransitionId). IsLeft net walk.start walk.number steps before text (i + 1) t (step_number net c.loop-step.number step)) (sym c.in_ok-at.ensures.to) more)

pub returns : goal.returns
unfolding lib.Utf8.encode
returns c =
    let walk = c.args.walk.now in
    c.in_ok-push.ensures.bytes
    ∙ left_none c.args.net.now walk.start walk.number walk.steps.items (string_bytes c.args.text.now) (string_bytes c.loop-step.text) c.loop-step.step-index c.loop-step.at c.loop-step.number
    (omega (arith, c.loop-step-test.false, ap length c.deref-step-items.ensures.value)) c.loop-step.invariant
