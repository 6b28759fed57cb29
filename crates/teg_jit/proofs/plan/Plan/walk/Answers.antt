use Rattle.std.proofs.Common.{◌≡◌, Some, None, refl, arith}
use Rattle.teg_net.specs.declared.walks.Step.TheVariants.{By as by_place, Next as to_next}
use Rattle.teg_net.specs.Circuits.{place_at}
use Rattle.teg_net.proofs.NetRules.{net_ends}
use Rattle.teg_jit.specs.Plans.{latest_at}
use Rattle.teg_jit.specs.FirstSteps.{IsFirstStep}
use Rattle.teg_jit.proofs.Passing.{read_place}
use Rattle.teg_jit.proofs.Walking.{walk_begins, step_next, next_step, steps_by, walk_is_tight, follows_to_end}
use Rattle.teg_jit.proofs.plan.Plan.walk.Goals as goal
use Rattle.teg_jit.proofs.plan.Plan.walk.Goals.{in-By, in-Next}

pub loop-step-init : goal.loop-step-init
loop-step-init c = rw c.new-steps.ensures.items (walk_begins c.args.net.now c.args.self.now c.args.transition.index c.args.number
    c.requires.transition c.requires.number c.requires.last c.requires.bounded)

pub overflow_add-count : goal.overflow_add-count
overflow_add-count c =
    let net = c.args.net.now in
    let plan = c.args.self.now in
    let s = c.requires.stands in
    let step : IsFirstStep (latest_at plan c.loop-step.at.index c.loop-step.count) (Some (by_place c.in-By.id)) = rw (c.latest.ensures.value, c.in-Some.is, c.in-By.is) at c.first_step.ensures in
    let on = steps_by net plan s.0 c.args.transition.index c.args.number c.loop-step.steps.items c.loop-step.at.index
    c.loop-step.count (net_ends net c.places-places.ensures.rules) c.latest.ensures.limits s.1 c.loop-step.invariant c.in-By.id step in
    let item : c.index-places-id.result ≡ place_at net c.in-By.id =
    read_place net c.places-places.result.now c.in-By.id.index c.index-places-id.result c.places-places.ensures.value on.0 c.index-places-id.is in
    rw item (omega (arith, on.1.walked.to_last, c.latest.ensures.limits.numbers_in))

pub overflow_add-count-in-Next : goal.overflow_add-count-in-Next
overflow_add-count-in-Next c = let h = c.loop-step.invariant in omega (arith, h.to_last, c.latest.ensures.limits.numbers_in)

pub loop-step-smaller : goal.loop-step-smaller
loop-step-smaller c =
    let net = c.args.net.now in
    let plan = c.args.self.now in
    let s = c.requires.stands in
    let h = c.loop-step.invariant in
    let at = c.loop-step.at.index in
    let count = c.loop-step.count in
    let ends = net_ends net c.places-places.ensures.rules in
    let limits = c.latest.ensures.limits in
    elim c.match-step.branch [
      | in-By w ↦
          let step : IsFirstStep (latest_at plan at count) (Some (by_place w.in-By.id)) = rw (c.latest.ensures.value, c.in-Some.is, w.in-By.is) at c.first_step.ensures in
          let on = steps_by net plan s.0 c.args.transition.index c.args.number c.loop-step.steps.items at count ends limits s.1 h w.in-By.id step in
          let item : w.index-places-id.result ≡ place_at net w.in-By.id =
          read_place net c.places-places.result.now w.in-By.id.index w.index-places-id.result c.places-places.ensures.value on.0 w.index-places-id.is in
          rw (w.count-is, item) on.1.smaller
      | in-Next w ↦
          let step : IsFirstStep (latest_at plan at count) (Some to_next) = rw (c.latest.ensures.value, c.in-Some.is, w.in-Next.is) at c.first_step.ensures in
          let here = step_next (latest_at plan at count) step in
          rw w.count-is (next_step net plan s.0 c.args.transition.index c.args.number c.loop-step.steps.items at count ends limits s.1 h here.0 here.1).smaller
    ]

pub loop-step-preserved : goal.loop-step-preserved
loop-step-preserved c =
    let net = c.args.net.now in
    let plan = c.args.self.now in
    let s = c.requires.stands in
    let h = c.loop-step.invariant in
    let at = c.loop-step.at.index in
    let count = c.loop-step.count in
    let ends = net_ends net c.places-places.ensures.rules in
    let limits = c.latest.ensures.limits in
    elim c.match-step.branch [
      | in-By w ↦
          let step : IsFirstStep (latest_at plan at count) (Some (by_place w.in-By.id)) = rw (c.latest.ensures.value, c.in-Some.is, w.in-By.is) at c.first_step.ensures in
          let on = steps_by net plan s.0 c.args.transition.index c.args.number c.loop-step.steps.items at count ends limits s.1 h w.in-By.id step in
          let item : w.index-places-id.result ≡ place_at net w.in-By.id =
          read_place net c.places-places.result.now w.in-By.id.index w.index-places-id.result c.places-places.ensures.value on.0 w.index-places-id.is in
          rw (c.in_ok-push.ensures.items, w.in-By.is, w.count-is, item) on.1.walked
      | in-Next w ↦
          let step : IsFirstStep (latest_at plan at count) (Some to_next) = rw (c.latest.ensures.value, c.in-Some.is, w.in-Next.is) at c.first_step.ensures in
          let here = step_next (latest_at plan at count) step in
          rw (c.in_ok-push.ensures.items, w.in-Next.is, w.count-is)
          (next_step net plan s.0 c.args.transition.index c.args.number c.loop-step.steps.items at count ends limits s.1 h here.0 here.1).walked
    ]

pub returns : goal.returns
returns c =
    let last : IsFirstStep (latest_at c.args.self.now c.loop-step.at.index c.loop-step.count) None = rw c.latest.ensures.value at c.in_default.ensures in
    record {
      tight = λ due for.
          walk_is_tight c.args.net.now c.args.self.now due c.args.transition.index c.args.number c.loop-step.at.index c.loop-step.count
          (record { start = c.args.transition; number = c.args.number; steps = c.loop-step.steps })
          c.latest.ensures.limits for c.loop-step.invariant c.requires.transition c.requires.number last refl refl;
      follows = follows_to_end c.args.net.now c.args.self.now c.args.transition.index c.args.number c.loop-step.steps.items
          c.loop-step.at.index c.loop-step.count c.loop-step.invariant last;
    }
