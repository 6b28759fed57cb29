use Rattle.teg_net.specs.declared.walks.Step.TheVariants.{By}
use Rattle.teg_net.proofs.PathLaws.{no_id}
use Rattle.teg_net.proofs.WalkLaws.{Walks-steps}
use Rattle.teg_net.proofs.walks.walk_time.Goals as goal

pub step_time-time-requires : goal.step_time-time-requires
step_time-time-requires c =
    let w = c.args.walk.now in
    let inside = rw c.deref-step-items.ensures.value at c.loop-step-test.true in
    rw c.deref-step-items.ensures.value (Walks-steps c.args.net.now w.steps.items w.start.index w.number c.requires.steps.0
    c.requires.steps.1 c.requires.steps.2 c.loop-step.step-index (By no_id) inside)
