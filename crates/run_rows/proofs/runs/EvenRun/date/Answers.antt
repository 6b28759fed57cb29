use Rattle.std.proofs.Common.{rules, ◌≡◌, to_z, of_z}
use Rattle.std.specs.Prelude.{FitsSigned}
use Rattle.std.specs.Int.{w128}
use Rattle.std.proofs.lemmas.Int.{to_z-of_z}
use Rattle.run_rows.proofs.InRuns.{kept_within, moved_within}
use Rattle.run_rows.proofs.runs.EvenRun.date.Goals as goal

pub moved-requires-clause-from : goal.moved-requires-clause-from
moved-requires-clause-from c =
    rw (c.kept_date.ensures, ← c.self.view_is) (kept_within _ c.args.transition.index c.args.number c.self.invariant (rw (← c.self.view_is) at c.requires))

pub moved-requires-clause-to : goal.moved-requires-clause-to
moved-requires-clause-to c =
    let fits : FitsSigned w128 c.kept_step.result = search rules in
    let is : to_z w128 (of_z w128 c.kept_step.result) ≡ c.kept_step.result = to_z-of_z w128 c.kept_step.result fits in
    rw (is, c.kept_date.ensures, c.kept_step.ensures, ← c.self.view_is) (moved_within _ c.args.transition.index c.args.number c.self.invariant (rw (← c.self.view_is) at c.requires))

pub returns-clause-within : goal.returns-clause-within
returns-clause-within c =
    let fits : FitsSigned w128 c.kept_step.result = search rules in
    let is : to_z w128 (of_z w128 c.kept_step.result) ≡ c.kept_step.result = to_z-of_z w128 c.kept_step.result fits in
    rw (c.moved.ensures, is, c.kept_date.ensures, c.kept_step.ensures, ← c.self.view_is) (moved_within _ c.args.transition.index c.args.number c.self.invariant (rw (← c.self.view_is) at c.requires))
