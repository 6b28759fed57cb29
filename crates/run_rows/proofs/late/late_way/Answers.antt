use Rattle.std.proofs.Common.{rules, ◌≡◌, to_z, of_z}
use Rattle.std.specs.Prelude.{FitsSigned}
use Rattle.std.specs.Int.{w128}
use Rattle.std.proofs.lemmas.Int.{to_z-of_z}
use Rattle.run_rows.proofs.late.late_way.Goals as goal

pub returns-then-comes_late : goal.returns-then-comes_late
returns-then-comes_late c = λ yes way_in.
    let fits : FitsSigned w128 c.step-step.result = search rules in
    let is : to_z w128 (of_z w128 c.step-step.result) ≡ c.step-step.result = to_z-of_z w128 c.step-step.result fits in
    let token_fits : FitsSigned w128 c.step-token_step.result = search rules in
    let token_is : to_z w128 (of_z w128 c.step-token_step.result) ≡ c.step-token_step.result = to_z-of_z w128 c.step-token_step.result token_fits in
    let late = rw (is, token_is, c.step-step.ensures, c.step-token_step.ensures, c.delayed-token.ensures, c.date.ensures, c.date-in-loop-number.ensures) at (c.comes_late.ensures c.if-comes_late.true) in
    late (way_in.each c.loop-number.number (record { past = search rules; last = search rules }))
