use Rattle.std.proofs.Common.{rules, ap, ◌<◌, ◌≤◌, ◌≡◌, arith, ⊎_elim, to_z, of_z}
use Rattle.std.specs.Prelude.{FitsSigned}
use Rattle.std.specs.Int.{w128}
use Rattle.std.proofs.lemmas.Bool.{cases_lt}
use Rattle.std.proofs.lemmas.Int.{to_z-of_z}
use Rattle.jump_laws.specs.Runs.{Run}
use Rattle.run_rows.proofs.turn.moves_one.Goals as goal

pub loop-number-preserved : goal.loop-number-preserved
loop-number-preserved c = λ k a b.
    ⊎_elim
    (λ (m : k < c.loop-number.number). c.loop-number.invariant k a m)
    (λ (m : c.loop-number.number ≤ k).
    let here : k ≡ c.loop-number.number = omega (arith, m, b) in
    let fits : FitsSigned w128 c.step-step.result = search rules in
    let is : to_z w128 (of_z w128 c.step-step.result) ≡ c.step-step.result = to_z-of_z w128 c.step-step.result fits in
    let turn_is : c.run.inside.turn ≡ c.args.last.now.run.now.turn = ap (λ (r : Run). r.turn) c.run.view_is in
    rw here (rw (is, c.date-late.ensures, c.step-step.ensures, c.date.ensures, turn_is) at (c.is_moved.ensures c.if-not-is_moved.false)))
    (cases_lt k c.loop-number.number)
