use Rattle.std.proofs.Common.{◌≡◌, arith, rules, to_z, of_z, ◌+ℤ◌}
use Rattle.std.specs.Prelude.{FitsSigned}
use Rattle.std.specs.Int.{w128}
use Rattle.std.proofs.lemmas.Int.{ints, to_z-of_z}
use Rattle.own_periods.proofs.slack.is_in_time.Goals as goal

pub returns : goal.returns
returns c = λ yes.
    let f1 : FitsSigned w128 c.worth_past-start.result = search rules in
    let f2 : FitsSigned w128 c.place_worth.result = search rules in
    let f3 : FitsSigned w128 c.worth_past-end.result = search rules in
    let e1 : to_z w128 (of_z w128 c.worth_past-start.result) ≡ c.worth_past-start.result = to_z-of_z w128 c.worth_past-start.result f1 in
    let e2 : to_z w128 (of_z w128 c.place_worth.result) ≡ c.place_worth.result = to_z-of_z w128 c.place_worth.result f2 in
    let e3 : to_z w128 (of_z w128 c.worth_past-end.result) ≡ c.worth_past-end.result = to_z-of_z w128 c.worth_past-end.result f3 in
    let f4 : FitsSigned w128 (c.worth_past-start.result +ℤ c.place_worth.result) = search rules in
    let e4 : to_z w128 (of_z w128 (c.worth_past-start.result +ℤ c.place_worth.result)) ≡ c.worth_past-start.result +ℤ c.place_worth.result =
    to_z-of_z w128 (c.worth_past-start.result +ℤ c.place_worth.result) f4 in
    let said = rw (e1, e2, e3, e4) at c.if-end-sum.false in
    let v1 = c.worth_past-start.ensures.value in
    let v2 = c.place_worth.ensures.value in
    let v3 = c.worth_past-end.ensures.value in
    omega (arith, ints, said, v1, v2, v3)
