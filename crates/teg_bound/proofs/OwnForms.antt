-- The number and the period of own periods are those of the shortest form.
use Rattle.std.proofs.Common.{ℕ, ℤ, ◌≡◌, length, arith}
use Rattle.teg_net.specs.Nets.{NetLists}
use Rattle.periodic_laws.specs.teg_model.Datings.{IsLeastDating}
use Rattle.periodic_laws.proofs.teg_model_proofs.DateFunctions.{Dating}
use Rattle.periodic_laws.specs.settled_laws.SettledForms.{SettledForm, RepeatsAfter, step_of_form}
use Rattle.periodic_laws.specs.LinearSystem.{SettlesShortest}
use Rattle.own_periods.specs.declared.numbers.OwnNumbers.{OwnNumbers}
use Rattle.own_periods.specs.OwnNumbers.{AreLeastNumbers}
use Rattle.teg_bound.specs.ReturningRows.{IsShortestRepetition}

pub own_shortest : (net : NetLists) → SettlesShortest net → (found : OwnNumbers) → AreLeastNumbers net found
    → IsShortestRepetition net (record { after = found.after; period = found.period })
own_shortest net settles found h =
    let form : SettledForm = settles.0 in
    let x : Dating = settles.1.0 in
    let short = settles.1.2 in
    let least = h x settles.1.1 in
    let own : RepeatsAfter (length net.transitions) x form.after form.period (step_of_form form) = short.stands.repeats in
    let period_up = least.least_period form.after form.period (step_of_form form) own in
    let period_down = short.least_period found.after found.period least.by least.repeats in
    let after_up = least.least_after form.after form.period (step_of_form form) own in
    let after_down = short.least_after found.after found.period least.by least.repeats in
    record { form = form; is = settles.1; after = omega (arith, after_up, after_down); period = omega (arith, period_up, period_down) }
