use Rattle.std.proofs.Common.{◌≡◌, ◌∙◌, rules, to_z, of_z}
use Rattle.std.specs.Prelude.{FitsSigned}
use Rattle.std.specs.Int.{w128}
use Rattle.std.proofs.lemmas.Int.{to_z-of_z}
use Rattle.own_periods.proofs.slack.worth_past.Goals as goal

pub returns-clause-value : goal.returns-clause-value
returns-clause-value c =
    let fits : FitsSigned w128 c.instant.result = search rules in
    let is : to_z w128 (of_z w128 c.instant.result) ≡ c.instant.result = to_z-of_z w128 c.instant.result fits in
    let own : FitsSigned w128 c.worth_of.result = search rules in
    to_z-of_z w128 c.worth_of.result own ∙ (rw (is, c.instant.ensures.value) at c.worth_of.ensures.value)
