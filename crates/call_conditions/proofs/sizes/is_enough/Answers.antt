use Rattle.std.proofs.Common.{rules, ◌≤◌, subst}
use Rattle.teg_sizing.specs.Sizings.{IsSizing}
use Rattle.call_conditions.proofs.EnoughTokens.{enough_from, least_enough}
use Rattle.call_conditions.proofs.sizes.is_enough.Goals as goal

pub returns-in-Enough : goal.returns-in-Enough
returns-in-Enough c =
    let told = subst (IsSizing c.args.net.now c.args.target.now c.args.place) c.in-Enough.is c.in_ok-least.ensures in (
      λ t. enough_from c.args.net.now c.args.target.now c.args.place c.in-Enough.least c.args.extra c.in-Enough.circuit told (search rules),
      λ e.
          let low : c.in-Enough.least ≤ c.args.extra = least_enough c.args.net.now c.args.target.now c.args.place c.in-Enough.least c.args.extra c.in-Enough.circuit told e in
          search rules,
    )
