use Rattle.policy_rounds.proofs.ListedChoices.{lists_members}
use Rattle.round_check.proofs.Choosing.{lists_choices}
use Rattle.round_check.proofs.choices.list_members.Goals as goal

pub returns : goal.returns
returns c = (
  λ yes. lists_members c.args.parts.now c.args.number c.args.choices.now (c.are_one_each.ensures.0 yes),
  λ h. c.are_one_each.ensures.1 (lists_choices c.args.parts.now c.args.number c.args.choices.now h),
)
