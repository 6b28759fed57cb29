use Rattle.policy_rounds.proofs.ListedChoices.{only_members}
use Rattle.round_check.proofs.runs.spread_of.Goals as goal

pub spread_choices-requires : goal.spread_choices-requires
spread_choices-requires c =
    let part = c.args.part.now in
    rw c.deref.ensures.value (λ k d l. (only_members part.parts.now part.number c.args.round.now.choices.items c.requires.members k d l).in_range)
