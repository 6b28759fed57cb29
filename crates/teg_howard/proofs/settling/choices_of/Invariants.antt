use Rattle.policy_rounds.specs.PolicyLists.{policy_of}
use Rattle.teg_howard.proofs.Choices.{Listed}
use Rattle.teg_howard.proofs.settling.choices_of.Given as goal

abbrev pub invariant-loop-member : goal.invariant-loop-member
invariant-loop-member l = Listed l.part.parts.now l.part.number (policy_of l.policy) l.values l.choices.items l.member
