use Rattle.teg_howard.specs.FoundCircuits.{potentials}
use Rattle.policy_rounds.specs.PolicyLists.{policy_of}
use Rattle.teg_howard.proofs.InnerPlaces.{number_at}
use Rattle.teg_howard.proofs.Improving.{Improving}
use Rattle.teg_howard.proofs.policies.improve.Given as goal

abbrev pub invariant-loop-id : goal.invariant-loop-id
invariant-loop-id l =
    Improving l.part.net.now l.part.parts.now l.part.number l.ratio.time l.ratio.tokens (potentials l.values)
    (policy_of l.fn.policy) l.policy l.greatest.items l.changed.items (number_at l.part.net.now l.part.parts.now l.part.number l.part.ids.now l.id-index)
