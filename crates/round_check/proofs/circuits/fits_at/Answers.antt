use Rattle.policy_rounds.specs.PolicyLists.{policy_of}
use Rattle.round_check.proofs.Walking.{around_small, fits_where_all, found_at}
use Rattle.round_check.proofs.circuits.fits_at.Goals as goal

pub fits_bound-requires-clause-small : goal.fits_bound-requires-clause-small
fits_bound-requires-clause-small c =
    let part = c.args.part.now in
    around_small part.net.now part.parts.now part.number (policy_of c.args.policy.now) c.requires.policy c.args.marked.now c.args.bound c.args.start c.circuit_from-found.result
    c.circuit_from-found.ensures.some

pub returns-clause-fits : goal.returns-clause-fits
returns-clause-fits c =
    let part = c.args.part.now in
    λ yes. found_at part.net.now part.parts.now part.number (policy_of c.args.policy.now) c.requires.policy c.args.marked.now c.args.bound c.args.start c.circuit_from-found.result
    c.circuit_from-found.ensures.some (rw c.requires.count at c.circuit_from-found.ensures.none) (c.fits_bound.ensures.0 yes)

pub returns-clause-all : goal.returns-clause-all
returns-clause-all c =
    let part = c.args.part.now in
    λ all. c.fits_bound.ensures.1
    (fits_where_all part.net.now part.parts.now part.number (policy_of c.args.policy.now) c.requires.policy c.args.marked.now c.args.bound c.args.bound c.args.start
    c.circuit_from-found.result c.circuit_from-found.ensures.some all)
