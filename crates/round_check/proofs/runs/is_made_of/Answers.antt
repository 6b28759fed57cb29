use Rattle.std.proofs.lemmas.Bool.{iff_false, false≢true}
use Rattle.policy_rounds.specs.PolicyLists.{policy_of}
use Rattle.teg_parts.specs.Components.{IsMarked}
use Rattle.teg_net.proofs.PathLaws.{IsPathBetween-in_range}
use Rattle.round_check.proofs.Exactly.{fits_made, routed_made}
use Rattle.round_check.proofs.Stepping.{made_best, made_of}
use Rattle.round_check.proofs.runs.is_made_of.Goals as goal

pub bound_of-bound-requires : goal.bound_of-bound-requires
bound_of-bound-requires c = rw c.deref.ensures.value c.requires.round.circuit.circuit

pub fits_policy-requires-clause-range : goal.fits_policy-requires-clause-range
fits_policy-requires-clause-range c =
    let h = c.requires.round.circuit.circuit in
    rw c.deref-2.ensures.value (IsPathBetween-in_range c.args.part.now.net.now c.args.round.now.circuit.places.items h.closed.0 h.closed.0 h.closed.1)

pub returns : goal.returns
returns c =
    let part = c.args.part.now in
    let net = part.net.now in
    let π = policy_of c.args.policy.now in
    let marked = c.args.marked.now in
    let r = c.args.round.now in
    let b = c.bound_of-bound.result in
    let is = rw c.deref.ensures.value at c.bound_of-bound.ensures in
    let fits = rw c.deref-2.ensures.value at (c.fits_policy.ensures.0 c.if-not-fits_policy.false) in
    let best = made_best net part.parts.now part.number π marked r b c.requires.round fits.own fits.through is fits.most in
    let made = rw c.deref-3.ensures.value at c.in_ok-is_made.ensures in (
      λ yes. made_of net part.parts.now part.number π (IsMarked marked) r b c.in_ok-own.own best is c.in_ok-own.ensures (made.0 yes),
      λ h. made.1 (routed_made net part.parts.now part.number π (IsMarked marked) r b c.in_ok-own.own is c.in_ok-own.ensures h),
    )

pub returns-then-not-fits_policy : goal.returns-then-not-fits_policy
returns-then-not-fits_policy c =
    let part = c.args.part.now in
    let is = rw c.deref.ensures.value at c.bound_of-bound.ensures in
    let no = iff_false (rw c.deref-2.ensures.value at c.fits_policy.ensures) c.if-not-fits_policy.true in (
      λ y. absurd (false≢true y),
      λ h. absurd (no (fits_made part.net.now part.parts.now part.number (policy_of c.args.policy.now) c.args.marked.now c.args.round.now c.bound_of-bound.result is h)),
    )
