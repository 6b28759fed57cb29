use Rattle.std.proofs.Common.{suc, ◌+◌, ◌<◌, ◌≤◌, ◌≡◌, refl, true, false, sym, ap, ◌∙◌, arith, ⊎_elim}
use Rattle.std.proofs.lemmas.Bool.{cases_lt, false≢true}
use Rattle.teg_net.specs.Circuits.{from_of}
use Rattle.policy_rounds.specs.Policies.{step_back}
use Rattle.policy_rounds.specs.PolicyLists.{policy_of}
use Rattle.round_check.proofs.Joining.{home_soon}
use Rattle.round_check.proofs.routing.leads_home.Goals as goal

pub start_of-at-requires : goal.start_of-at-requires
start_of-at-requires c = (c.requires.policy c.back.at c.back.invariant.member).inside.in_range

pub back-preserved : goal.back-preserved
back-preserved c =
    let net = c.args.part.now.net.now in
    let π = policy_of c.args.policy.now in
    let h = c.back.invariant in
    let i = c.back._step in
    let e : i + 1 ≡ suc i = omega arith in
    let from : from_of net (π c.back.at) ≡ step_back net π (i + 1) c.args.member = rw e (ap (λ x. from_of net (π x)) h.here) in
    rw c.start_of-at.ensures
    (record {
      here = from;
      member = (c.requires.policy c.back.at h.member).inside.from_member;
      before = λ k l.
          ⊎_elim
          (λ (q : k < i). h.before k q)
          (λ (q : i ≤ k).
          let is : i ≡ k = omega arith in
          λ f. c.if-at-root.false (h.here ∙ (ap (λ x. step_back net π x c.args.member) is ∙ f)))
          (cases_lt k i);
    })

pub returns-then-at-root : goal.returns-then-at-root
returns-then-at-root c = (λ yes. (c.back._step, sym c.back.invariant.here ∙ c.if-at-root.true), λ h. refl)

pub returns : goal.returns
returns c = (
  λ (e : false ≡ true). absurd (false≢true e),
  λ h.
      let part = c.args.part.now in
      let soon = home_soon part.net.now part.parts.now part.number (policy_of c.args.policy.now) c.requires.policy c.args.member c.args.root c.requires.member h in
      absurd (c.back.invariant.before soon.0 (omega (arith, soon.1, c.back-test.false)) soon.2),
)
