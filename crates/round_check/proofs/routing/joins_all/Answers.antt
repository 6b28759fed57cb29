use Rattle.std.proofs.Common.{◌+◌, ◌≡◌, ◌++◌, ◌∷◌, [], ℕ, length, refl, ap, ◌∙◌, arith}
use Rattle.std.proofs.lemmas.Bool.{iff_false, false≢true}
use Rattle.std.proofs.lemmas.List.{length_push}
use Rattle.teg_net.specs.Parts.{to_of}
use Rattle.policy_rounds.specs.PolicyLists.{policy_of}
use Rattle.round_check.specs.Routes.{IsNextMark}
use Rattle.round_check.proofs.Joining.{all_in_time, all_joined, joined_none, joined_more, joined_all, next_own}
use Rattle.round_check.proofs.routing.joins_all.Goals as goal

pub joins-init : goal.joins-init
joins-init c =
    let part = c.args.part.now in
    ([], joined_none part.net.now part.parts.now part.number (policy_of c.args.policy.now) c.args.root (policy_of c.args.routed.now) c.args.home.items c.requires.count c.requires.home, refl)

pub joins-preserved : goal.joins-preserved
joins-preserved c =
    let part = c.args.part.now in
    let net = part.net.now in
    let id = c.in-Some.id in
    let js = c.joins.invariant.0 in
    let ends : c.end_of-member.result ≡ to_of net id = c.end_of-member.ensures in
    let next : IsNextMark net part.parts.now part.number c.joins.home.items id = rw c.deref.ensures.value at c.in-Some.ensures.some in
    let own : policy_of c.args.routed.now (to_of net id) ≡ id = rw ends at (c.has_place.ensures.0 c.if-not-has_place.false) in
    rw ends (
      js ++ id ∷ [],
      joined_more net part.parts.now part.number (policy_of c.args.policy.now) c.args.root (policy_of c.args.routed.now) js c.joins.home.items id c.joins.invariant.1 next own,
      length_push js id ∙ ap (λ (n : ℕ). n + 1) c.joins.invariant.2,
    )

-- the place that joins next is not the policy's
pub returns-then-not-has_place : goal.returns-then-not-has_place
returns-then-not-has_place c = (
  λ y. absurd (false≢true y),
  λ w.
      let part = c.args.part.now in
      let net = part.net.now in
      let id = c.in-Some.id in
      let ends : c.end_of-member.result ≡ to_of net id = c.end_of-member.ensures in
      let next : IsNextMark net part.parts.now part.number c.joins.home.items id = rw c.deref.ensures.value at c.in-Some.ensures.some in
      let own = next_own net part.parts.now part.number (policy_of c.args.policy.now) c.args.root (policy_of c.args.routed.now) w.0 w.1 c.joins.invariant.0 c.joins.home.items id c.joins.invariant.1 next in
      absurd (iff_false c.has_place.ensures c.if-not-has_place.true (rw ends own)),
)

-- no place leads on
pub returns-in_default : goal.returns-in_default
returns-in_default c =
    let part = c.args.part.now in
    let net = part.net.now in
    let π = policy_of c.args.policy.now in
    let ρ = policy_of c.args.routed.now in
    let js = c.joins.invariant.0 in
    let h = c.joins.invariant.1 in
    let marked = rw c.deref-in_default.ensures.value at c.all_marked.ensures in
    let none = rw c.deref.ensures.value at c.in_default.ensures.none in (
      λ yes. (js, joined_all net part.parts.now part.number π c.args.root ρ js c.joins.home.items h (marked.0 yes) (λ t i w. c.requires.kept t ((c.requires.home t).1 (i, w)))),
      λ w. marked.1 (all_joined net part.parts.now part.number π c.args.root ρ w.0 w.1 js c.joins.home.items h none),
    )

-- as many have joined as there are transitions
pub returns : goal.returns
returns c =
    let part = c.args.part.now in
    let net = part.net.now in
    let π = policy_of c.args.policy.now in
    let ρ = policy_of c.args.routed.now in
    let js = c.joins.invariant.0 in
    let h = c.joins.invariant.1 in
    let marked = rw c.deref-2.ensures.value at c.all_marked-2.ensures in
    let full : length js ≡ length part.parts.now = omega (arith, c.joins.invariant.2, c.joins-test.false, c.joins.auto._step-end) in
    let all = all_in_time net part.parts.now part.number π c.args.root ρ c.requires.policy js c.joins.home.items h full in
    (λ yes. (js, joined_all net part.parts.now part.number π c.args.root ρ js c.joins.home.items h all (λ t i w. c.requires.kept t ((c.requires.home t).1 (i, w)))), λ w. marked.1 all)
