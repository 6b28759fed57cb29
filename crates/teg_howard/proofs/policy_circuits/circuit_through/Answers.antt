use Rattle.std.proofs.Common.{ℕ, List, ◌<◌, ◌+◌, ◌^◌, length, ap, ◌∙◌, arith, reverse, refl}
use Rattle.teg_net.specs.Nets.{NetLists, IsNet, IsPlaceOf}
use Rattle.teg_net.specs.declared.entries.PlaceId.{PlaceId}
use Rattle.teg_net.specs.Circuits.{place_at, no_place}
use Rattle.policy_rounds.specs.PolicyLists.{policy_of, IsOnPolicy}
use Rattle.policy_rounds.proofs.Back.{on_back}
use Rattle.teg_howard.proofs.Walks.{Walked, walked_more, walked_round, walked_below}
use Rattle.policy_rounds.proofs.PolicyCircuits.{trail_sums}
use Rattle.teg_howard.proofs.policy_circuits.circuit_through.Goals as goal

-- the place at the policy's index keeps the limits
sums_fit : (net : NetLists) (policy : List PlaceId) (start m at : ℕ) (backs : List PlaceId) (time tokens : ℕ) → IsNet net
    → IsOnPolicy net (policy_of policy) start → IsOnPolicy net (policy_of policy) at → Walked net (policy_of policy) start m at backs time tokens
    → m < length net.transitions → (time + (place_at net (policy_of policy at)).hold < 2 ^ 64) × (tokens + (place_at net (policy_of policy at)).tokens < 2 ^ 64)
sums_fit net policy start m at backs time tokens kept on here h l =
    let s = trail_sums net on.parts on.part (policy_of policy) on.kept kept m start on.member in
    let few = kept.few_transitions in
    let is : IsPlaceOf net (place_at net (policy_of policy at)) = kept.each_place (policy_of policy at).index no_place (here.kept at here.member).inside.in_range in
    let hold = is.hold_in in
    let token = is.tokens_in in
    let t = h.time_is in
    let k = h.tokens_is in
    (omega (arith, s.0), omega (arith, s.1))

pub overflow_add-time : goal.overflow_add-time
overflow_add-time c =
    let h = c.walk.invariant in
    let f = sums_fit c.args.net.now c.args.policy.now c.args.start c.walk._step c.walk.at c.walk.back.items c.walk.time c.walk.tokens
    c.rules.ensures c.requires.on_policy h.on_policy h.walked (omega (arith, c.requires.count, c.walk-test.true)) in
    rw c.place_into-place.ensures (omega (arith, f.0))

pub overflow_add-tokens : goal.overflow_add-tokens
overflow_add-tokens c =
    let h = c.walk.invariant in
    let f = sums_fit c.args.net.now c.args.policy.now c.args.start c.walk._step c.walk.at c.walk.back.items c.walk.time c.walk.tokens
    c.rules.ensures c.requires.on_policy h.on_policy h.walked (omega (arith, c.requires.count, c.walk-test.true)) in
    rw c.place_into-place.ensures (omega (arith, f.1))

pub returns-then-at-start-clause-some : goal.returns-then-at-start-clause-some
returns-then-at-start-clause-some c =
    let item = c.place_into-place.ensures in
    walked_round c.args.net.now (policy_of c.args.policy.now) c.args.start c.walk._step c.walk.at c.walk.back.items c.walk.time
    c.walk.tokens _ c.rules.ensures c.requires.on_policy c.walk.invariant.walked
    (omega (arith, c.requires.count, c.walk-test.true)) (rw item at c.if-at-start.true) (c.reverse.ensures.items ∙ ap reverse c.in_ok-push.ensures.items)
    (rw item refl) (rw item refl)

pub walk-preserved : goal.walk-preserved
walk-preserved c =
    let net = c.args.net.now in
    let π = policy_of c.args.policy.now in
    let item = c.place_into-place.ensures in
    rw (item, c.in_ok-push.ensures.items)
    (record {
      walked = walked_more net π c.args.start c.walk._step c.walk.at c.walk.back.items c.walk.time c.walk.tokens c.walk.invariant.walked (rw item at c.if-at-start.false);
      on_policy = on_back net π c.walk.at c.walk.invariant.on_policy;
    })

pub returns-then-at-start-2-clause-none : goal.returns-then-at-start-2-clause-none
returns-then-at-start-2-clause-none c =
    walked_below c.args.net.now (policy_of c.args.policy.now) c.args.start c.walk._step c.walk.at c.walk.back.items c.walk.time
    c.walk.tokens (length c.args.policy.now) c.walk.invariant.walked (rw c.place_into-place.ensures at c.if-at-start-2.true)

pub returns-clause-none : goal.returns-clause-none
returns-clause-none c = λ k some few e. absurd (c.walk.invariant.walked.not_yet k some (omega (arith, c.walk-test.false, few)) e)
