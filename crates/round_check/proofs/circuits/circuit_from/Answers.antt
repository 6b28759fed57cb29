use Rattle.std.proofs.Common.{◌≡◌, ◌≤◌, length, refl, arith}
use Rattle.teg_net.specs.Circuits.{no_place, place_at}
use Rattle.teg_net.specs.Limits.{most_place_tokens}
use Rattle.policy_rounds.specs.PolicyLists.{policy_of}
use Rattle.round_check.proofs.Walking.{walking_none, walking_more, walking_round, walking_below, walking_sums}
use Rattle.round_check.proofs.circuits.circuit_from.Goals as goal

pub walk-init : goal.walk-init
walk-init c = record {
  walking = walking_none c.args.part.now.net.now (policy_of c.args.policy.now) c.args.marked.now c.args.start;
  member = c.requires.member;
}

pub overflow_add-time : goal.overflow_add-time
overflow_add-time c =
    let part = c.args.part.now in
    let s = walking_sums part.net.now part.parts.now part.number (policy_of c.args.policy.now) c.requires.policy c.args.marked.now c.args.start c.requires.member
    c.walk._step c.walk.at c.walk.time c.walk.tokens c.walk.passes c.walk.invariant.walking c.rules.ensures
    (omega (arith, c.requires.count, part.count, c.walk-test.true)) in
    omega (arith, s.0)

pub overflow_add-tokens : goal.overflow_add-tokens
overflow_add-tokens c =
    let part = c.args.part.now in
    let s = walking_sums part.net.now part.parts.now part.number (policy_of c.args.policy.now) c.requires.policy c.args.marked.now c.args.start c.requires.member
    c.walk._step c.walk.at c.walk.time c.walk.tokens c.walk.passes c.walk.invariant.walking c.rules.ensures
    (omega (arith, c.requires.count, part.count, c.walk-test.true)) in
    let π = policy_of c.args.policy.now in
    let is = c.rules.ensures.each_place (π c.walk.at).index no_place (c.requires.policy c.walk.at c.walk.invariant.member).inside.in_range in
    let tokens : (place_at part.net.now (π c.walk.at)).tokens ≤ most_place_tokens = is.tokens_in in
    let read : c.from-tokens.result ≡ (place_at part.net.now (π c.walk.at)).tokens = rw c.place_into-place.ensures at c.from-tokens.ensures in
    omega (arith, s.1, tokens, read)

pub walk-preserved : goal.walk-preserved
walk-preserved c =
    let part = c.args.part.now in
    let item = c.place_into-place.ensures in
    rw (c.from-time.ensures, c.from-tokens.ensures, item)
    (record {
      walking = walking_more part.net.now part.parts.now part.number (policy_of c.args.policy.now) c.requires.policy c.args.marked.now c.args.start c.requires.member
          c.walk._step c.walk.at c.walk.time c.walk.tokens c.walk.passes c.walk.invariant.walking c.passes_now-passes.result c.passes_now-passes.ensures
          (rw item at c.if-at-start.false);
      member = (c.requires.policy c.walk.at c.walk.invariant.member).inside.from_member;
    })

pub returns-then-at-start-clause-some : goal.returns-then-at-start-clause-some
returns-then-at-start-clause-some c =
    let part = c.args.part.now in
    let item = c.place_into-place.ensures in
    walking_round part.net.now part.parts.now part.number (policy_of c.args.policy.now) c.requires.policy c.args.marked.now c.args.start c.requires.member
    c.walk._step c.walk.at c.walk.time c.walk.tokens c.walk.passes c.walk.invariant.walking
    c.passes_now-passes.result c.passes_now-passes.ensures c.rules.ensures (omega (arith, c.requires.count, part.count, c.walk-test.true))
    (rw item at c.if-at-start.true) _ (rw (c.from-time.ensures, item) refl) (rw (c.from-tokens.ensures, item) refl) refl

pub returns-then-at-start-2-clause-none : goal.returns-then-at-start-2-clause-none
returns-then-at-start-2-clause-none c =
    let part = c.args.part.now in
    let item = c.place_into-place.ensures in
    walking_below part.net.now part.parts.now part.number (policy_of c.args.policy.now) c.requires.policy c.args.marked.now c.args.start c.requires.member
    c.walk._step c.walk.at c.walk.time c.walk.tokens c.walk.passes c.walk.invariant.walking (rw item at c.if-at-start-2.true) (length c.args.policy.now)

pub returns-clause-none : goal.returns-clause-none
returns-clause-none c = λ k some few e. absurd (c.walk.invariant.walking.not_yet k some (omega (arith, c.walk-test.false, few)) e)
