use Rattle.std.proofs.Common.{◌+◌, ◌-◌, length, sym, subst, arith}
use Rattle.std.proofs.lemmas.Bool.{iff_false}
use Rattle.policy_rounds.specs.PolicyRounds.{IsFirstRound}
use Rattle.round_check.specs.Rounds.{Stands}
use Rattle.round_check.proofs.Stepping.{fewer_begun, more_begun, next_begun, none_begun, one_begun}
use Rattle.round_check.proofs.Exactly.{begun_stand}
use Rattle.round_check.proofs.runs.rounds_begun.Goals as goal

pub returns-then-rounds-eq0-clause-begun : goal.returns-then-rounds-eq0-clause-begun
returns-then-rounds-eq0-clause-begun c = let part = c.args.part.now in none_begun part.net.now part.parts.now part.number c.args.rounds.now

pub returns-then-not-is_begun-clause-begun : goal.returns-then-not-is_begun-clause-begun
returns-then-not-is_begun-clause-begun c = let part = c.args.part.now in none_begun part.net.now part.parts.now part.number c.args.rounds.now

pub returns-then-not-is_begun-clause-all : goal.returns-then-not-is_begun-clause-all
returns-then-not-is_begun-clause-all c = λ live l h.
    let part = c.args.part.now in
    let d = c.round_at.result.now in
    let first = subst (IsFirstRound part.net.now part.parts.now part.number) (sym (c.round_at.ensures d)) (h.first d (omega arith)) in
    let stands = subst (Stands part.net.now part.parts.now part.number) (sym (c.round_at.ensures d))
    (begun_stand part.net.now part.parts.now part.number c.rules.ensures live part.count c.args.rounds.now 1 (omega (arith, l)) h 0 d (omega arith)) in
    iff_false c.in_ok-is_begun.ensures c.if-not-is_begun.true (stands, first)

pub loop-next-init : goal.loop-next-init
loop-next-init c =
    let part = c.args.part.now in
    let is = c.in_ok-is_begun.ensures.0 c.if-not-is_begun.false in
    one_begun part.net.now part.parts.now part.number c.args.rounds.now c.round_at.result.now c.round_at.ensures is.0 is.1

pub goes_on-requires : goal.goes_on-requires
goes_on-requires c =
    let part = c.args.part.now in
    let d = c.round_at-in-loop-next.result.now in
    subst (Stands part.net.now part.parts.now part.number) (sym (c.round_at-in-loop-next.ensures d)) (c.loop-next.invariant.stand (c.loop-next.next - 1) d (omega (arith, c.loop-next.auto.next)))

pub loop-next-preserved : goal.loop-next-preserved
loop-next-preserved c =
    let part = c.args.part.now in
    let is = c.in_ok-is_next.ensures.0 c.if-not-is_next.false in
    more_begun part.net.now part.parts.now part.number c.args.rounds.now c.loop-next.next c.round_at-in-loop-next.result.now c.round_at-in-loop-next-2.result.now
    c.loop-next.auto.next c.loop-next.invariant c.round_at-in-loop-next.ensures c.round_at-in-loop-next-2.ensures is.0 is.1

pub returns-then-not-is_next-clause-begun : goal.returns-then-not-is_next-clause-begun
returns-then-not-is_next-clause-begun c = c.loop-next.invariant

pub returns-then-not-is_next-clause-all : goal.returns-then-not-is_next-clause-all
returns-then-not-is_next-clause-all c = λ live l h.
    let part = c.args.part.now in
    let net = part.net.now in
    let rounds = c.args.rounds.now in
    let i = c.loop-next.next in
    let stands = subst (Stands net part.parts.now part.number) (sym (c.round_at-in-loop-next-2.ensures c.round_at-in-loop-next.result.now))
    (begun_stand net part.parts.now part.number c.rules.ensures live part.count rounds (i + 1) (omega (arith, l)) h i c.round_at-in-loop-next.result.now (omega arith)) in
    iff_false c.in_ok-is_next.ensures c.if-not-is_next.true
    (stands, next_begun net part.parts.now part.number rounds i c.round_at-in-loop-next.result.now c.round_at-in-loop-next-2.result.now c.loop-next.auto.next h c.round_at-in-loop-next.ensures c.round_at-in-loop-next-2.ensures)

pub returns-clause-begun : goal.returns-clause-begun
returns-clause-begun c =
    let part = c.args.part.now in
    fewer_begun part.net.now part.parts.now part.number c.args.rounds.now c.loop-next.next (length c.args.rounds.now) (omega (arith, c.loop-next-test.false)) c.loop-next.invariant
