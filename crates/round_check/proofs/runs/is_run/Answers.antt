use Rattle.std.proofs.Common.{◌+◌, ◌<◌, ◌-◌, length, sym, subst, arith, rules}
use Rattle.round_check.specs.Rounds.{Stands}
use Rattle.policy_rounds.specs.PolicyRounds.{IsLastRound}
use Rattle.round_check.proofs.Stepping.{begun_run, run_begun}
use Rattle.round_check.proofs.runs.is_run.Goals as goal

pub is_last-requires : goal.is_last-requires
is_last-requires c =
    let part = c.args.part.now in
    let d = c.round_at.result.now in
    let some : 0 < length c.args.rounds.now = search rules in
    subst (Stands part.net.now part.parts.now part.number) (sym (c.round_at.ensures d))
    (c.in_ok-begun.ensures.begun.stand (length c.args.rounds.now - 1) d (omega (arith, some, c.if-begun-rounds.false)))

pub returns-clause-sure : goal.returns-clause-sure
returns-clause-sure c =
    let part = c.args.part.now in
    let some : 0 < length c.args.rounds.now = search rules in
    λ yes. run_begun part.net.now part.parts.now part.number c.args.rounds.now c.in_ok-begun.begun c.round_at.result.now some (omega (arith, c.if-begun-rounds.false)) c.round_at.ensures
    c.in_ok-begun.ensures.begun.begun (c.in_ok-is_ended.ensures.0 yes)

pub returns-then-begun-rounds-clause-all : goal.returns-then-begun-rounds-clause-all
returns-then-begun-rounds-clause-all c = λ live h.
    let part = c.args.part.now in
    absurd (c.in_ok-begun.ensures.all live c.if-begun-rounds.true
    (begun_run part.net.now part.parts.now part.number c.args.rounds.now (c.in_ok-begun.begun + 1) (omega (arith, c.if-begun-rounds.true)) h.run))

pub returns-clause-all : goal.returns-clause-all
returns-clause-all c = λ live h.
    let part = c.args.part.now in
    let d = c.round_at.result.now in
    c.in_ok-is_ended.ensures.1 (subst (IsLastRound part.net.now part.parts.now part.number) (sym (c.round_at.ensures d)) (h.last d))
