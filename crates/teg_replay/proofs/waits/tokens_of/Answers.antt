use Rattle.std.proofs.Common.{get_or, sym, ◌∙◌, arith}
use Rattle.std.proofs.lemmas.List.{get_or_default}
use Rattle.teg_net.specs.declared.entries.PlaceId.{PlaceId}
use Rattle.teg_replay.proofs.Latest.{no_id, latest_more, latest_of, late_at}
use Rattle.teg_replay.proofs.waits.tokens_of.Goals as goal

pub returns-then-from-date-clause-late : goal.returns-then-from-date-clause-late
returns-then-from-date-clause-late c =
    late_at c.args.net.now c.args.history.now.run c.args.fired c.args.number c.args.ids.now c.loop-id.id-index c.loop-id.latest _ c.loop-id.invariant c.loop-id-test.true
    (sym c.in-Some.is ∙ c.token_date.ensures) (λ h. omega (arith, h, c.if-from-date.true, c.from.ensures))

pub returns-in-None-clause-late : goal.returns-in-None-clause-late
returns-in-None-clause-late c =
    late_at c.args.net.now c.args.history.now.run c.args.fired c.args.number c.args.ids.now c.loop-id.id-index c.loop-id.latest _ c.loop-id.invariant c.loop-id-test.true
    (sym c.in-None.is ∙ c.token_date.ensures) (λ h. h)

pub returns-clause-latest : goal.returns-clause-latest
returns-clause-latest c =
    latest_of c.args.net.now c.args.history.now.run c.args.fired c.args.number c.args.ids.now c.loop-id.id-index c.loop-id.latest c.loop-id.invariant (omega (arith, c.loop-id-test.false))

pub loop-id-preserved : goal.loop-id-preserved
loop-id-preserved c =
    let net = c.args.net.now in
    let ids = c.args.ids.now in
    let i = c.loop-id.id-index in
    let l = c.loop-id-test.true in
    let id : PlaceId = get_or ids i no_id in
    let there = sym c.in-Some.is ∙ c.token_date.ensures in
    rw c.max-latest.ensures
    (latest_more net c.args.history.now.run c.args.fired c.args.number ids i c.loop-id.latest c.in-Some.date id c.requires.known c.requires.right c.loop-id.invariant l
    (λ d. get_or_default ids i d no_id l) there (omega (arith, c.if-from-date.false, c.from.ensures)))
