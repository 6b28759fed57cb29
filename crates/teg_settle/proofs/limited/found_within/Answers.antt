use Rattle.std.proofs.Common.{◌≡◌, ap, refl, arith}
use Rattle.date_rows.specs.DateTables.{TableDates}
use Rattle.teg_settle.proofs.Limiting.{past_unseen, past_seen}
use Rattle.teg_settle.proofs.limited.found_within.Goals as goal

pub returns-then-form-from-clause-too_long : goal.returns-then-form-from-clause-too_long
returns-then-form-from-clause-too_long c =
    let seen = rw c.in-Some.is at c.in_ok-searched.ensures.shown in (
      refl,
      past_seen c.args.asked.now.net.now c.args.asked.now.releases.now c.args.asked.now.most c.args.limit c.in_ok-searched.searched.rows c.in-Some.form
          c.requires.asked.ready seen (omega (arith, c.if-form-from.true, c.from-in-Some.ensures)),
    )

pub returns-in-None-clause-too_long : goal.returns-in-None-clause-too_long
returns-in-None-clause-too_long c =
    let unseen = rw c.in-None.is at c.in_ok-searched.ensures.shown in
    let ready = c.requires.asked.ready in
    let count = c.in_ok-searched.searched.rows.count in
    let zero : c.new.result.count ≡ 0 = ap (λ (r : TableDates). r.count) c.new.ensures.none in
    let some = ready.some in
    let all = unseen.all in
    let whole = unseen.within (omega (arith, zero)) in (
      refl,
      past_unseen c.args.asked.now.net.now c.args.asked.now.releases.now c.args.asked.now.most c.args.limit count ready
          (omega (arith, all, whole, c.from.ensures)) (unseen.refuted (omega (arith, zero, all, some))),
    )
