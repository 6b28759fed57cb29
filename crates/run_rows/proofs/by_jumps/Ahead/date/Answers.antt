use Rattle.std.proofs.Common.{◌+◌, ◌-◌, ◌≡◌, length, ap, ◌∙◌, arith}
use Rattle.run_rows.proofs.GoneOn.{earliest, is}
use Rattle.run_rows.proofs.Joining.{late_tell}
use Rattle.run_rows.proofs.by_jumps.Ahead.date.Goals as goal

pub returns-then-number-after : goal.returns-then-number-after
returns-then-number-after c =
    let of = c.args.ranked.now in
    let net = of.net.now in
    let own = is net c.rules.ensures of.live.now of.stands in
    let told = c.requires.ahead in
    let reached = c.args.self.now.reached in (
      earliest net of.live.now,
      own,
      c.date.ensures.value ∙ late_tell (length net.transitions) (earliest net of.live.now) of.most reached.after reached.runs.runs (told.reached.late (earliest net of.live.now) own)
          c.args.transition.index c.args.number c.requires.transition c.requires.first (omega (arith, told.few, of.one)) c.if-number-after.true,
    )

pub returns-then-row-count : goal.returns-then-row-count
returns-then-row-count c =
    let of = c.args.ranked.now in
    let net = of.net.now in
    let own = is net c.rules.ensures of.live.now of.stands in
    let told = c.requires.ahead in
    let after = c.args.self.now.reached.after in
    let past = c.if-number-after.false in
    let back : after + (c.args.number - after) ≡ c.args.number = omega (arith, past) in (
      earliest net of.live.now,
      own,
      c.date-then-row-count.ensures
          ∙ (told.rows.same (earliest net of.live.now) own c.args.transition.index (c.args.number - after) c.requires.transition (omega (arith, past)) (omega (arith, past, c.if-row-count.true))
          ∙ ap (earliest net of.live.now c.args.transition.index) back),
    )
