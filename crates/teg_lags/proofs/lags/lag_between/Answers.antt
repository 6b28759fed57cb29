use Rattle.std.proofs.Common.{◌≡◌, ◌-ℤ◌, pos, refl, rules, to_z, of_z}
use Rattle.std.specs.Int.{w128}
use Rattle.std.proofs.lemmas.Int.{to_z-of_z}
use mir.Val.{SFits}
use Rattle.std.proofs.lemmas.Bool.{iff_false}
use Rattle.teg_lags.proofs.Lagged.{led_by_least, lists_lagged, small_lag}
use Rattle.teg_lags.proofs.lags.lag_between.Goals as goal
use Rattle.teg_lags.proofs.lags.lag_between.Goals.{else-lead_longer-via-then-lead_longer+else-lead_longer-2, else-lead_longer-via-else-lead_longer}

pub returns-then-lead_longer-2-clause-lagged : goal.returns-then-lead_longer-2-clause-lagged
returns-then-lead_longer-2-clause-lagged c =
    let lag = c.longer_by-lag.result in
    let fits : SFits w128 lag = search rules in
    let known : to_z w128 (of_z w128 lag) ≡ lag = to_z-of_z w128 lag fits in
    let minus : to_z w128 (of_z w128 (pos 0 -ℤ lag)) ≡ pos 0 -ℤ lag = to_z-of_z w128 (pos 0 -ℤ lag) (record { sfits = c.longer_by-lag.ensures.back.sfits }) in
    let there = rw known at (c.lead_longer.ensures.0 c.if-lead_longer.true) in
    let back = rw (known, minus) at (c.lead_longer-then-lead_longer.ensures.0 c.if-lead_longer-2.true) in
    rw known (lists_lagged c.args.net.now c.args.leaving.now c.args.first.index c.args.other.index lag c.of-firsts.result.now c.of-others.result.now
    c.requires.leaving c.requires.first c.requires.other
    c.of-firsts.ensures c.of-others.ensures there back)

pub returns-then-lead_longer-2-clause-small : goal.returns-then-lead_longer-2-clause-small
returns-then-lead_longer-2-clause-small c =
    let lag = c.longer_by-lag.result in
    let fits : SFits w128 lag = search rules in
    let known : to_z w128 (of_z w128 lag) ≡ lag = to_z-of_z w128 lag fits in
    rw known (small_lag c.least_hold.result c.least_hold-2.result lag c.longer_by-lag.ensures.value c.least_hold.ensures.small c.least_hold-2.ensures.small)

pub returns-then-lead_longer-2-clause-none : goal.returns-then-lead_longer-2-clause-none
returns-then-lead_longer-2-clause-none c =
    let lag = c.longer_by-lag.result in
    let fits : SFits w128 lag = search rules in
    let known : to_z w128 (of_z w128 lag) ≡ lag = to_z-of_z w128 lag fits in
    let minus : to_z w128 (of_z w128 (pos 0 -ℤ lag)) ≡ pos 0 -ℤ lag = to_z-of_z w128 (pos 0 -ℤ lag) (record { sfits = c.longer_by-lag.ensures.back.sfits }) in
    let there = rw known at (c.lead_longer.ensures.0 c.if-lead_longer.true) in
    let back = rw (known, minus) at (c.lead_longer-then-lead_longer.ensures.0 c.if-lead_longer-2.true) in (
      λ e. absurd (cc),
      λ none. absurd (none lag (lists_lagged c.args.net.now c.args.leaving.now c.args.first.index c.args.other.index lag c.of-firsts.result.now c.of-others.result.now
          c.requires.leaving c.requires.first c.requires.other
          c.of-firsts.ensures c.of-others.ensures there back)),
    )

pub returns-else-lead_longer-clause-none : goal.returns-else-lead_longer-clause-none
returns-else-lead_longer-clause-none c =
    let z = c.longer_by-lag.result in
    let fits : SFits w128 z = search rules in
    let known : to_z w128 (of_z w128 z) ≡ z = to_z-of_z w128 z fits in
    let minus : to_z w128 (of_z w128 (pos 0 -ℤ z)) ≡ pos 0 -ℤ z = to_z-of_z w128 (pos 0 -ℤ z) (record { sfits = c.longer_by-lag.ensures.back.sfits }) in (
      λ e lag lagged.
          let led = led_by_least c.args.net.now c.rules.ensures c.args.leaving.now c.args.first.index c.args.other.index lag z c.of-firsts.result.now c.of-others.result.now
          c.least_hold.result c.least_hold-2.result
          c.requires.leaving c.requires.first c.requires.other c.of-firsts.ensures c.of-others.ensures c.least_hold.ensures.least c.least_hold-2.ensures.least
          c.least_hold.ensures.attained c.least_hold-2.ensures.attained c.longer_by-lag.ensures.value lagged in
          elim c.else-lead_longer.branch [
            | else-lead_longer-via-then-lead_longer+else-lead_longer-2 w ↦ absurd (iff_false w.lead_longer-then-lead_longer.ensures w.if-lead_longer-2.false (rw (known, minus) led.1))
            | else-lead_longer-via-else-lead_longer w ↦ absurd (iff_false c.lead_longer.ensures w.if-lead_longer.false (rw known led.0))
          ],
      λ none. refl,
    )
