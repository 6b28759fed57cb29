use Rattle.std.proofs.Common.{◌≤◌, ◌≡◌, All, length, true, false, refl, subst, sym, to_z, of_z}
use Rattle.std.specs.Int.{w128}
use Rattle.std.proofs.lemmas.Bool.{false≢true, iff_false}
use Rattle.std.proofs.lemmas.Int.{to_z-of_z}
use Rattle.std.proofs.lemmas.List.{take_all}
use Rattle.teg_net.specs.Circuits.{place_at}
use Rattle.teg_lags.specs.Lags.{HasHeldLonger}
use Rattle.teg_lags.proofs.Lagged.{one_place_more}
use Rattle.teg_lags.proofs.lags.lead_longer.Goals as goal

pub place_of-requires : goal.place_of-requires
place_of-requires c = c.requires.firsts c.loop-first.first-index _ c.loop-first-test.true

pub loop-first-preserved : goal.loop-first-preserved
loop-first-preserved c =
    let others = c.args.others.now in
    let lag = to_z w128 (of_z w128 c.args.lag) in
    let here = subst (HasHeldLonger c.args.net.now lag others) c.place_of.ensures (c.has_held_longer.ensures.0 c.if-not-has_held_longer.false) in
    one_place_more c.args.net.now lag others c.args.firsts.now c.loop-first.first-index _ c.loop-first-test.true here c.loop-first.invariant

pub returns-then-not-has_held_longer : goal.returns-then-not-has_held_longer
returns-then-not-has_held_longer c =
    let known : to_z w128 (of_z w128 c.args.lag) ≡ c.args.lag = to_z-of_z w128 c.args.lag (record { sfits = c.ranges.lag.sfits }) in (
      λ (e : false ≡ true). absurd (false≢true e),
      λ all. absurd (iff_false c.has_held_longer.ensures c.if-not-has_held_longer.true
          (subst (λ z. HasHeldLonger c.args.net.now z c.args.others.now c.place_of.result.now) (sym known)
          (subst (HasHeldLonger c.args.net.now c.args.lag c.args.others.now) (sym c.place_of.ensures) (all c.loop-first.first-index _ c.loop-first-test.true)))),
    )

pub returns : goal.returns
returns c =
    let firsts = c.args.firsts.now in
    let low : length firsts ≤ c.loop-first.first-index = c.loop-first-test.false in
    let known : to_z w128 (of_z w128 c.args.lag) ≡ c.args.lag = to_z-of_z w128 c.args.lag (record { sfits = c.ranges.lag.sfits }) in
    let all = subst (All (λ p. HasHeldLonger c.args.net.now (to_z w128 (of_z w128 c.args.lag)) c.args.others.now (place_at c.args.net.now p)))
    (take_all c.loop-first.first-index firsts low) c.loop-first.invariant in (
      λ yes. subst (λ z. All (λ p. HasHeldLonger c.args.net.now z c.args.others.now (place_at c.args.net.now p)) firsts) known all,
      λ led. refl,
    )
