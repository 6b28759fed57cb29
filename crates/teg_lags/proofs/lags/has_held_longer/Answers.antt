use Rattle.std.proofs.Common.{◌≤◌, ◌≡◌, All, length, true, false, refl, subst, sym, to_z, of_z}
use Rattle.std.specs.Int.{w128}
use Rattle.std.proofs.lemmas.Bool.{false≢true, iff_false}
use Rattle.std.proofs.lemmas.Int.{to_z-of_z}
use Rattle.std.proofs.lemmas.List.{take_all}
use Rattle.teg_net.specs.Circuits.{place_at}
use Rattle.teg_lags.specs.Lags.{HasHeldLonger, IsHeldLonger}
use Rattle.teg_lags.proofs.Lagged.{none_longer, none_more_longer, one_longer}
use Rattle.teg_lags.proofs.lags.has_held_longer.Goals as goal

pub place_of-requires : goal.place_of-requires
place_of-requires c = c.requires c.loop-other.other-index _ c.loop-other-test.true

pub loop-other-preserved : goal.loop-other-preserved
loop-other-preserved c =
    none_more_longer c.args.net.now (to_z w128 (of_z w128 c.args.lag)) c.args.others.now c.loop-other.other-index _ c.args.place.now c.place_of.result.now c.loop-other-test.true
    c.place_of.ensures (iff_false c.is_held_longer.ensures c.if-is_held_longer.false) c.loop-other.invariant

pub returns-then-is_held_longer : goal.returns-then-is_held_longer
returns-then-is_held_longer c =
    let known : to_z w128 (of_z w128 c.args.lag) ≡ c.args.lag = to_z-of_z w128 c.args.lag (record { sfits = c.ranges.lag.sfits }) in (
      λ yes. subst (λ z. HasHeldLonger c.args.net.now z c.args.others.now c.args.place.now) known
          (one_longer c.args.net.now (to_z w128 (of_z w128 c.args.lag)) c.args.others.now c.loop-other.other-index _ c.args.place.now c.place_of.result.now c.loop-other-test.true
          c.place_of.ensures (c.is_held_longer.ensures.0 c.if-is_held_longer.true)),
      λ has. refl,
    )

pub returns : goal.returns
returns c =
    let net = c.args.net.now in
    let lag = to_z w128 (of_z w128 c.args.lag) in
    let others = c.args.others.now in
    let place = c.args.place.now in
    let low : length others ≤ c.loop-other.other-index = c.loop-other-test.false in
    let known : to_z w128 (of_z w128 c.args.lag) ≡ c.args.lag = to_z-of_z w128 c.args.lag (record { sfits = c.ranges.lag.sfits }) in
    let none = subst (All (λ q. IsHeldLonger (to_z w128 (of_z w128 c.args.lag)) c.args.place.now (place_at c.args.net.now q) → ⊥)) (take_all c.loop-other.other-index others low)
    c.loop-other.invariant in (
      λ (e : false ≡ true). absurd (false≢true e),
      λ has. absurd (none_longer net lag others place none (subst (λ z. HasHeldLonger c.args.net.now z c.args.others.now c.args.place.now) (sym known) has)),
    )
