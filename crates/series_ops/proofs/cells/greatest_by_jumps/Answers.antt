use Rattle.std.proofs.Common.{◌≡◌, ◌<◌, ◌-◌, ℕ, ℤ, subst, arith, length, get_or, to_z}
use Rattle.std.specs.Int.{w128}
use Rattle.std.proofs.lemmas.Int.{to_z-of_z}
use Rattle.series_ops.proofs.JumpLaws.{IsFound, found_first, found_jump, found_other, found_all}
use Rattle.series_ops.proofs.ScaleLaws.{part_code, part_fits}
use Rattle.series_ops.proofs.Scales.{long_scale}
use Rattle.series_ops.proofs.cells.greatest_by_jumps.Goals as goal
use Rattle.series_ops.proofs.cells.greatest_by_jumps.Goals.{then-at-place+then-place-at, else-at-place, else-at-place-via-then-at-place+else-place-at, else-at-place-via-else-at-place}

pub loop-index-init : goal.loop-index-init
loop-index-init c =
    let at = c.args.at in
    let inside = c.requires.at.first in
    let splits = c.requires.at.splits in
    let below = c.requires.at.second in
    let some = c.requires.some in
    found_first c.args.first.now c.args.second.now c.args.jumps.now at.shift at.from at.count _ some
    (part_code long_scale c.args.first.now c.args.second.now at.shift at.from c.requires.cells c.requires.others (omega arith) (omega arith))

pub overflow_add-first : goal.overflow_add-first
overflow_add-first c =
    let at = c.args.at in
    let inside = c.requires.at.first in
    let splits = c.requires.at.splits in
    let below = c.requires.at.second in
    let i : ℕ = get_or c.args.jumps.now c.loop-index.index 0 in
    let low : at.from < i = c.if-at-place.true in
    let high : i - at.from < at.count = c.if-place-at.true in
    part_fits long_scale c.args.first.now c.args.second.now at.shift i c.requires.cells c.requires.others (omega arith) (omega arith)

pub loop-index-preserved : goal.loop-index-preserved
loop-index-preserved c =
    let at = c.args.at in
    let inside = c.requires.at.first in
    let splits = c.requires.at.splits in
    let below = c.requires.at.second in
    let n = c.loop-index.index in
    let i : ℕ = get_or c.args.jumps.now c.loop-index.index 0 in
    elim c.if-at-place.branch [
      | then-at-place+then-place-at w ↦
          let low : at.from < i = w.if-at-place.true in
          let high : i - at.from < at.count = w.if-place-at.true in
          rw w.best-is (found_jump c.args.first.now c.args.second.now c.args.jumps.now at.shift at.from at.count
          _ _ w.max-best.result _ n c.loop-index.invariant low (omega arith)
          (part_code long_scale c.args.first.now c.args.second.now at.shift i c.requires.cells c.requires.others (omega arith) (omega arith))
          w.max-best.ensures.value (to_z-of_z w128 w.max-best.result (record { sfits = w.max-best.type_inv })))
      | else-at-place w ↦
          rw w.best-is (found_other c.args.first.now c.args.second.now c.args.jumps.now at.shift at.from at.count _ n c.loop-index.invariant (λ low high.
          elim w.else-at-place.branch [
            | else-at-place-via-then-at-place+else-place-at v ↦ let no = v.if-place-at.false in omega arith
            | else-at-place-via-else-at-place v ↦ let no = v.if-at-place.false in omega arith
          ]))
    ]

pub returns : goal.returns
returns c =
    let at = c.args.at in
    let best : ℤ = to_z w128 c.loop-index.best-bits in
    let end : c.loop-index.index ≡ length c.args.jumps.now = omega (arith, c.loop-index-test.false, c.loop-index.auto.index-end) in
    found_all c.args.first.now c.args.second.now c.args.jumps.now at.shift at.from at.count best
    c.requires.at.first c.requires.at.splits c.requires.at.second c.requires.some c.requires.jumps c.requires.rising
    (subst (λ (z : ℕ). IsFound c.args.first.now c.args.second.now c.args.jumps.now at.shift at.from at.count best z) end c.loop-index.invariant)
