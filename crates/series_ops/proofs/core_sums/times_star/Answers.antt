use Rattle.std.proofs.Common.{◌+◌, ◌∙◌, [], ◌∷◌, ap, sym, subst, arith, length}
use Rattle.std.proofs.lemmas.List.{length-append}
use Rattle.dioid.specs.declared.dates.Date.{Date}
use Rattle.series_form.specs.NumberBounds.{IsMagnitudeUpTo}
use Rattle.series_form.specs.SeriesLimits.{greatest_listed}
use Rattle.series_ops.specs.ListFunctions.{value_listed}
use Rattle.series_ops.specs.Strides.{star_sum_at}
use Rattle.series_ops.proofs.StrideSums.{star_sums_pushed, star_sum_up_to}
use Rattle.series_ops.proofs.core_sums.times_star.Goals as goal

pub push-requires : goal.push-requires
push-requires c =
    let x = c.args.stride.gain in
    let n = c.args.stride.shifts in
    let more = c.loop-place-test.true in
    let short = c.requires.short in
    subst (λ (z : Date). IsMagnitudeUpTo greatest_listed z)
    (sym (c.next_starred-next.ensures ∙ ap (star_sum_at (value_listed c.args.list.now) (value_listed c.loop-place.values) n x) c.loop-place.invariant.0))
    (star_sum_up_to (value_listed c.args.list.now) (value_listed c.loop-place.values) n x c.requires.shifts c.requires.gain c.requires.list c.loop-place._place (omega arith) c.loop-place.invariant.1)

pub loop-place-preserved : goal.loop-place-preserved
loop-place-preserved c =
    let x = c.args.stride.gain in
    let n = c.args.stride.shifts in
    let size = c.loop-place.invariant.0 in (
      ap length c.in_ok-push.ensures ∙ length-append c.loop-place.values (c.next_starred-next.result ∷ []) ∙ ap (λ z. z + 1) size,
      star_sums_pushed (value_listed c.args.list.now) c.loop-place.values c.push.new.self n c.loop-place._place x c.next_starred-next.result c.requires.shifts size c.in_ok-push.ensures
          (c.next_starred-next.ensures ∙ ap (star_sum_at (value_listed c.args.list.now) (value_listed c.loop-place.values) n x) size)
          c.loop-place.invariant.1,
    )
