use Rattle.std.proofs.Common.{◌≡◌, ◌≤◌, ◌+◌, ◌∙◌, [], ◌∷◌, ap, arith, length}
use Rattle.std.proofs.lemmas.List.{length-append}
use Rattle.series_laws.specs.SeriesForms.{size_of, repeat_start, value_at}
use Rattle.series_laws.proofs.FormValues.{table_length}
use Rattle.series_ops.specs.ListFunctions.{value_listed}
use Rattle.series_ops.proofs.LeftValues.{long_table_up_to}
use Rattle.series_ops.proofs.StrideLaws.{core_listed, core_pushed}
use Rattle.series_ops.proofs.strides.core_by.Goals as goal

pub core_date-requires-clause-values : goal.core_date-requires-clause-values
core_date-requires-clause-values c =
    let f = c.args.first.now in
    let short : size_of f ≤ 20000 = c.start.ensures.series.short in
    long_table_up_to f (repeat_start f + size_of f) c.args.values.now c.start.ensures.series (omega arith) c.requires.values

pub core_date-requires-clause-place : goal.core_date-requires-clause-place
core_date-requires-clause-place c =
    let f = c.args.first.now in
    let size : length c.args.values.now ≡ repeat_start f + size_of f = ap length c.requires.values ∙ table_length (value_at f) (repeat_start f + size_of f) in
    let more = c.loop-place-test.true in
    let start = c.start.ensures.value in
    let short = c.requires.stride.short in
    omega arith

pub loop-place-preserved : goal.loop-place-preserved
loop-place-preserved c =
    let size = c.loop-place.invariant.0 in (
      ap length c.in_ok-push.ensures ∙ length-append c.loop-place.cells (c.core_date.result ∷ []) ∙ ap (λ z. z + 1) size,
      core_pushed (value_listed c.args.values.now) c.args.stride c.loop-place.cells c.push.new.self c.loop-place.place c.core_date.result
          size c.in_ok-push.ensures c.loop-place.invariant.1 c.core_date.ensures.value,
    )

pub returns : goal.returns
returns c =
    let f = c.args.first.now in
    let start = c.start.ensures.value in
    let last : c.loop-place.place ≡ repeat_start f + c.args.stride.shifts = omega (arith, c.loop-place-test.false, c.loop-place.auto.place-end) in
    core_listed f c.args.stride c.args.values.now c.loop-place.cells c.requires.stride c.requires.values
    (c.loop-place.invariant.0 ∙ last) (rw (← last) c.loop-place.invariant.1)
