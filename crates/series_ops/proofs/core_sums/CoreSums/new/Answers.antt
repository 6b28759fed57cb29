use Rattle.std.proofs.Common.{◌≡◌, refl, ap, arith, length}
use Rattle.series_laws.specs.SeriesForms.{size_of}
use Rattle.series_ops.proofs.StrideLaws.{core_early, core_up_to}
use Rattle.series_ops.proofs.core_sums.CoreSums.new.Goals as goal

pub places_begun-begun-requires : goal.places_begun-begun-requires
places_begun-begun-requires c =
    let size : length c.values.result.now ≡ size_of c.args.first.now = ap length c.values.ensures.value in
    let from = c.in_ok-found.ensures.is_stride.from in
    omega arith

pub invariant_of-result : goal.invariant_of-result
invariant_of-result c =
    let h = c.in_ok-found.ensures in
    let begun = c.places_begun-begun.ensures.within in
    let size = h.size in
    let start = h.is_stride.from in
    record {
      series = c.period-period.ensures.series;
      is_core = h;
      star = c.in_ok-by_star.ensures.sums;
      size = c.in_ok-by_star.ensures.size;
      begun = omega arith;
      early = core_early c.args.first.now c.in_ok-found.found.stride c.in_ok-found.found.cells c.values.result.now c.places_begun-begun.result
          h c.values.ensures.value begun c.places_begun-begun.ensures.early;
      tail = refl;
      turn = omega arith;
      head_sums = c.in_ok-head.ensures;
      rest_sums = c.in_ok-rest.ensures;
    }

pub sums_in_few_pieces-requires-clause-values : goal.sums_in_few_pieces-requires-clause-values
sums_in_few_pieces-requires-clause-values c = core_up_to c.args.first.now c.in_ok-found.found.stride c.in_ok-found.found.cells c.period-period.ensures.series c.in_ok-found.ensures

pub sums_in_few_pieces-requires-2-clause-values : goal.sums_in_few_pieces-requires-2-clause-values
sums_in_few_pieces-requires-2-clause-values c = core_up_to c.args.first.now c.in_ok-found.found.stride c.in_ok-found.found.cells c.period-period.ensures.series c.in_ok-found.ensures
