use Rattle.std.proofs.Common.{◌+◌, ◌∙◌, ap, arith, length}
use Rattle.series_laws.proofs.FormValues.{table_length}
use Rattle.series_form.specs.SeriesLimits.{greatest_listed, greatest_value_ahead, greatest_moderate, greatest_part_product}
use Rattle.series_form.proofs.Finished.{up_to_more}
use Rattle.series_ops.specs.ListFunctions.{value_listed}
use Rattle.series_ops.specs.Pieces.{window}
use Rattle.series_ops.proofs.FirstValues.{all_more}
use Rattle.series_ops.proofs.PieceLaws.{none_begun, places_more}
use Rattle.series_ops.proofs.pieces.sums_by_places.Goals as goal

pub loop-place-init : goal.loop-place-init
loop-place-init c = none_begun (value_listed c.args.first.now) (value_listed c.args.second.now) c.args.from (length c.args.second.now) c.in_ok-sums.sums.items c.in_ok-sums.ensures

pub joined-requires : goal.joined-requires
joined-requires c = record {
  size = ap length (c.as_slice.ensures.value ∙ c.loop-place.invariant)
      ∙ table_length (window (value_listed c.args.first.now) (value_listed c.args.second.now) c.args.from c.loop-place.place) (length c.args.second.now);
  date = up_to_more greatest_value_ahead greatest_part_product _ (omega arith) (c.requires.first (c.args.from + c.loop-place.place));
  others = all_more greatest_listed greatest_moderate c.args.second.now (omega arith) c.requires.second;
}

pub loop-place-preserved : goal.loop-place-preserved
loop-place-preserved c = places_more c.args.first.now c.args.second.now c.as_slice.result.now c.in_ok-next.next.items c.args.from c.loop-place.place
    (c.as_slice.ensures.value ∙ c.loop-place.invariant) c.in_ok-next.ensures
