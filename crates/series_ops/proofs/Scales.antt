-- The numbers of sixteen and of eight bytes that stand for dates.
use Rattle.std.proofs.Common.{◌≤◌, ◌+◌, pos, arith}
use Rattle.std.specs.Int.{w64, w128}
use Rattle.std.specs.Int.RustNames.{unsigned_abs}
use Rattle.std.proofs.lemmas.Int.{ints, fits_signed_from_abs}
use Rattle.series_form.specs.SeriesLimits.{greatest_listed, greatest_reach}
use Rattle.series_form.proofs.DateNumbers.{abs_difference}
use Rattle.series_ops.specs.Cells.{far, never_cell, early_cell, short_far, greatest_short, early_short, never_short}
use Rattle.series_ops.proofs.ScaleLaws.{IsScale}

-- in sixteen bytes
pub long_scale : IsScale far greatest_listed greatest_reach early_cell never_cell w128
long_scale = record {
  sums = omega arith;
  early_low = omega (arith, ints);
  early_never = omega (arith, ints);
  never_high = omega (arith, ints);
  early_top = let w : unsigned_abs early_cell ≤ 0 + greatest_reach = abs_difference (pos 0) (pos greatest_reach) 0 greatest_reach (omega arith) (omega arith) in omega arith;
  never_top = omega arith;
  bound_top = omega arith;
  fits = λ z h. fits_signed_from_abs w128 z (omega arith);
}

-- in eight bytes
pub short_scale : IsScale short_far greatest_short 4600000000000000000 early_short never_short w64
short_scale = record {
  sums = omega arith;
  early_low = omega (arith, ints);
  early_never = omega (arith, ints);
  never_high = omega (arith, ints);
  early_top = let w : unsigned_abs early_short ≤ 0 + 4600000000000000000 = abs_difference (pos 0) (pos 4600000000000000000) 0 4600000000000000000 (omega arith) (omega arith) in omega arith;
  never_top = omega arith;
  bound_top = omega arith;
  fits = λ z h. fits_signed_from_abs w64 z (omega arith);
}
