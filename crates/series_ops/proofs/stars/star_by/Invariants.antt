use Rattle.std.proofs.Common.{◌≡◌, ◌+◌}
use Rattle.series_laws.specs.SeriesForms.{form_with, repeat_start, table, value_at}
use Rattle.series_ops.specs.Pieces.{IsPieceBegun}
use Rattle.series_ops.specs.Splits.{tail_product}
use Rattle.series_laws.specs.StarOf.{parts_star}
use Rattle.series_ops.proofs.stars.star_by.Given as goal

abbrev pub invariant-loop-shift : goal.invariant-loop-shift
invariant-loop-shift l = (l.cells ≡ table (parts_star (value_at l.first)) (l.shift + 1))
    × (l.tails.items ≡ table (tail_product (form_with l.rest l.first.period l.first.step) (parts_star (value_at l.first))) l.shift)
    × IsPieceBegun l.begun.count l.begun.sums.items l.rest l.cells (repeat_start l.first)
