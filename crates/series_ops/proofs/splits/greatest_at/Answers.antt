use Rattle.std.proofs.Common.{◌∙◌, ap, sym, subst, arith, length}
use Rattle.dioid.specs.declared.dates.Date.{Date}
use Rattle.series_form.specs.NumberBounds.{IsMagnitudeUpTo}
use Rattle.series_form.specs.SeriesLimits.{greatest_listed}
use Rattle.series_ops.specs.Cells.{far}
use Rattle.series_ops.specs.ListFunctions.{value_listed}
use Rattle.series_ops.specs.Pieces.{window}
use Rattle.series_ops.specs.Splits.{greatest_from, split_of}
use Rattle.series_ops.proofs.FirstValues.{listed_is}
use Rattle.series_ops.proofs.PieceLaws.{window_up_to}
use Rattle.series_ops.proofs.splits.greatest_at.Goals as goal

pub returns-then-shift-known-clause-value : goal.returns-then-shift-known-clause-value
returns-then-shift-known-clause-value c = listed_is
    (window (value_listed c.args.first.now) (value_listed c.args.second.now) c.args.span.from c.args.span.count)
    (length c.args.known.now) c.args.known.now c.requires.known c.args.shift c.if-shift-known.true

pub returns-then-shift-known-clause-bound : goal.returns-then-shift-known-clause-bound
returns-then-shift-known-clause-bound c = subst (λ (z : Date). IsMagnitudeUpTo far z)
    (sym (listed_is (window (value_listed c.args.first.now) (value_listed c.args.second.now) c.args.span.from c.args.span.count)
    (length c.args.known.now) c.args.known.now c.requires.known c.args.shift c.if-shift-known.true))
    (window_up_to c.args.first.now c.args.second.now c.args.span.from c.args.span.count greatest_listed greatest_listed
    far c.args.shift c.len-first.ensures.bound c.len-second.ensures.bound (omega arith))

pub returns-clause-value : goal.returns-clause-value
returns-clause-value c = c.greatest_split.ensures.value
    ∙ ap (greatest_from (split_of (value_listed c.args.first.now) (value_listed c.args.second.now) c.args.shift) c.args.span.from) c.places-count.ensures
