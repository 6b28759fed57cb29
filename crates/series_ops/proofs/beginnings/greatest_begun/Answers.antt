use Rattle.std.proofs.Common.{◌∙◌, ap}
use Rattle.dioid.specs.Dates.{later_of}
use Rattle.dioid.specs.declared.dates.Date.{Date}
use Rattle.series_ops.specs.ListFunctions.{value_listed}
use Rattle.series_ops.specs.Splits.{greatest_from, split_of}
use Rattle.series_ops.proofs.BegunLaws.{begun_window}
use Rattle.series_ops.proofs.beginnings.greatest_begun.Goals as goal

pub returns-then-shift-known : goal.returns-then-shift-known
returns-then-shift-known c =
    c.later.ensures.value
    ∙ ap (λ (z : Date). later_of z (value_listed c.as_slice-known.result.now c.args.shift))
    (c.greatest_split-near.ensures.value ∙ ap (greatest_from (split_of (value_listed c.args.first.now) (value_listed c.args.second.now) c.args.shift) 0) c.places-count.ensures)
    ∙ begun_window c.args.begun.now.count c.args.begun.now.sums.items c.as_slice-known.result.now c.args.first.now c.args.second.now
    c.args.most c.args.shift c.requires.begun c.as_slice-known.ensures.value c.if-shift-known.true

pub returns : goal.returns
returns c = c.greatest_split.ensures.value ∙ ap (greatest_from (split_of (value_listed c.args.first.now) (value_listed c.args.second.now) c.args.shift) 0) c.places.ensures
