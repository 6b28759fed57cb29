use Rattle.std.proofs.Common.{◌<◌, ◌∙◌, sym, subst, arith, length}
use Rattle.dioid.specs.declared.dates.Date.{Date}
use Rattle.series_form.specs.NumberBounds.{IsMagnitudeUpTo}
use Rattle.series_form.proofs.PointwiseTables.{later_up_to}
use Rattle.series_ops.specs.Cells.{far}
use Rattle.series_ops.proofs.StrideSums.{all_sums}
use Rattle.series_ops.proofs.core_sums.CoreSums.at.Goals as goal

pub greatest_at-head-requires : goal.greatest_at-head-requires
greatest_at-head-requires c =
    let i = c.self.inside in
    let h = c.self.invariant in
    let w : c.args.shift < length i.list = rw (← c.self.view_is) at c.requires in
    let size = h.is_core.size in
    let start = h.is_core.is_stride.from in
    let begun = h.begun in
    record { first = omega arith; second = w; known = rw c.as_slice-known.ensures.value h.head_sums }

pub greatest_at-rest-requires : goal.greatest_at-rest-requires
greatest_at-rest-requires c =
    let i = c.self.inside in
    let h = c.self.invariant in
    let w : c.args.shift < length i.list = rw (← c.self.view_is) at c.requires in
    let same = h.size in
    let turn = h.turn in
    record { first = omega arith; second = omega arith; known = rw c.as_slice-known-2.ensures.value h.rest_sums }

pub returns-clause-value : goal.returns-clause-value
returns-clause-value c =
    let i = c.self.inside in
    let w : c.args.shift < length i.list = rw (← c.self.view_is) at c.requires in
    rw (← c.self.view_is) (c.later.ensures.value
    ∙ all_sums i.first.now i.stride i.core i.list i.by_star i.below i.others i.head.items i.rest.items c.self.invariant c.args.shift w
    c.greatest_at-head.result c.greatest_at-rest.result c.greatest_at-head.ensures.value c.greatest_at-rest.ensures.value)

pub returns-clause-bound : goal.returns-clause-bound
returns-clause-bound c = subst (λ (z : Date). IsMagnitudeUpTo far z) (sym c.later.ensures.value)
    (later_up_to far c.greatest_at-head.result c.greatest_at-rest.result c.greatest_at-head.ensures.bound c.greatest_at-rest.ensures.bound)
