use Rattle.std.proofs.Common.{◌≡◌, ◌≤◌, ◌∙◌, ℤ, List, ap, sym, subst, arith, pos, length, get_or, map}
use Rattle.std.proofs.lemmas.List.{length-map}
use Rattle.std.proofs.Math.ListN.{get_or-eq_default}
use Rattle.dioid.specs.declared.dates.Date.{Date}
use Rattle.dioid.specs.declared.dates.Date.TheVariants.{Early}
use Rattle.series_ops.specs.Cells.{date_of_far_cell, AreCells}
use Rattle.series_ops.specs.ListFunctions.{value_listed}
use Rattle.series_ops.proofs.ScaleLaws.{own_code, dated_at}
use Rattle.series_ops.proofs.Scales.{long_scale}
use Rattle.series_ops.proofs.cells.Cells.date.Goals as goal

pub returns-then-place-numbers : goal.returns-then-place-numbers
returns-then-place-numbers c =
    let n = c.as_slice-numbers.result.now in
    let k = c.args.place in
    let view : map date_of_far_cell n ≡ c.args.self.now = ap (map date_of_far_cell) c.as_slice-numbers.ensures.value ∙ c.self.view_is in
    let low = c.if-place-numbers.true in
    let cells : AreCells n = subst (λ (z : List ℤ). AreCells z) (sym c.as_slice-numbers.ensures.value) c.self.invariant.0 in
    c.date_of.ensures.value ∙ ap date_of_far_cell (own_code long_scale (get_or n k (pos 0)) (cells k low)) ∙ sym (dated_at long_scale n k low) ∙ ap (λ (z : List Date). value_listed z k) view

pub returns : goal.returns
returns c =
    let n = c.as_slice-numbers.result.now in
    let view : map date_of_far_cell n ≡ c.args.self.now = ap (map date_of_far_cell) c.as_slice-numbers.ensures.value ∙ c.self.view_is in
    let size : length (map date_of_far_cell n) ≡ length n = length-map n date_of_far_cell in
    let same : length (map date_of_far_cell n) ≡ length c.args.self.now = ap length view in
    let high = c.if-place-numbers.false in
    let past : length c.args.self.now ≤ c.args.place = omega arith in
    sym (get_or-eq_default c.args.self.now Early {n = c.args.place} past)
