use Rattle.std.proofs.Common.{◌≡◌, ℕ, ◌*◌, ◌/◌, ◌%◌, ◌++◌, ◌∷◌, [], rules, arith}
use Rattle.std.proofs.lemmas.Result.{err_from_is_err_and}
use Rattle.dioid_matrix.specs.Residuals.{meet_below, lefts, RowFits, ResidualRefused}
use Rattle.dioid_matrix.specs.Tables.{entry_of}
use Rattle.dioid_matrix.proofs.Cells.{row_below, holds_more, elements_everywhere}
use Rattle.dioid_matrix.proofs.Meets.{residual_table}
use Rattle.dioid_matrix.proofs.Places.{first_misfit, cell_value, cell_refused}
use Rattle.dioid_matrix.proofs.residues.residue_list.Goals as goal

pub residue-requires-clause-within : goal.residue-requires-clause-within
residue-requires-clause-within g c =
    let some = c.columns-columns.ensures.table.some_columns in
    let b = row_below c.loop-place.place c.columns-middle.result c.columns-columns.result (omega (arith, c.columns-columns.ensures.value, some)) c.loop-place-test.true in
    omega (arith, b, c.columns-middle.ensures.value)

pub returns-in_err-value : goal.returns-in_err-value
returns-in_err-value g c =
    let d = g.D.Dioid in
    let s = g.D.Residuated in
    let left = c.args.left.now in
    let right = c.args.right.now in
    let place = c.loop-place.place in
    let middle = c.columns-middle.ensures.value in
    let columns = c.columns-columns.ensures.value in
    let cell = rw columns at c.residue.ensures in
    let refused = rw columns at c.in_err-value.ensures in
    let back = err_from_is_err_and c.from_residual.result c.from_residual.ensures.1 in
    let a = λ (i : ℕ). entry_of d left i (place / right.columns) in
    let b = λ (i : ℕ). entry_of d right i (place % right.columns) in
    rw (back.1, back.2) (cell_refused d left.rows (RowFits d s a b) (meet_below s (lefts d s a b) left.rows) (ResidualRefused d s left right) _
    (place / right.columns) (place % right.columns) _ refused cell
    (λ step stop. (
      c.requires,
      first_misfit left.columns right.columns place _
          c.columns-columns.ensures.table.some_columns
          (record {
            within = rw (middle, columns) at c.loop-place-test.true;
            before = rw columns at c.loop-place.invariant.fit;
            here = λ f. stop.here (f _ stop.within);
          }),
      stop,
    )) tt)

pub loop-place-preserved : goal.loop-place-preserved
loop-place-preserved g c =
    let items : c.push.new.self.items ≡ c.loop-place.values.items ++ (c.in_ok-value.value ∷ []) = search rules in
    let d = g.D.Dioid in
    let s = g.D.Residuated in
    let n = c.args.left.now.rows in
    let a = λ (i : ℕ). entry_of d c.args.left.now i (c.loop-place.place / c.columns-columns.result) in
    let b = λ (i : ℕ). entry_of d c.args.right.now i (c.loop-place.place % c.columns-columns.result) in
    let found = cell_value d n (RowFits d s a b) (meet_below s (lefts d s a b) n) _ (c.loop-place.place / c.columns-columns.result) (c.loop-place.place % c.columns-columns.result)
    c.in_ok-value.value c.in_ok-value.ensures c.residue.ensures in
    rw items (holds_more d _ _ _ _ _ c.loop-place.invariant found.2 found.0 found.1)

pub returns : goal.returns
returns g c =
    let met = g.met.D.Dioid in
    let left = c.columns-middle.ensures.table in
    let right = c.columns-columns.ensures.table in
    let whole : c.loop-place.place ≡ c.columns-middle.result * c.columns-columns.result = search rules in
    let h = rw (whole, c.columns-middle.ensures.value, c.columns-columns.ensures.value) at c.loop-place.invariant in (
      h.len,
      elements_everywhere g.D.Dioid _ _ _ _ met.closed.zero_is h,
      residual_table g.D.Dioid g.D.Residuated met.closed met.laws g.met.D.Residuated.residual_laws c.args.left.now c.args.right.now
          c.requires left.some_rows left.elements right.elements _ h,
    )
