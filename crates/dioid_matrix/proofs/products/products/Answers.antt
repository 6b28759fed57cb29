use Rattle.std.proofs.Common.{◌≡◌, ℕ, ◌*◌, ◌/◌, ◌%◌, ◌++◌, ◌∷◌, [], rules, arith, refl}
use Rattle.std.proofs.lemmas.Result.{err_from_is_err_and}
use Rattle.dioid_matrix.specs.Products.{CellFits, StepFits, ProductRefused}
use Rattle.dioid_matrix.specs.Sums.{dot}
use Rattle.dioid_matrix.specs.Tables.{entry_of}
use Rattle.dioid_matrix.proofs.Cells.{row_below, holds_more, elements_everywhere}
use Rattle.dioid_matrix.proofs.Places.{first_misfit, entries_held, fits_held, cell_value, cell_refused}
use Rattle.dioid_matrix.proofs.products.products.Goals as goal

pub cell-requires-clause-row : goal.cell-requires-clause-row
cell-requires-clause-row g c =
    let some = c.columns-columns.ensures.table.some_columns in
    let b = row_below c.loop-place.place c.rows-rows.result c.columns-columns.result (omega (arith, c.columns-columns.ensures.value, some)) c.loop-place-test.true in
    omega (arith, b, c.rows-rows.ensures.value)

pub returns-in_err-value : goal.returns-in_err-value
returns-in_err-value g c =
    let d = g.D.Dioid in
    let left = c.args.left.now in
    let right = c.args.right.now in
    let place = c.loop-place.place in
    let rows = c.rows-rows.ensures.value in
    let columns = c.columns-columns.ensures.value in
    let cell = rw columns at c.cell.ensures in
    let refused = rw columns at c.in_err-value.ensures in
    let back = err_from_is_err_and c.from_residual.result c.from_residual.ensures.1 in
    let a = entry_of d left (place / right.columns) in
    let b = λ (k : ℕ). entry_of d right k (place % right.columns) in
    rw (back.1, back.2) (cell_refused d left.columns (StepFits d a b) (dot d left.columns a b) (ProductRefused d left right) _ (place / right.columns) (place % right.columns) _ refused cell
    (λ step stop. (
      c.requires,
      first_misfit left.rows right.columns place _
          c.columns-columns.ensures.table.some_columns
          (record {
            within = rw (rows, columns) at c.loop-place-test.true;
            before = rw columns at c.loop-place.invariant.fit;
            here = λ f. stop.here (f _ stop.within);
          }),
      stop,
    )) tt)

pub loop-place-preserved : goal.loop-place-preserved
loop-place-preserved g c =
    let items : c.push.new.self.items ≡ c.loop-place.values.items ++ (c.in_ok-value.value ∷ []) = search rules in
    let d = g.D.Dioid in
    let n = c.args.left.now.columns in
    let a = entry_of d c.args.left.now (c.loop-place.place / c.columns-columns.result) in
    let b = λ (k : ℕ). entry_of d c.args.right.now k (c.loop-place.place % c.columns-columns.result) in
    let found = cell_value d n (StepFits d a b) (dot d n a b) _ (c.loop-place.place / c.columns-columns.result) (c.loop-place.place % c.columns-columns.result)
    c.in_ok-value.value c.in_ok-value.ensures c.cell.ensures in
    rw items (holds_more d _ _ _ _ _ c.loop-place.invariant found.2 found.0 found.1)

pub returns : goal.returns
returns g c =
    let d = g.D.Dioid in
    let a = c.args.left.now in
    let b = c.args.right.now in
    let whole : c.loop-place.place ≡ c.rows-rows.result * c.columns-columns.result = search rules in
    let h = rw (whole, c.rows-rows.ensures.value, c.columns-columns.ensures.value) at c.loop-place.invariant in
    let fits = λ (i j : ℕ). CellFits d a.columns (entry_of d a) (entry_of d b) i j in
    let value = λ (i j : ℕ). dot d a.columns (entry_of d a i) (λ k. entry_of d b k j) in (
      h.len,
      elements_everywhere d _ _ _ _ g.met.D.Dioid.closed.zero_is h,
      record {
        goes = c.requires;
        rows = refl;
        columns = refl;
        entries = entries_held d a.rows b.columns fits value _ h;
        fit = fits_held d a.rows b.columns fits value _ h;
      },
    )
