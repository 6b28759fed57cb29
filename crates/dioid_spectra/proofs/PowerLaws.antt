-- One power after the other.
use Rattle.std.proofs.Common.{◌≡◌, ℕ, zero, suc, ◌<◌, ◌≤◌, ◌+◌, refl, sym, ap, subst, ◌∙◌, arith, add-one, below_more, ⊎_elim}
use Rattle.std.specs.Prelude.{◌⊎◌}
use Rattle.dioid.specs.declared.algebra.Dioid.{Ghosts as DioidOf}
use Rattle.dioid_matrix.specs.Products.{CellFits, IsProduct, StepFits}
use Rattle.dioid_matrix.specs.Sums.{dot}
use Rattle.dioid_matrix.specs.Tables.{Table, entry_of, IsFirstMisfit, StopsAt}
use Rattle.dioid_spectra.specs.Powers.{IsFirstMisfitOfPower, IsPower, NextFits, entry_of_power}

module _ {M : Type 0} (d : DioidOf M) (b : ℕ → M) (n : ℕ) (f g : ℕ → M) (same : (k : ℕ) → k < n → f k ≡ g k) where
  -- a row with the same first elements has the same products
  pub dot_same : (k : ℕ) → k ≤ n → dot d k f b ≡ dot d k g b
  dot_same zero l = refl
  dot_same (suc k) l =
      let before = dot_same k (omega (arith, l)) in
      let here = same k (omega (arith, l)) in
      ap (λ (x : M). d.sum x (d.product (f k) (b k))) before ∙ ap (λ (x : M). d.sum (dot d k g b) (d.product x (b k))) here

  pub step_same : (k : ℕ) → k < n → StepFits d f b k → StepFits d g b k
  step_same k l h =
      let before = dot_same k (omega (arith, l)) in
      let here = same k l in
      rw (before, here) at h

row_before : (i j row column : ℕ) {rows : ℕ} → (i < row) ⊎ ((i ≡ row) × (j < column)) → row < rows → i < rows
row_before i j row column order l = ⊎_elim (λ q. omega (arith, q, l)) (λ q. let e = q.0 in omega (arith, e, l)) order

module _ {M : Type 0} (d : DioidOf M) (a p : Table M) (n : ℕ) (square : a.rows ≡ a.columns) (h : IsPower d a n p) where
  row_same : (i : ℕ) → i < a.rows → (k : ℕ) → k < a.columns → entry_of d p i k ≡ entry_of_power d a n i k
  row_same i li k lk = h.entries.entries i k li lk

  cell_there : (i j : ℕ) → i < a.rows → CellFits d a.columns (entry_of d p) (entry_of d a) i j → CellFits d a.columns (entry_of_power d a n) (entry_of d a) i j
  cell_there i j li fits k lk =
      step_same d (λ m. entry_of d a m j) a.columns (entry_of d p i) (entry_of_power d a n i) (row_same i li) k lk (fits k lk)

  cell_back : (i j : ℕ) → i < a.rows → CellFits d a.columns (entry_of_power d a n) (entry_of d a) i j → CellFits d a.columns (entry_of d p) (entry_of d a) i j
  cell_back i j li fits k lk =
      step_same d (λ m. entry_of d a m j) a.columns (entry_of_power d a n i) (entry_of d p i) (λ m l. sym (row_same i li m l)) k lk (fits k lk)

  pub next_is_power : (t : Table M) → IsProduct d p a t → IsPower d a (n + 1) t
  next_is_power t is =
      let rows : p.rows ≡ a.rows = h.entries.rows_are in
      let columns : p.columns ≡ a.columns = h.entries.columns_are in
      record {
        entries = record {
          rows_are = is.rows ∙ rows;
          columns_are = is.columns;
          entries = λ i j li lj.
              let here : entry_of d t i j ≡ dot d p.columns (entry_of d p i) (λ k. entry_of d a k j) = is.entries i j (omega (arith, li, rows)) lj in
              let wide : p.columns ≡ a.rows = columns ∙ sym square in
              let dots : dot d p.columns (entry_of d p i) (λ k. entry_of d a k j) ≡ dot d a.rows (entry_of d p i) (λ k. entry_of d a k j) = ap (λ m. dot d m (entry_of d p i) (λ k. entry_of d a k j)) wide in
              let moved = dot_same d (λ m. entry_of d a m j) a.columns (entry_of d p i) (entry_of_power d a n i) (row_same i li) a.rows (omega (arith, square)) in
              rw add-one (here ∙ (dots ∙ moved));
        };
        fit = below_more (NextFits d a) n h.fit (λ i j li lj. cell_there i j li (subst (λ (m : ℕ). CellFits d m (entry_of d p) (entry_of d a) i j) columns (is.fit i j (omega (arith, li, rows)) lj)));
      }

  -- and where the product does not fit
  pub next_misfits : (most step row column : ℕ) → n < most → IsFirstMisfit p.rows a.columns (CellFits d p.columns (entry_of d p) (entry_of d a)) row column
      → StopsAt p.columns (StepFits d (entry_of d p row) (λ k. entry_of d a k column)) step → IsFirstMisfitOfPower d a most n step row column
  next_misfits most step row column l entry stops =
      let rows : p.rows ≡ a.rows = h.entries.rows_are in
      let columns : p.columns ≡ a.columns = h.entries.columns_are in
      let first : IsFirstMisfit a.rows a.columns (CellFits d a.columns (entry_of d p) (entry_of d a)) row column =
      subst (λ (m : ℕ). IsFirstMisfit a.rows a.columns (CellFits d m (entry_of d p) (entry_of d a)) row column) columns
      (subst (λ (m : ℕ). IsFirstMisfit m a.columns (CellFits d p.columns (entry_of d p) (entry_of d a)) row column) rows entry) in
      let stop : StopsAt a.columns (StepFits d (entry_of d p row) (λ k. entry_of d a k column)) step =
      subst (λ (m : ℕ). StopsAt m (StepFits d (entry_of d p row) (λ k. entry_of d a k column)) step) columns stops in
      record {
        within = l;
        fit = h.fit;
        entry = record {
          in_rows = first.in_rows;
          in_columns = first.in_columns;
          before = λ i j lj order.
              let li : i < a.rows = row_before i j row column order first.in_rows in
              cell_there i j li (first.before i j lj order);
          here = λ fits. first.here (cell_back row column first.in_rows fits);
        };
        stops = record {
          within = stop.within;
          before = λ k lk. step_same d (λ m. entry_of d a m column) a.columns (entry_of d p row) (entry_of_power d a n row) (row_same row first.in_rows) k
              (let w = stop.within in omega (arith, lk, w)) (stop.before k lk);
          here = λ fits. stop.here (step_same d (λ m. entry_of d a m column) a.columns (entry_of_power d a n row) (entry_of d p row)
              (λ m lm. sym (row_same row first.in_rows m lm)) step stop.within fits);
        };
      }
