use Rattle.std.proofs.Common.{◌≡◌, ℕ, arith, below_more, below_none}
use Rattle.dioid_matrix.specs.Products.{StepFits}
use Rattle.dioid_matrix.specs.Tables.{entry_of}
use Rattle.dioid_matrix.proofs.Cells.{dot_more, first_dot, step_fits, first_fits, first_misfits, step_misfits}
use Rattle.dioid_matrix.proofs.products.cell.Goals as goal

pub returns-in-Err-Range : goal.returns-in-Err-Range
returns-in-Err-Range g c =
    let d = g.D.Dioid in
    let refused = rw c.in-Err-Range.field-0-is at c.in-Err-Range.ensures.answer in
    record {
      within = c.columns-count.ensures.table.some_columns;
      before = λ k h. absurd (omega (arith, h));
      here = first_misfits d (entry_of d c.args.left.now c.args.row) (λ k. entry_of d c.args.right.now k c.args.column) _ _ c.entry.ensures.value c.entry-2.ensures.value refused;
    }

pub loop-middle-init : goal.loop-middle-init
loop-middle-init g c =
    let d = g.D.Dioid in
    let a = entry_of d c.args.left.now c.args.row in
    let b = λ (k : ℕ). entry_of d c.args.right.now k c.args.column in
    let p = c.in-Ok.ensures.answer in
    record {
      value = first_dot d a b _ _ _ (g.met.D.Dioid.laws.zero_neutral _ c.in-Ok.ensures.element) c.entry.ensures.value c.entry-2.ensures.value p.0;
      element = c.in-Ok.ensures.element;
      fit = below_more (λ k. StepFits d a b k) 0 (below_none _) (first_fits d a b _ _ c.entry.ensures.value c.entry-2.ensures.value p.1);
    }

pub returns-in-Err-Range-plus_product : goal.returns-in-Err-Range-plus_product
returns-in-Err-Range-plus_product g c =
    let d = g.D.Dioid in
    let refused = rw c.in-Err-Range-plus_product.field-0-is at c.in-Err-Range-plus_product.ensures.answer in
    record {
      within = omega (arith, c.loop-middle-test.true, c.columns-count.ensures.value);
      before = c.loop-middle.invariant.fit;
      here = step_misfits d (entry_of d c.args.left.now c.args.row)
          (λ k. entry_of d c.args.right.now k c.args.column) c.loop-middle.middle _ _ _
          (omega arith) c.loop-middle.invariant.value c.entry-here.ensures.value c.entry-in-loop-middle.ensures.value refused;
    }

pub loop-middle-preserved : goal.loop-middle-preserved
loop-middle-preserved g c =
    let d = g.D.Dioid in
    let a = entry_of d c.args.left.now c.args.row in
    let b = λ (k : ℕ). entry_of d c.args.right.now k c.args.column in
    let k = c.loop-middle.middle in
    let x = c.entry-here.ensures.value in
    let y = c.entry-in-loop-middle.ensures.value in
    let v = c.in-Ok-plus_product.ensures.answer in
    record {
      value = dot_more d a b k _ _ _ _ c.loop-middle.invariant.value x y v.0;
      element = c.in-Ok-plus_product.ensures.element;
      fit = below_more _ _ c.loop-middle.invariant.fit (step_fits d a b k _ _ _ c.loop-middle.invariant.value x y v.1);
    }

pub returns : goal.returns
returns g c =
    let whole : c.loop-middle.middle ≡ c.args.left.now.columns = omega (arith, c.columns-count.ensures.value) in
    let i = rw whole at c.loop-middle.invariant in
    (i.value, i.element, i.fit)
