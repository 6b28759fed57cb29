use Rattle.std.proofs.Common.{◌≡◌, ℕ, arith, refl, below_more, below_none}
use Rattle.dioid_matrix.specs.Residuals.{RowFits}
use Rattle.dioid_matrix.specs.Tables.{entry_of}
use Rattle.dioid_matrix.proofs.Meets.{first_meet, meet_more, first_fits, first_misfits, row_fits, row_misfits}
use Rattle.dioid_matrix.proofs.residues.residue.Goals as goal

pub returns-in-Err-Range : goal.returns-in-Err-Range
returns-in-Err-Range g c =
    let d = g.D.Dioid in
    let refused = rw c.in-Err-Range.field-0-is at c.in-Err-Range.ensures.answer in
    record {
      within = c.rows-rows.ensures.table.some_rows;
      before = λ i h. absurd (omega (arith, h));
      here = first_misfits d g.D.Residuated (λ i. entry_of d c.args.left.now i c.args.column)
          (λ i. entry_of d c.args.right.now i c.args.other) _ _ c.entry.ensures.value c.entry-2.ensures.value refused;
    }

pub loop-row-init : goal.loop-row-init
loop-row-init g c =
    let d = g.D.Dioid in
    let s = g.D.Residuated in
    let a = λ (i : ℕ). entry_of d c.args.left.now i c.args.column in
    let b = λ (i : ℕ). entry_of d c.args.right.now i c.args.other in
    let p = c.in-Ok.ensures.answer in
    record {
      value = first_meet d s a b _ _ _ c.entry.ensures.value c.entry-2.ensures.value p.0;
      element = c.in-Ok.ensures.element;
      fit = below_more (λ i. RowFits d s a b i) 0 (below_none _) (first_fits d s a b _ _ c.entry.ensures.value c.entry-2.ensures.value p.1);
    }

pub returns-in-Err-Range-meet_left : goal.returns-in-Err-Range-meet_left
returns-in-Err-Range-meet_left g c =
    let d = g.D.Dioid in
    let refused = rw c.in-Err-Range-meet_left.field-0-is at c.in-Err-Range-meet_left.ensures.answer in
    record {
      within = omega (arith, c.loop-row-test.true, c.rows-rows.ensures.value);
      before = c.loop-row.invariant.fit;
      here = row_misfits d g.D.Residuated (λ i. entry_of d c.args.left.now i c.args.column)
          (λ i. entry_of d c.args.right.now i c.args.other) c.loop-row.row _ _ _
          (omega arith) c.loop-row.invariant.value c.entry-here.ensures.value c.entry-in-loop-row.ensures.value refused;
    }

pub loop-row-preserved : goal.loop-row-preserved
loop-row-preserved g c =
    let d = g.D.Dioid in
    let s = g.D.Residuated in
    let a = λ (i : ℕ). entry_of d c.args.left.now i c.args.column in
    let b = λ (i : ℕ). entry_of d c.args.right.now i c.args.other in
    let i = c.loop-row.row in
    let x = c.entry-here.ensures.value in
    let y = c.entry-in-loop-row.ensures.value in
    let v = c.in-Ok-meet_left.ensures.answer in
    record {
      value = meet_more d s a b i _ _ _ _ _ (omega arith) c.loop-row.invariant.value x y refl v.0;
      element = c.in-Ok-meet_left.ensures.element;
      fit = below_more _ _ c.loop-row.invariant.fit (row_fits d s a b i _ _ _ _ c.loop-row.invariant.value x y refl v.1.0 v.1.1);
    }

pub returns : goal.returns
returns g c =
    let whole : c.loop-row.row ≡ c.args.left.now.rows = omega (arith, c.rows-rows.ensures.value) in
    let i = rw whole at c.loop-row.invariant in
    (i.value, i.element, i.fit)
