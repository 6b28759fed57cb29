use Rattle.std.proofs.Common.{◌≡◌, ◌<◌, ℕ}
use Rattle.dioid_matrix.specs.Products.{StepFits}
use Rattle.dioid_matrix.specs.Sums.{dot}
use Rattle.dioid_matrix.specs.Tables.{entry_of}
use Rattle.dioid_matrix.proofs.products.cell.Given as goal

abbrev pub invariant-loop-middle : goal.invariant-loop-middle
invariant-loop-middle g l =
    let d = g.D.Dioid in
    let a = entry_of d l.left l.row in
    let b = λ (k : ℕ). entry_of d l.right k l.column in
    record {
      value : l.sum ≡ dot d l.middle a b;
      element : d.is_element l.sum;
      fit : (k : ℕ) → k < l.middle → StepFits d a b k;
    }
