-- The star of the matrix of a net has the transfers.
use Rattle.std.proofs.Common.{ℕ, ◌-◌, ◌≡◌, length, sym, subst, ◌∙◌, arith}
use Rattle.std.specs.Prelude.{IfOk, Result, Ok, Err}
use Rattle.dioid_matrix.specs.MatrixStars.{star_of}
use Rattle.dioid_matrix.specs.Tables.{Table, entry_of}
use Rattle.dioid_matrix.specs.Turns.{AnswersStar}
use Rattle.dioid_matrix.specs.declared.refusals.MatrixRefused.{MatrixRefused}
use Rattle.series_ops.specs.series_laws.SeriesForms.{value_at}
use Rattle.series_ops.specs.declared.gains.Gain.{Gain}
use Rattle.teg_net.specs.Nets.{NetLists}
use Rattle.teg_net.specs.Circuits.{IsLive}
use Rattle.teg_settle.specs.teg_model.LiveRanks.{HasEndsInRange}
use Rattle.teg_settle.specs.periodic_laws.Equations.{gains, gain_stars}
use Rattle.teg_settle.specs.walk_times.Transfers.{IsGreatestWalkTime}
use Rattle.net_matrices.specs.NetEntries.{IsMatrixOfNet}
use Rattle.net_matrices.specs.TransferMatrices.{AreTransfers}
use Rattle.net_matrices.specs.TransferStars.{TransfersAreStars}

pub star_transfers : TransfersAreStars → (net : NetLists) → HasEndsInRange net → IsLive net → (a : Table Gain) → IsMatrixOfNet net a → (r : Result (Table Gain) MatrixRefused)
    → AnswersStar gains gain_stars a r → IfOk r (AreTransfers net)
star_transfers law net ends live a is (Ok s) star = record {
  rows = star.rows ∙ is.rows;
  columns = star.columns ∙ is.rows;
  each = λ i t k li lt o.
      let rows = is.rows in
      let made : entry_of gains s t i ≡ star_of gains gain_stars a.rows (entry_of gains a) t i = star.entries t i (omega (arith, lt, rows)) (omega (arith, li, rows)) in
      let same : entry_of gains s t i ≡ star_of gains gain_stars (length net.transitions) (entry_of gains a) t i =
      subst (λ (n : ℕ). entry_of gains s t i ≡ star_of gains gain_stars n (entry_of gains a) t i) rows made in
      subst (λ (g : Gain). IsGreatestWalkTime net i t k (value_at g.series (k - 1))) (sym same) (law net ends live (entry_of gains a) is.entries i t k li lt o);
}
star_transfers law net ends live a is (Err e) star = tt
