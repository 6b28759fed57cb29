-- The first row that a dating does not keep, by rows of dates and by the dating.
use Rattle.std.proofs.Common.{ℕ, ◌≡◌, List, get_or, sym, subst, ◌∙◌}
use Rattle.std.specs.Prelude.{pos, All, take}
use Rattle.std.proofs.lemmas.List.Elements.{All-take}
use Rattle.teg_model.specs.dioid.declared.dates.Date.{Date}
use Rattle.teg_model.specs.dioid.declared.dates.Date.TheVariants.{At}
use Rattle.teg_model.specs.dioid.Dates.{IsAtMostDate}
use Rattle.teg_model.specs.teg_net.Nets.{NetLists, without_inputs}
use Rattle.teg_model.specs.Datings.{IsLeastUnder, IsLeastDating}
use Rattle.due_laws.specs.MeetingDueDates.{inputs_at_zero}
use Rattle.teg_due.specs.declared.rows.DueRow.{DueRow}
use Rattle.teg_due.proofs.DueOnce.{no_row}
use Rattle.late_lines.specs.declared.late.LateFiring.{LateFiring}
use Rattle.dating_check.specs.FirstLate.{IsFirstLateBy}

-- another dating with the same dates at the rows
pub late_moves : (x y : ℕ → ℕ → Date) (rows : List DueRow) (late : LateFiring) → All (λ r. x r.transition.index r.number ≡ y r.transition.index r.number) rows
    → IsFirstLateBy x rows late → IsFirstLateBy y rows late
late_moves x y rows late same h =
    let here = same h.before no_row h.within in
    let row = h.row no_row in
    record {
      before = h.before;
      within = h.within;
      kept = λ j q m.
          subst (λ z. IsAtMostDate z (At (pos (get_or (take h.before rows) j q).date))) (All-take (λ r. x r.transition.index r.number ≡ y r.transition.index r.number) h.before rows same j q m) (h.kept j q m);
      row = h.row;
      least =
          let moved : x late.transition.index late.number ≡ y late.transition.index late.number =
          subst (λ z. x z.index late.number ≡ y z.index late.number) row.transition (subst (λ n. x (get_or rows h.before no_row).transition.index n ≡ y (get_or rows h.before no_row).transition.index n) row.number here) in
          sym moved ∙ h.least;
      late = h.late;
    }

-- where inputs wait for nothing there need be no input list
pub bare_is_least : (net : NetLists) (x : ℕ → ℕ → Date) → IsLeastUnder net inputs_at_zero x → IsLeastDating (without_inputs net) x
bare_is_least net x h = record {
  feasible = record { places = h.feasible.places; inputs = h.feasible.inputs };
  least = λ y f t k l o. h.least y (record { places = f.places; inputs = f.inputs }) t k l o;
}
