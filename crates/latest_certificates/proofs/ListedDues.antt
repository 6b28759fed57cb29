-- What the rows of a due list say is due: the row that names a firing tells its date, and no row tells another.
use Rattle.std.proofs.Common.{ℕ, ◌≡◌, List, get_or, Option, Some, None, refl, sym}
use Rattle.std.specs.Prelude.{AllPairs, Any}
use Rattle.std.proofs.lemmas.List.{get_or_default}
use Rattle.teg_due.specs.declared.rows.DueRow.{DueRow}
use Rattle.teg_due.specs.RowRules.{AreApart, due_in}
use Rattle.teg_due.proofs.DueOnce.{no_row}
use Rattle.teg_due.proofs.DueRows.{row_of_due, due_of_row}
use Rattle.latest_certificates.specs.LatestRows.{IsRowOf, DuesAreListed, DuesAreOne}

-- where the rows tell a date of a firing, one of them is of it
row_of_date : (rows : List DueRow) (t k d : ℕ) → due_in rows t k ≡ Some d → Any (λ r. IsRowOf r t k d) rows
row_of_date rows t k d h =
    let at = row_of_due rows t k d h in
    let is = at.2 no_row in
    (at.0, get_or rows at.0 no_row, at.1, get_or_default rows at.0 (get_or rows at.0 no_row) no_row at.1, record { transition = is.0; number = is.1; date = is.2 })

date_listed : (rows : List DueRow) (t k d : ℕ) → AllPairs AreApart rows → Any (λ r. IsRowOf r t k d) rows → due_in rows t k ≡ Some d
date_listed rows t k d apart h =
    let r : DueRow = h.1 in
    let of_row : IsRowOf r t k d = h.4 in
    rw (of_row.transition, of_row.number, of_row.date) at (due_of_row rows h.0 r apart h.2 h.3)

pub dues_are_listed : DuesAreListed
dues_are_listed net rows is_due = (due_in rows, λ t k d. (row_of_date rows t k d, date_listed rows t k d is_due.once))

same_dates : (a b : Option ℕ) → ((d : ℕ) → a ≡ Some d → b ≡ Some d) → ((d : ℕ) → b ≡ Some d → a ≡ Some d) → a ≡ b
same_dates (Some d) b f g = sym (f d refl)
same_dates None (Some d) f g = g d refl
same_dates None None f g = refl

pub dues_are_one : DuesAreOne
dues_are_one rows due other lists also t k =
    same_dates (due t k) (other t k) (λ d e. (also t k d).1 ((lists t k d).0 e)) (λ d e. (lists t k d).1 ((also t k d).0 e))
