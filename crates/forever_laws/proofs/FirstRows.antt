-- Inputs at 0 meet endless due dates, or some row is the first that has a late number.
use Rattle.std.proofs.Common.{ℕ, zero, suc, ◌+◌, ◌*◌, ◌<◌, ◌≤◌, ◌≡◌, List, [], ◌∷◌, Some, length, get_or, take, refl, arith, ⊎_elim, ◌⊎◌, inl, inr}
use Rattle.std.specs.Prelude.{All, slice_get}
use Rattle.std.proofs.lemmas.List.Elements.{All-cons}
use Rattle.walk_times.specs.dioid.declared.dates.Date.{Date}
use Rattle.teg_net.specs.Limits.{greatest_input_date}
use Rattle.teg_net.specs.Nets.{NetLists, HasEndsInRange}
use Rattle.teg_net.proofs.Bounds.{hold_bound, holds_bounded, token_bound, tokens_bounded}
use Rattle.teg_net.specs.Circuits.{IsLive}
use Rattle.walk_times.specs.teg_model.Datings.{IsLeastUnder}
use Rattle.due_laws.specs.MeetingDueDates.{inputs_at_zero}
use Rattle.bound_laws.proofs.Unrolled.{unrolled}
use Rattle.endless_due.specs.declared.row.EndlessRow.{EndlessRow}
use Rattle.endless_due.specs.EndlessRows.{IsEndlessRow}
use Rattle.forever_laws.specs.Late.{NoneLate, IsLeastLate, IsFirstLateRow}
use Rattle.forever_laws.specs.EndlessDues.{EndlessMeetOrLate, EndlessLateExcludesMeet}
use Rattle.forever_laws.proofs.GoingOn.{due_number}
use Rattle.forever_laws.proofs.Late.{LateWithin, flat_bound, steep_bound, late_soon}
use Rattle.forever_laws.proofs.Zeros.{least_number}
use Rattle.forever_laws.proofs.Soon.{setting, IsLeastIn, least_to, late_from, late_to}
use Rattle.forever_laws.proofs.Meeting.{meets_where}

-- a row has a least late number
pub record HasLate (x : ℕ → ℕ → Date) (r : EndlessRow) : Type 0 where
  pub number : ℕ
  pub due : ℕ
  pub date : ℕ
  pub least : IsLeastLate x r number due date

-- or none: it is enough to look up to a bound, by the longest hold and the most tokens of a place
pub late_or_none : (net : NetLists) (ends : HasEndsInRange net) (live : IsLive net) (x : ℕ → ℕ → Date) (least : IsLeastUnder net inputs_at_zero x)
    (r : EndlessRow) → IsEndlessRow net r → NoneLate x r ⊎ HasLate x r
late_or_none net ends live x least r row =
    let n : ℕ = length net.transitions in
    let t : ℕ = r.transition.index in
    let z : ℕ → ℕ = least_number net ends live x least t in
    let hold : ℕ = hold_bound net in
    let most : ℕ = token_bound net + 1 in
    let marks : All (λ p. p.tokens ≤ most) net.places = λ i d l. (let few : (get_or net.places i d).tokens ≤ token_bound net = tokens_bounded net i d l in omega arith) in
    let bound : ℕ = flat_bound (n * most) most r.every (length r.dates) + steep_bound (n * most)
    (n * most) (n * r.every * hold) r.every greatest_input_date in
    ⊎_elim
    (λ none. inl (λ k due date h.
    let soon : LateWithin z (due_number r) bound =
    late_soon (unrolled net) n (n * most) (n * most)
    (n * r.every * hold) most r.every greatest_input_date r.gap (length r.dates) (least_number net ends live x least) (due_number r)
    (setting net ends live x least r row hold most (omega arith) (holds_bounded net) marks) t k row.in_range h.from_one (late_to net ends live x least r k due date h) in
    let kept = none soon.number soon.some soon.within in
    let late = soon.late in
    absurd (omega arith)))
    (λ (f : IsLeastIn z (due_number r)). inr (record {
      number = f.number;
      due = due_number r f.number;
      date = z f.number;
      least = record { late = late_from net ends live x least r row f.number f.some f.late; first = λ j d y l. f.first j l.from_one (late_to net ends live x least r j d y l) };
    }))
    (least_to z (due_number r) bound)

-- the first of the rows
record HasFirst (x : ℕ → ℕ → Date) (rows : List EndlessRow) : Type 0 where
  row : EndlessRow
  number : ℕ
  due : ℕ
  date : ℕ
  first : IsFirstLateRow x rows row number due date

first_row : (x : ℕ → ℕ → Date) (rows : List EndlessRow) → All (λ r. NoneLate x r ⊎ HasLate x r) rows → All (NoneLate x) rows ⊎ HasFirst x rows
first_row x [] each = inl (λ i d l. absurd (omega arith))
first_row x (r ∷ rows) each = ⊎_elim
    (λ (none : NoneLate x r). ⊎_elim
    (λ rest. inl (All-cons (NoneLate x) r rows none rest))
    (λ (f : HasFirst x rows). inr (record {
      row = f.row;
      number = f.number;
      due = f.due;
      date = f.date;
      first = record { index = suc f.first.index; is_row = f.first.is_row; none_before = All-cons (NoneLate x) r (take f.first.index rows) none f.first.none_before; least_late = f.first.least_late };
    }))
    (first_row x rows (λ i d l. each (suc i) d (omega arith))))
    (λ (h : HasLate x r). inr (record {
      row = r;
      number = h.number;
      due = h.due;
      date = h.date;
      first = record { index = 0; is_row = refl; none_before = λ i d l. absurd (omega arith); least_late = h.least };
    }))
    (each 0 r (omega arith))

pub meet_or_first : EndlessMeetOrLate
meet_or_first net ends live rows each x least = ⊎_elim
    (λ none. inl ((meets_where net ends live rows each x least).1 none))
    (λ (f : HasFirst x rows). inr (f.row, f.number, f.due, f.date, f.first))
    (first_row x rows (λ i d l. late_or_none net ends live x least (get_or rows i d) (each.each i d l)))

-- a row that stands at a number of the list
pub row_at : (rows : List EndlessRow) (i : ℕ) (r : EndlessRow) → slice_get rows i ≡ Some r → (i < length rows) × ((o : EndlessRow) → get_or rows i o ≡ r)
row_at [] i r e = absurd (cc)
row_at (x ∷ xs) zero r e = (omega arith, λ o. cc)
row_at (x ∷ xs) (suc i) r e = let old = row_at xs i r e in (omega (arith, old.0), old.1)

pub late_excludes : EndlessLateExcludesMeet
late_excludes net ends live rows each x least r k due date first meets =
    let at = row_at rows first.index r first.is_row in
    let none : NoneLate x r = rw (at.1 r) at ((meets_where net ends live rows each x least).0 meets first.index r at.0) in
    none k due date first.least_late.late
