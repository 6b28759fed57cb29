-- The first row with a late number, by the net without its input lists.
use Rattle.std.proofs.Common.{ℕ, List, [], ◌∷◌, ◌≡◌, take, subst, sym}
use Rattle.std.specs.Prelude.{Some, All, slice_get}
use Rattle.teg_net.specs.Circuits.{IsLive}
use Rattle.teg_net.specs.Nets.{NetLists, HasEndsInRange}
use Rattle.teg_model.specs.Datings.{IsLeastUnder, listed_releases}
use Rattle.teg_text.specs.Lines.{written}
use Rattle.late_lines.specs.LateLines.{late_line}
use Rattle.due_laws.specs.MeetingDueDates.{InputsMeet, inputs_at_zero}
use Rattle.endless_due.specs.declared.row.EndlessRow.{EndlessRow}
use Rattle.endless_due.specs.EndlessRows.{IsEndlessOf, IsEndlessRow, due_on}
use Rattle.forever_laws.specs.EndlessDues.{ZeroInputsAreNoLists}
use Rattle.forever_laws.specs.Late.{NoneLate}
use Rattle.forever_laws.proofs.FirstRows.{row_at}
use Rattle.forever_laws.proofs.Meeting.{meets_where}
use Rattle.endless_laws.specs.LateRows.{IsLeastLateOf}
use Rattle.forever_check.specs.ShownLate.{IsLateAfter, IsShownEndlessLate}
use Rattle.forever_check.specs.ShownReleases.{with_lists}

-- rows of a net are rows of the net without its input lists
pub plain_row : (net plain : NetLists) → plain ≡ with_lists net [] → (r : EndlessRow) → IsEndlessRow net r → IsEndlessRow plain r
plain_row net plain is r row =
    subst (λ (n : NetLists). IsEndlessRow n r) (sym is)
    (record { in_range = row.in_range; no_input = row.no_input; few = row.few; dates_in = row.dates_in; never_falls = row.never_falls; goes_on = row.goes_on })

pub plain_rows : (net plain : NetLists) → plain ≡ with_lists net [] → (rows : List EndlessRow) → IsEndlessOf net rows → IsEndlessOf plain rows
plain_rows net plain is rows all = record { each = λ i o l. plain_row net plain is _ (all.each i o l); once = all.once }

-- a row among others is one of the net
pub row_among : (net : NetLists) (rows : List EndlessRow) → IsEndlessOf net rows → (i : ℕ) (r : EndlessRow) → slice_get rows i ≡ Some r → IsEndlessRow net r
row_among net rows all i r is = let at = row_at rows i r is in subst (IsEndlessRow net) (at.1 r) (all.each i r at.0)

late_plain : ZeroInputsAreNoLists → (net : NetLists) → HasEndsInRange net → IsLive net → (before : List EndlessRow) → IsEndlessOf net before → (row : EndlessRow) (k due least : ℕ)
    → IsLeastLateOf (with_lists net []) row k due least → InputsMeet (with_lists net []) (due_on before) (listed_releases (with_lists net [])) → IsLateAfter net before row k due least
late_plain zeros net ends live before all row k due least late meet =
    let under : IsLeastUnder net inputs_at_zero late.0 = (zeros net late.0).0 late.1 in
    let met : InputsMeet net (due_on before) inputs_at_zero = (meet.0, (zeros net meet.0).0 meet.1, meet.2) in
    let none : All (NoneLate late.0) before = (meets_where net ends live before all late.0 under).0 met in
    (late.0, under, none, late.2)

-- where the net without its lists keeps the rows before, and this is the least late number of the row
pub late_after : ZeroInputsAreNoLists → (net plain : NetLists) → plain ≡ with_lists net [] → HasEndsInRange net → IsLive net → (before : List EndlessRow) → IsEndlessOf net before
    → (row : EndlessRow) (k due least : ℕ) → IsLeastLateOf plain row k due least → InputsMeet plain (due_on before) (listed_releases plain) → IsLateAfter net before row k due least
late_after zeros net plain is ends live before all row k due least late meet =
    late_plain zeros net ends live before all row k due least (subst (λ (n : NetLists). IsLeastLateOf n row k due least) is late)
    (subst (λ (n : NetLists). InputsMeet n (due_on before) (listed_releases n)) is meet)

-- the whole text tells it
pub is_shown_late : (net : NetLists) (rows before : List EndlessRow) (place : ℕ) (row : EndlessRow) (text : List ℕ) → IsLive net → IsEndlessOf net rows → before ≡ take place rows
    → slice_get rows place ≡ Some row → (k due least : ℕ) → IsLateAfter net before row k due least → text ≡ written (late_line net row.transition k due least ∷ []) → IsShownEndlessLate net rows text
is_shown_late net rows before place row text live all is got k due least late told = record {
  live = live;
  due = all;
  dating = late.0;
  is_least = late.1;
  row = row;
  number = k;
  due_date = due;
  least = least;
  first = record { index = place; is_row = got; none_before = subst (All (NoneLate late.0)) is late.2; least_late = late.3 };
  told = told;
}
