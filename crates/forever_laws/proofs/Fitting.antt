-- Due series, and series of walk times that settle soon, have small numbers.
use Rattle.std.proofs.Common.{ℕ, ℤ, pos, ◌+◌, ◌-◌, ◌*◌, ◌<◌, ◌≤◌, ◌≡◌, ◌+ℤ◌, List, [], length, get_or, inl, inr, refl, sym, ap, subst, ◌∙◌, arith, ⊎_elim}
use Rattle.std.specs.Int.RustNames.{unsigned_abs}
use Rattle.std.proofs.lemmas.Bool.{cases_lt}
use Rattle.std.proofs.lemmas.Int.{ints}
use Rattle.std.proofs.lemmas.List.{get_or_past, length-map}
use Rattle.walk_times.specs.dioid.declared.dates.Date.{Date}
use Rattle.walk_times.specs.dioid.declared.dates.Date.TheVariants.{Early, At, Never}
use Rattle.walk_times.specs.dioid.Dates.{move}
use Rattle.walk_times.specs.series_laws.Periodic.{Rising}
use Rattle.walk_times.specs.series_laws.SeriesForms.{Form, form_with, size_of, repeat_start, value_at, HasValues, IsCanonical, canonical_of}
use Rattle.walk_times.proofs.series_laws_proofs.FormValues.{value_in, value_repeats}
use Rattle.walk_times.proofs.series_laws_proofs.Canonical.{canonical_is, canonical_values, canonical_short, one_canonical}
use Rattle.walk_times.specs.series_form.NumberBounds.{IsSmallDate, HasSmallNumbers, IsSeries}
use Rattle.walk_times.specs.series_form.SeriesLimits.{greatest_value}
use Rattle.teg_net.specs.Nets.{NetLists, IsNet, HasEndsInRange}
use Rattle.teg_net.specs.Circuits.{IsLive}
use Rattle.teg_net.specs.Limits.{greatest_input_date}
use Rattle.teg_net.specs.Walks.{walk_time}
use Rattle.walk_times.specs.teg_model.DateBounds.{IsDateWithin}
use Rattle.walk_times.specs.teg_model.Datings.{IsLeastUnder, system_of}
use Rattle.walk_times.proofs.teg_model_proofs.LeastOver.{least_over}
use Rattle.walk_times.proofs.teg_model_proofs.LiveRanks.{live_is_ranked}
use Rattle.walk_times.proofs.teg_model_proofs.OfNet.{least_of, least_of_system, net_ends}
use Rattle.due_laws.specs.MeetingDueDates.{inputs_at_zero}
use Rattle.walk_times.specs.settled_laws.SettledForms.{settled_length, row_of, step_of_form}
use Rattle.walk_times.specs.Transfers.{IsGreatestWalkTime}
use Rattle.endless_due.specs.declared.row.EndlessRow.{EndlessRow}
use Rattle.endless_due.specs.EndlessRows.{IsEndlessRow, most_endless_dates}
use Rattle.forever_laws.specs.SeriesColumns.{listed_dates}
use Rattle.forever_laws.specs.EndlessDues.{WalkSeriesFit, DueSeriesFit}
use Rattle.forever_laws.proofs.GoingOn.{due_number, due_slow}
use Rattle.forever_laws.proofs.Zeros.{least_number, date_is, walk_most}
use Rattle.forever_laws.proofs.Soon.{product_most, date_within}
use Rattle.forever_laws.proofs.Inputs.{input_in}
use Rattle.forever_laws.proofs.Series.{due_date_is, dues_are_series, transfers_are_series}
use Rattle.forever_laws.proofs.OneColumn.{one_time}

-- ---- canonical forms

-- the canonical form of what a list gives is no longer than the list
canonical_size : (l : List Date) (n : ℕ) (x : ℤ) (h : Form) → 0 < n → n ≤ length l → Rising (value_at (form_with l n x)) → IsCanonical h
    → HasValues h (value_at (form_with l n x)) → size_of h ≤ length l
canonical_size l n x h some fits up is same =
    let s : ℕ → Date = value_at (form_with l n x) in
    let again = value_repeats (form_with l n x) some fits in
    let p : ℕ = length l - n in
    let e : h ≡ canonical_of s p n = one_canonical h (canonical_of s p n) is (canonical_is s p n x up some again) (λ k. same k ∙ sym (canonical_values s p n x up some again k)) in
    let long : size_of h ≡ size_of (canonical_of s p n) = ap size_of e in
    let short : size_of (canonical_of s p n) ≤ p + n = canonical_short s p n x up some again in
    omega arith

small_of : (d : Date) → IsDateWithin greatest_value d → IsSmallDate d
small_of Early h = tt
small_of (At x) h = omega (arith, ints, h.0, h.1)
small_of Never h = tt

-- what lies between two numbers that are small is small
between : (t x : ℤ) → IsDateWithin greatest_value (At t) → IsDateWithin greatest_value (At (t +ℤ x)) → unsigned_abs x ≤ greatest_value
between t x h k = omega (arith, ints, h.0, h.1, k.0, k.1)

-- a canonical form whose values are small as far as one past its list has small numbers
pub small_numbers : (h : Form) → IsCanonical h → ((k : ℕ) → k ≤ size_of h → IsDateWithin greatest_value (value_at h k)) → HasSmallNumbers h
small_numbers h is within = record { values = values; step = step (value_at h (repeat_start h)) refl } where
  values : (k : ℕ) → IsSmallDate (get_or h.values k Early)
  values k = ⊎_elim
      (λ (l : k < size_of h). subst IsSmallDate (value_in h k l) (small_of (value_at h k) (within k (omega arith))))
      (λ (l : size_of h ≤ k). subst IsSmallDate (sym (get_or_past h.values k Early l)) tt)
      (cases_lt k (size_of h))

  none : h.step ≡ pos 0 → unsigned_abs h.step ≤ greatest_value
  none e = rw e (omega arith)

  step : (d : Date) → value_at h (repeat_start h) ≡ d → unsigned_abs h.step ≤ greatest_value
  step Early e = none (is.form.tail (inr e)).1
  step Never e = none (is.form.tail (inl e)).1
  step (At t) e =
      let fits = is.form.period_fits in
      let some = is.form.period_positive in
      let last : repeat_start h + h.period ≡ size_of h = omega arith in
      let next : value_at h (size_of h) ≡ At (t +ℤ h.step) = ap (value_at h) (sym last) ∙ (value_repeats h some fits).at (repeat_start h) (omega arith) ∙ ap (move h.step) e in
      between t h.step (subst (IsDateWithin greatest_value) e (within (repeat_start h) (omega arith))) (subst (IsDateWithin greatest_value) next (within (size_of h) (omega arith)))

-- a canonical form of what a list of at most 20,000 values gives, with small values as far as that, is a series
series_of : (l : List Date) (n : ℕ) (x : ℤ) (h : Form) → 0 < n → n ≤ length l → length l ≤ 20000 → Rising (value_at (form_with l n x)) → IsCanonical h → HasValues h (value_at (form_with l n x))
    → ((k : ℕ) → k ≤ 20000 → IsDateWithin greatest_value (value_at h k)) → IsSeries h
series_of l n x h some fits short up is same within =
    let size = canonical_size l n x h some fits up is same in
    record { canonical = is; short = omega arith; small = small_numbers h is (λ k m. within k (omega arith)) }

-- ---- due dates

pub due_low : (net : NetLists) (r : EndlessRow) → IsEndlessRow net r → (k : ℕ) → k ≤ 40001 → due_number r k ≤ greatest_value
due_low net r row k few =
    let some = row.goes_on.some in
    let every = row.goes_on.every_in in
    let gap = row.goes_on.gap_in in
    let slow = due_slow net r row k in
    let one : 1 * due_number r k ≤ r.every * due_number r k = product_most 1 (due_number r k) r.every (due_number r k) some (omega arith) in
    let two : r.every * greatest_input_date ≤ 1000 * greatest_input_date = product_most r.every greatest_input_date 1000 greatest_input_date every (omega arith) in
    let three : r.gap * (k + r.every) ≤ greatest_input_date * 41001 = product_most r.gap (k + r.every) greatest_input_date 41001 gap (omega arith) in
    omega arith

pub due_series_fit : DueSeriesFit
due_series_fit net r row d is =
    let list = dues_are_series net r row in
    let long : length (listed_dates r) ≡ length r.dates = length-map r.dates (λ d. At (pos d)) in
    let few : length r.dates ≤ most_endless_dates = row.few in
    series_of (listed_dates r) r.every (pos r.gap) d list.some list.fits (omega arith) list.rising is.canonical
    (λ k. is.dates k ∙ sym (list.each k))
    (λ k l. subst (IsDateWithin greatest_value) (sym (is.dates k ∙ due_date_is r k)) (let low = due_low net r row (k + 1) (omega arith) in (omega (arith, ints), omega (arith, ints))))

-- ---- walk times

zero_dating : (net : NetLists) → HasEndsInRange net → IsLive net → (x : ℕ → ℕ → Date) × IsLeastUnder net inputs_at_zero x
zero_dating net ends live =
    let ranked = live_is_ranked net ends live in
    let x = least_over (system_of net inputs_at_zero) ranked.0 ranked.1 in
    (x, least_of_system net inputs_at_zero x (least_of net inputs_at_zero ranked.0 ranked.1 ranked.2))

time_low : (net : NetLists) → IsNet net → IsLive net → (input t k : ℕ) (d : Date) → input < length net.transitions → t < length net.transitions → 1 ≤ k → k ≤ 20001
    → IsGreatestWalkTime net input t k d → IsDateWithin greatest_value d
time_low net ok live input t k d from to one few h =
    ⊎_elim
    (λ none. rw none.0 tt)
    (λ found.
    let ends = net_ends net ok in
    let (x, least) = zero_dating net ends live in
    let most = walk_most net ends live x least t k input 1 found.0 to one from (omega arith) found.1 in
    let low = date_within net ok live x least t k (least_number net ends live x least t k) to one (date_is net ends live x least t k to one) in
    let time : walk_time net found.0 ≤ greatest_value = omega arith in
    rw found.2 (omega (arith, ints), omega (arith, ints)))
    h.reached

pub walk_series_fit : WalkSeriesFit
walk_series_fit net ok live input from f transfer short t to h is =
    let list = transfers_are_series net input f transfer t to in
    let sizes = transfer.2.stands.sizes in
    let long : length (row_of f t) ≡ settled_length f = (let rows = sizes.rows_are in sizes.full t [] (omega arith)) in
    series_of (row_of f t) f.period (step_of_form f t) h list.some list.fits (omega arith) list.rising is.canonical
    (λ k. is_one k)
    (λ k l. time_low net ok live input t (k + 1) (value_at h k) (input_in net input from) to (omega arith) (omega arith) (is.times k)) where
      is_one : (k : ℕ) → value_at h k ≡ value_at (form_with (row_of f t) f.period (step_of_form f t)) k
      is_one k = one_time net input t (k + 1) (value_at h k) (value_at (form_with (row_of f t) f.period (step_of_form f t)) k) (is.times k) ((transfers_are_series net input f transfer t to).each k)
