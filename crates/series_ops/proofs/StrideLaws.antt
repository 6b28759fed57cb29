-- Strides and cores.
use Rattle.std.proofs.Common.{◌≡◌, ap, arith, ℕ, ℤ, zero, suc, ◌+◌, ◌*◌, ◌-◌, ◌≤◌, ◌<◌, sym, ◌∙◌, subst, ⊎_elim, inl, inr, List, [], ◌∷◌, ◌++◌, length, get_or}
use Rattle.std.specs.Int.RustNames.{unsigned_abs}
use Rattle.std.proofs.lemmas.Bool.{cases_lt}
use Rattle.std.proofs.lemmas.List.{get_or_push, get_or_append_left}
use Rattle.std.proofs.Math.ListN.{get_or-eq_default}
use Rattle.dioid.specs.declared.dates.Date.{Date}
use Rattle.dioid.specs.declared.dates.Date.TheVariants.{Early}
use Rattle.dioid.specs.Dates.{move}
use Rattle.dioid.specs.DateOrder.{Le}
use Rattle.dioid.proofs.AtMost.{le_is, le_trans, early_le}
use Rattle.series_laws.specs.Periodic.{Repeats, times}
use Rattle.series_laws.specs.SeriesForms.{Form, size_of, repeat_start, value_at, table}
use Rattle.series_laws.proofs.FormValues.{value_in}
use Rattle.series_laws.proofs.Repeating.{repeats_times, repeats_is, repeats_from}
use Rattle.series_laws.proofs.Sums.{form_repeats_own}
use Rattle.series_form.specs.NumberBounds.{IsMagnitudeUpTo, IsSeries}
use Rattle.series_form.specs.SeriesLimits.{greatest_value, greatest_value_ahead}
use Rattle.series_form.proofs.PointwiseTables.{listed_up_to}
use Rattle.series_ops.specs.declared.strides.Stride.{Stride}
use Rattle.series_ops.specs.ListFunctions.{value_listed, AreUpTo, AreEarlyTo}
use Rattle.series_ops.specs.Strides.{Gains, AreRaised, IsCoreAt, IsStride, AreCore, IsCore}
use Rattle.series_ops.proofs.FirstValues.{listed_is}

-- ---- strides

-- where the values of a function are raised below the place from which they repeat
pub gains_of_list : (f : ℕ → Date) (l : List Date) (q p n m : ℕ) (x : ℤ) → Repeats f p n x → l ≡ table f m → p + n ≤ m → AreRaised l q p n x → Gains f q n x
gains_of_list f l q p n m x again e w h = record {
  at = λ k a. ⊎_elim
      (λ low.
      let one : get_or l k Early ≡ f k = listed_is f m l e k (omega arith) in
      let two : get_or l (k + n) Early ≡ f (k + n) = listed_is f m l e (k + n) (omega arith) in
      le_trans (le_is (ap (move x) (sym one))) (le_trans (h k a low) (le_is two)))
      (λ high. le_is (sym (again.at k high)))
      (cases_lt k p);
}

-- the stride of the period
pub own_is_stride : (f : Form) (stride : Stride) → IsSeries f → stride.from ≡ repeat_start f → stride.shifts ≡ f.period → stride.gain ≡ f.step → IsStride f stride
own_is_stride f stride h ef en ex =
    let some : 0 < f.period = h.canonical.form.period_positive in
    let fits : f.period ≤ size_of f = h.canonical.form.period_fits in
    let again : Repeats (value_at f) (repeat_start f) stride.shifts stride.gain = repeats_is (sym en) (sym ex) (form_repeats_own f h.canonical.form) in
    record {
      shifts = omega arith;
      short = omega arith;
      from = omega arith;
      gain = subst (λ (z : ℤ). unsigned_abs z ≤ greatest_value) (sym ex) h.small.step;
      again = again;
      gains = record { at = λ k a. le_is (sym (again.at k (omega arith))) };
    }

positive_times : (m n : ℕ) → 0 < m → 0 < n → 0 < m * n
positive_times zero n h k = absurd (omega arith)
positive_times (suc m) n h k = omega arith

-- the stride of some turns
pub turns_are_stride : (f : Form) (stride : Stride) (l : List Date) (m : ℕ) → IsSeries f → 0 < m → stride.shifts ≡ m * f.period → stride.gain ≡ times m f.step → m * f.period ≤ size_of f
    → unsigned_abs stride.gain ≤ greatest_value → stride.from ≤ repeat_start f → l ≡ table (value_at f) (repeat_start f + size_of f)
    → AreRaised l stride.from (repeat_start f) stride.shifts stride.gain → IsStride f stride
turns_are_stride f stride l m h some en ex short small from e raised =
    let one : 0 < f.period = h.canonical.form.period_positive in
    let again : Repeats (value_at f) (repeat_start f) stride.shifts stride.gain = repeats_is (sym en) (sym ex) (repeats_times m (form_repeats_own f h.canonical.form)) in
    record {
      shifts = let u : 0 < m * f.period = positive_times m f.period some one in omega arith;
      short = omega arith;
      from = from;
      gain = small;
      again = again;
      gains = gains_of_list (value_at f) l stride.from (repeat_start f) stride.shifts (repeat_start f + size_of f) stride.gain again e (omega arith) raised;
    }

-- ---- the core

-- by a list of the function
core_of_list : (f : ℕ → Date) (l : List Date) (p n m k : ℕ) (x : ℤ) (d : Date) → l ≡ table f m → k < m → IsCoreAt (value_listed l) p n x k d → IsCoreAt f p n x k d
core_of_list f l p n m k x d e w h = ⊎_elim
    (λ own. inl (own ∙ listed_is f m l e k w))
    (λ out. inr (
      record {
        past = out.0.past;
        moved = sym (listed_is f m l e k w) ∙ out.0.moved ∙ ap (move x) (listed_is f m l e (k - n) (omega arith));
      },
      out.1,
    ))
    h

-- the list of the core
pub core_listed : (f : Form) (stride : Stride) (l c : List Date) → IsStride f stride → l ≡ table (value_at f) (repeat_start f + size_of f)
    → length c ≡ repeat_start f + stride.shifts → AreCore (value_listed l) stride c (repeat_start f + stride.shifts) → IsCore f stride c
core_listed f stride l c h e size core = record {
  is_stride = h;
  size = size;
  at = λ k. ⊎_elim
      (λ low. core_of_list (value_at f) l stride.from stride.shifts (repeat_start f + size_of f) k stride.gain (value_listed c k) e (let w = h.short in omega arith) (core k low))
      (λ high. inr (
        record {
          past = let w = h.from in omega arith;
          moved = repeats_from h.again k high;
        },
        get_or-eq_default c Early {n = k} (omega arith),
      ))
      (cases_lt k (repeat_start f + stride.shifts));
}

-- one value more
pub core_pushed : (f : ℕ → Date) (stride : Stride) (l c : List Date) (m : ℕ) (d : Date) → length l ≡ m → c ≡ l ++ d ∷ [] → AreCore f stride l m
    → IsCoreAt f stride.from stride.shifts stride.gain m d → AreCore f stride c (m + 1)
core_pushed f stride l c m d size e h next = subst (λ (z : List Date). AreCore f stride z (m + 1)) (sym e) (λ k w. ⊎_elim
    (λ low. subst (λ (z : Date). IsCoreAt f stride.from stride.shifts stride.gain k z) (sym (get_or_append_left l (d ∷ []) Early k (omega arith))) (h k low))
    (λ high.
    let here : m ≡ k = omega arith in
    let last : length l ≡ k = omega arith in
    subst (λ (z : Date). IsCoreAt f stride.from stride.shifts stride.gain k z) (sym (get_or_push l d Early k last))
    (subst (λ (z : ℕ). IsCoreAt f stride.from stride.shifts stride.gain z d) here next))
    (cases_lt k m))

-- a value of the core is at most that of the function
pub core_le : (f : ℕ → Date) (p n k : ℕ) (x : ℤ) (d : Date) → IsCoreAt f p n x k d → Le d (f k)
core_le f p n k x d h = ⊎_elim (λ own. le_is own) (λ out. le_trans (le_is out.1) (early_le (f k))) h

-- and is it at the first places
pub core_begins : (f : ℕ → Date) (p n k : ℕ) (x : ℤ) (d : Date) → k < p + n → IsCoreAt f p n x k d → d ≡ f k
core_begins f p n k x d w h = ⊎_elim (λ own. own) (λ out. let past = out.0.past in absurd (omega arith)) h

core_value_up_to : (f : ℕ → Date) (p n k m : ℕ) (x : ℤ) (d : Date) → IsCoreAt f p n x k d → IsMagnitudeUpTo m (f k) → IsMagnitudeUpTo m d
core_value_up_to f p n k m x d h low = ⊎_elim
    (λ own. subst (λ (z : Date). IsMagnitudeUpTo m z) (sym own) low)
    (λ out. subst (λ (z : Date). IsMagnitudeUpTo m z) (sym out.1) tt) h

-- the values of a short core
pub core_up_to : (f : Form) (stride : Stride) (l : List Date) → IsSeries f → IsCore f stride l → length l ≤ 20000 → AreUpTo greatest_value_ahead l
core_up_to f stride l sf h short k = ⊎_elim
    (λ low. core_value_up_to (value_at f) stride.from stride.shifts k greatest_value_ahead stride.gain (get_or l k Early) (h.at k) (listed_up_to f sf k (omega arith)))
    (λ high. subst (λ (z : Date). IsMagnitudeUpTo greatest_value_ahead z) (sym (get_or-eq_default l Early {n = k} high)) tt)
    (cases_lt k (length l))

-- where the list of the function is still Early
pub core_early : (f : Form) (stride : Stride) (l v : List Date) (n : ℕ) → IsCore f stride l → v ≡ f.values → n ≤ stride.from → AreEarlyTo n v → AreEarlyTo n l
core_early f stride l v n h e w early k u =
    let from : stride.from ≤ repeat_start f = h.is_stride.from in
    let own : value_listed l k ≡ value_at f k = core_begins (value_at f) stride.from stride.shifts k stride.gain (get_or l k Early) (omega arith) (h.at k) in
    own ∙ value_in f k (omega arith) ∙ ap (λ (z : List Date). get_or z k Early) (sym e) ∙ early k u
