-- A canonical form has the least period and the least start of all by which its values repeat.
use Rattle.std.proofs.Common.{◌≡◌, refl, ap, arith, ℕ, ℤ, pos, zero, suc, ◌+◌, ◌*◌, ◌/◌, ◌%◌, ◌≤◌, ◌<◌, ◌+ℤ◌, ◌-ℤ◌, sym, ◌∙◌}
use Rattle.std.proofs.lemmas.Nat.{mod_below, div-add-mod'}
use Rattle.std.proofs.Math.Nat.{le-mul_of_pos_right}
use Rattle.dioid.specs.declared.dates.Date.TheVariants.{Early, Never}
use Rattle.dioid.specs.Dates.{move}
use Rattle.dioid.proofs.AtMost.{le_is, le_trans, le_antisym, early_le, never_le}
use Rattle.dioid.proofs.Moves.{move_move, move_forth, moved_to_never}
use Rattle.series_laws.specs.Periodic.{Repeats, times}
use Rattle.series_laws.proofs.Repeating.{repeats_times}
use Rattle.series_laws.specs.SeriesForms.{Form, size_of, repeat_start, value_at, IsForm, IsCanonical, canonical_of}
use Rattle.series_laws.proofs.FormValues.{value_repeats, pulled_back}
use Rattle.series_laws.proofs.Canonical.{canonical_values, canonical_is, canonical_short, least_below, one_canonical}

own_repeats : (f : Form) → IsForm f → Repeats (value_at f) (repeat_start f) f.period f.step
own_repeats f is = value_repeats f is.period_positive is.period_fits

-- the tail of a form is known by one value past its start
pub never_start : (f : Form) → IsForm f → (k : ℕ) → value_at f k ≡ Never → value_at f (repeat_start f) ≡ Never
never_start f is k e =
    let long : Repeats (value_at f) (repeat_start f) (k * f.period) (times k f.step) = repeats_times k (own_repeats f is) in
    let far : k ≤ repeat_start f + k * f.period = omega (arith, le-mul_of_pos_right k is.period_positive) in
    let there : value_at f (repeat_start f + k * f.period) ≡ Never = never_le (le_trans (le_is (sym e)) (is.rising.rises k (repeat_start f + k * f.period) far)) in
    moved_to_never (times k f.step) (value_at f (repeat_start f)) (sym (long.at (repeat_start f) (omega arith)) ∙ there)

pub early_start : (f : Form) → IsForm f → (k : ℕ) → repeat_start f ≤ k → value_at f k ≡ Early → value_at f (repeat_start f) ≡ Early
early_start f is k l e = le_antisym (le_trans (is.rising.rises (repeat_start f) k l) (le_is e)) (early_le (value_at f (repeat_start f)))

-- a period of the values is at least that of a canonical form
period_least : (f : Form) → IsCanonical f → (q m : ℕ) (y : ℤ) → 0 < m → Repeats (value_at f) q m y → f.period ≤ m
period_least f is q m y o a =
    let g : Form = canonical_of (value_at f) q m in
    let low : f.period ≤ g.period = is.least_period g (canonical_is (value_at f) q m y is.form.rising o a).form (canonical_values (value_at f) q m y is.form.rising o a) in
    let short : g.period ≤ m = least_below (value_at f) q m y is.form.rising o a in
    omega arith

-- and a multiple of it
pub period_divides : (f : Form) → IsCanonical f → (q m : ℕ) (y : ℤ) → 0 < m → Repeats (value_at f) q m y → m % f.period ≡ 0
period_divides f is q m y o a = by_rest (m % f.period) refl where
  by_rest : (r : ℕ) → m % f.period ≡ r → m % f.period ≡ 0
  by_rest zero e = e
  by_rest (suc r) e =
      let own : Repeats (value_at f) (repeat_start f) f.period f.step = own_repeats f is.form in
      let here : Repeats (value_at f) (repeat_start f) m y = pulled_back (value_at f) (repeat_start f) f.period q m f.step y is.form.period_positive own a in
      let d : ℕ = m / f.period in
      let whole : d * f.period + m % f.period ≡ m = div-add-mod' m f.period in
      let long : Repeats (value_at f) (repeat_start f) (d * f.period) (times d f.step) = repeats_times d own in
      let back : ℤ = pos 0 -ℤ times d f.step in
      let rest : Repeats (value_at f) (repeat_start f) (suc r) (y +ℤ back) = record {
        at = λ k w.
            let split : (k + suc r) + d * f.period ≡ k + m = omega arith in
            sym (move_forth (times d f.step) (value_at f (k + suc r)))
            ∙ ap (move back) (sym (long.at (k + suc r) (omega arith)) ∙ ap (value_at f) split ∙ here.at k w)
            ∙ move_move y back (value_at f k);
      } in
      let low : f.period ≤ suc r = period_least f is (repeat_start f) (suc r) (y +ℤ back) (omega arith) rest in
      let below : m % f.period < f.period = mod_below m f.period is.form.period_positive in
      absurd (omega arith)

-- the values repeat from no earlier shift than the start of a canonical form
pub start_least : (f : Form) → IsCanonical f → (q m : ℕ) (y : ℤ) → 0 < m → Repeats (value_at f) q m y → repeat_start f ≤ q
start_least f is q m y o a =
    let p : ℕ = f.period in
    let early : Repeats (value_at f) q p f.step = pulled_back (value_at f) q m (repeat_start f) p y f.step o a (own_repeats f is.form) in
    let g : Form = canonical_of (value_at f) q p in
    let one : g ≡ f = one_canonical g f (canonical_is (value_at f) q p f.step is.form.rising is.form.period_positive early) is
    (canonical_values (value_at f) q p f.step is.form.rising is.form.period_positive early) in
    let short : size_of g ≤ q + p = canonical_short (value_at f) q p f.step is.form.rising is.form.period_positive early in
    let same : size_of g ≡ size_of f = ap (λ (z : Form). size_of z) one in
    omega arith
