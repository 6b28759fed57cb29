-- The canonical form is a part of the list that it was found by.
use Rattle.std.proofs.Common.{◌≡◌, ap, sym, ◌∙◌, ℤ, ℕ, arith, ◌-◌, ◌+◌, ◌<◌, ◌≤◌, List, length, get_or, take, ⊎_elim, subst}
use Rattle.std.proofs.lemmas.Bool.{cases_lt}
use Rattle.std.proofs.lemmas.List.{get_or-take, length-take-le}
use Rattle.std.proofs.Math.ListN.{get_or-eq_default}
use Rattle.dioid.specs.declared.dates.Date.{Date}
use Rattle.dioid.specs.declared.dates.Date.TheVariants.{Early}
use Rattle.series_form.specs.NumberBounds.{IsSmallDate, IsSeries, HasSmallNumbers}
use Rattle.series_laws.specs.Periodic.{Rising, Repeats}
use Rattle.series_laws.specs.SeriesForms.{Form, form_with, value_at, size_of, table, gap, shortest, HasValues, canonical_of, least_period_of, least_start_of}
use Rattle.series_laws.proofs.Canonical.{canonical_values, canonical_is, canonical_short}
use Rattle.series_laws.proofs.FormValues.{same_lists, table_at, table_length, value_in, value_repeats}
use Rattle.series_form.specs.SeriesAnswers.{IsFirstGreat, IsFirstGreatValue, IsGreatIn}
use Rattle.series_form.specs.Shapes.{shortened, IsTooGreat}

abbrev pub V : List Date → ℕ → ℤ → ℕ → Date
V l n x = value_at (form_with l n x)

taken : (l : List Date) (n : ℕ) (x : ℤ) (m : ℕ) → m ≤ length l → table (V l n x) m ≡ take m l
taken l n x m h =
    let a : length (table (V l n x) m) ≡ m = table_length (V l n x) m in
    let b : length (take m l) ≡ m = length-take-le m l h in
    same_lists (table (V l n x) m) (take m l) (a ∙ sym b) (λ k w.
    let u : k < m = omega arith in table_at (V l n x) m k u ∙ value_in (form_with l n x) k (omega arith) ∙ sym (get_or-take m l k Early u))

pub shape_form : (l : List Date) (n : ℕ) (x : ℤ) (p period begin : ℕ) (j : ℤ) → p ≡ length l - n → n ≤ length l → period ≡ least_period_of (V l n x) p n → j ≡ gap (V l n x p) (V l n x (p + period))
    → begin ≡ least_start_of (V l n x) p period j → begin ≤ p → period ≤ n → shortened l n x ≡ form_with (take (begin + period) l) period j
shape_form l n x p period begin j ep fits e g h low short =
    ap (λ (z : ℕ). canonical_of (V l n x) z n) (sym ep)
    ∙ ap (λ (z : ℕ). shortest (V l n x) p z (gap (V l n x p) (V l n x (p + z)))) (sym e)
    ∙ ap (shortest (V l n x) p period) (sym g)
    ∙ ap (λ (z : ℕ). form_with (table (V l n x) (z + period)) period j) (sym h)
    ∙ ap (λ (z : List Date). form_with z period j) (taken l n x (begin + period) (omega arith))

pub small_taken : (l : List Date) (m : ℕ) → ((k : ℕ) → k < m → IsSmallDate (get_or l k Early)) → m ≤ length l → (k : ℕ) → IsSmallDate (get_or (take m l) k Early)
small_taken l m h fits k = ⊎_elim
    (λ w. subst (λ (z : Date). IsSmallDate z) (sym (get_or-take m l k Early w)) (h k w))
    (λ w. let e : length (take m l) ≡ m = length-take-le m l fits in subst (λ (z : Date). IsSmallDate z) (sym (get_or-eq_default (take m l) Early {n = k} (omega arith))) tt)
    (cases_lt k m)

pub great_taken : (l : List Date) (m n : ℕ) (j v : ℤ) → IsFirstGreat l m v → IsFirstGreatValue (form_with (take m l) n j) v
great_taken l m n j v h = record {
  place = h.place;
  value = get_or-take m l h.place Early h.within ∙ h.value;
  great = h.great;
  before = λ k w. let u : h.place < m = h.within in subst (λ (z : Date). IsSmallDate z) (sym (get_or-take m l k Early (omega arith))) (h.before k w);
}

pub shortened_series : (l : List Date) (n : ℕ) (x : ℤ) → 0 < n → n ≤ length l → length l ≤ 20000 → Rising (value_at (form_with l n x)) → HasSmallNumbers (shortened l n x) → IsSeries (shortened l n x)
shortened_series l n x pos_n fits short up small =
    let a : Repeats (value_at (form_with l n x)) (length l - n) n x = value_repeats (form_with l n x) pos_n fits in
    let size : size_of (shortened l n x) ≤ length l - n + n = canonical_short (value_at (form_with l n x)) (length l - n) n x up pos_n a in
    record {
      canonical = canonical_is (value_at (form_with l n x)) (length l - n) n x up pos_n a;
      short = omega arith;
      small = small;
    }

pub shortened_answer : (l : List Date) (n : ℕ) (x : ℤ) → 0 < n → n ≤ length l → length l ≤ 20000 → Rising (value_at (form_with l n x)) → HasSmallNumbers (shortened l n x)
    → (r : Form) → r ≡ shortened l n x → IsSeries r × HasValues r (value_at (form_with l n x))
shortened_answer l n x pos_n fits short up small r e =
    let a : Repeats (value_at (form_with l n x)) (length l - n) n x = value_repeats (form_with l n x) pos_n fits in (
      subst (λ (z : Form). IsSeries z) (sym e) (shortened_series l n x pos_n fits short up small),
      subst (λ (z : Form). HasValues z (value_at (form_with l n x))) (sym e) (canonical_values (value_at (form_with l n x)) (length l - n) n x up pos_n a),
    )

pub shortened_great : (l : List Date) (n : ℕ) (x v : ℤ) → 0 < n → n ≤ length l → Rising (value_at (form_with l n x)) → IsTooGreat l n x v → IsGreatIn (λ r. HasValues r (value_at (form_with l n x))) v
shortened_great l n x v pos_n fits up h =
    let a : Repeats (value_at (form_with l n x)) (length l - n) n x = value_repeats (form_with l n x) pos_n fits in
    record {
      form = shortened l n x;
      canonical = canonical_is (value_at (form_with l n x)) (length l - n) n x up pos_n a;
      values = canonical_values (value_at (form_with l n x)) (length l - n) n x up pos_n a;
      number = h;
    }
