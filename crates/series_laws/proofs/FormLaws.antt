-- The laws of forms.
use Rattle.std.proofs.Common.{◌≡◌, ap, arith, ℕ, ◌+◌, ◌*◌, ◌-◌, ◌/◌, ◌%◌, ◌≤◌, ◌<◌, sym, ◌∙◌, suc, zero, eqb, true}
use Rattle.std.proofs.lemmas.Nat.{mod-mul-add, div-add-mod'}
use Rattle.std.proofs.Math.Nat.{mul-le-mul_right}
use Rattle.number_laws.proofs.Numbers.{zero_test}
use Rattle.series_laws.proofs.Repeating.{repeats_from}
use Rattle.series_laws.proofs.FormValues.{value_in, value_repeats, first_le}
use Rattle.series_laws.proofs.Canonical.{canonical_values, canonical_is, canonical_short, one_canonical}
use Rattle.series_laws.specs.SeriesForms.{canonical_of}
use Rattle.series_laws.proofs.LeastForms.{period_divides, start_least}
use Rattle.series_laws.specs.Needs.{turns_of, common}
use Rattle.series_laws.proofs.Sums.{common_positive, common_second}
use Rattle.series_laws.specs.FormFacts.{IsLeastCommon, AreFormLaws}

least_common : (a b : ℕ) → 0 < a → 0 < b → IsLeastCommon a b (common a b)
least_common a b pos_a pos_b = record {
  positive = common_positive a b pos_a;
  first = let e : turns_of a b * a ≡ turns_of a b * a + 0 = omega arith in ap (λ (z : ℕ). z % a) e ∙ mod-mul-add (turns_of a b) a 0 pos_a;
  second =
      let whole : common a b / b * b ≡ common a b = common_second a b pos_b in
      let e : common a b / b * b ≡ common a b / b * b + 0 = omega arith in
      ap (λ (z : ℕ). z % b) (sym whole ∙ e) ∙ mod-mul-add (common a b / b) b 0 pos_b;
  least = λ m pos_m none_a none_b.
      let d : m / a * a + m % a ≡ m = div-add-mod' m a in
      let whole : m / a * a ≡ m = omega arith in
      let some : 1 ≤ m / a = positive (m / a) m whole pos_m in
      let test : eqb (m / a * a % b) 0 ≡ true = zero_test (m / a * a % b) (ap (λ (z : ℕ). z % b) whole ∙ none_b) in
      let low : turns_of a b ≤ m / a = first_le (λ n. eqb (n * a % b) 0) 1 (b - 1) (m / a) some test in
      omega (arith, mul-le-mul_right a low);
} where
  positive : (q m : ℕ) → q * a ≡ m → 0 < m → 1 ≤ q
  positive zero m e h = absurd (omega arith)
  positive (suc q) m e h = omega arith

pub form_laws : AreFormLaws
form_laws = record {
  listed = value_in;
  recurs = λ f pos_n fits k w. repeats_from (value_repeats f pos_n fits) k (omega arith);
  exists = λ s p n x up o a. (canonical_of s p n, record { canonical = canonical_is s p n x up o a; values = canonical_values s p n x up o a; short = canonical_short s p n x up o a });
  unique = λ f g cf cg same. one_canonical f g cf cg same;
  period_divides = period_divides;
  start_least = start_least;
  common_is = least_common;
}
