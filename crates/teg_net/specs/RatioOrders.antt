-- The order of ratios, as a function of any two pairs of numbers, and its laws. Nobody has to believe them: they are
-- checked as every proof is. They stand here since the impl cites them, and a file of specs may not name its own crate's
-- proofs.
use Rattle.std.proofs.Common.{ℕ, ◌+◌, ◌-◌, ◌*◌, ◌<◌, ◌≤◌, ◌≡◌, refl, sym, ap, subst, ◌∙◌, arith}
use Rattle.std.specs.Prelude.{true, ◌==◌, ◌&&◌}
use Rattle.std.specs.Cmp.{IsTotalOrder, both_ways, first_so, nat_cmp_is, nat_cmp_total, on_total, ranks, second_so, then_total, tied_itself, tied_then, unsigned_Decides, unsigned_tied}
use Rattle.std.specs.Ordering.{MatchOrdering, eq_by_cmp, is_eq, nat_cmp, on, ordering_then, then_cmp}
use Rattle.std.specs.declared.cmp.Ordering.{Ordering}
use Rattle.std.specs.declared.cmp.Ordering.TheVariants.{Less, Equal, Greater}
use Rattle.std.proofs.Math.Nat.{mul-le-mul_right}
use Rattle.teg_net.specs.Ratios.{Fraction}

-- the tokens of a pair, or 1 where it has none, as no ratio has: so the order is one of all pairs
abbrev pub tokens_under : Fraction → ℕ
tokens_under r = r.tokens - 1 + 1

-- the order by the products of whole numbers
abbrev pub product_cmp : Fraction → Fraction → Ordering
product_cmp r s = nat_cmp (r.time * tokens_under s) (s.time * tokens_under r)

-- the order of ratios: by the products, and of pairs that those do not tell apart, which two ratios in lowest terms are
-- only where they are one, by the tokens and the times
abbrev pub ratio_cmp : Fraction → Fraction → Ordering
ratio_cmp = then_cmp product_cmp (then_cmp (on (λ (r : Fraction). r.tokens) nat_cmp) (on (λ (r : Fraction). r.time) nat_cmp))

-- what is less is less when both are multiplied
less_times : (x y b : ℕ) → 0 < b → x < y → x * b < y * b
less_times x y b p h =
    let l : (x + 1) * b ≤ y * b = mul-le-mul_right b (let m : x + 1 ≤ y = omega arith in m) in
    let e : (x + 1) * b ≡ x * b + b = grind arith in
    omega arith

ranked_times : (x y b : ℕ) → 0 < b → (o : Ordering) → MatchOrdering o (x < y) (x ≡ y) (y < x) → MatchOrdering o (x * b < y * b) (x * b ≡ y * b) (y * b < x * b)
ranked_times x y b p Less h = less_times x y b p h
ranked_times x y b p Equal h = ap (λ n. n * b) h
ranked_times x y b p Greater h = less_times y x b p h

-- two numbers are ordered as their products with a third
cmp_times : (x y b : ℕ) → 0 < b → nat_cmp x y ≡ nat_cmp (x * b) (y * b)
cmp_times x y b p = nat_cmp_is (x * b) (y * b) (nat_cmp x y) (ranked_times x y b p (nat_cmp x y) (ranks x y))

-- three fractions a/b, c/d and e/f are ordered as three numbers
module _ (a b c d e f : ℕ) (pb : 0 < b) (pd : 0 < d) (pf : 0 < f) where
  first_numbers : nat_cmp (a * d) (c * b) ≡ nat_cmp (a * d * f) (c * b * f)
  first_numbers = cmp_times (a * d) (c * b) f pf

  second_numbers : nat_cmp (c * f) (e * d) ≡ nat_cmp (c * b * f) (e * b * d)
  second_numbers =
      let m : c * f * b ≡ c * b * f = grind arith in
      let n : e * d * b ≡ e * b * d = grind arith in
      cmp_times (c * f) (e * d) b pb ∙ (ap (λ z. nat_cmp z (e * d * b)) m ∙ ap (λ z. nat_cmp (c * b * f) z) n)

  outer_numbers : nat_cmp (a * f) (e * b) ≡ nat_cmp (a * d * f) (e * b * d)
  outer_numbers =
      let m : a * f * d ≡ a * d * f = grind arith in
      cmp_times (a * f) (e * b) d pd ∙ ap (λ z. nat_cmp z (e * b * d)) m

  fractions_trans : nat_cmp (a * d) (c * b) ≡ Less → nat_cmp (c * f) (e * d) ≡ Less → nat_cmp (a * f) (e * b) ≡ Less
  fractions_trans p q =
      outer_numbers ∙ nat_cmp_total.trans (a * d * f) (c * b * f) (e * b * d) (sym first_numbers ∙ p) (sym second_numbers ∙ q)

  fractions_congr : nat_cmp (a * d) (c * b) ≡ Equal → nat_cmp (a * f) (e * b) ≡ nat_cmp (c * f) (e * d)
  fractions_congr p =
      outer_numbers ∙ (nat_cmp_total.congr (a * d * f) (c * b * f) (e * b * d) (sym first_numbers ∙ p) ∙ sym second_numbers)

some_under : (r : Fraction) → 0 < tokens_under r
some_under r = omega arith

product_total : IsTotalOrder product_cmp
product_total = record {
  antisymm = λ r s. nat_cmp_total.antisymm (r.time * tokens_under s) (s.time * tokens_under r);
  trans = λ r s t. fractions_trans r.time (tokens_under r) s.time (tokens_under s) t.time (tokens_under t) (some_under r) (some_under s) (some_under t);
  congr = λ r s t. fractions_congr r.time (tokens_under r) s.time (tokens_under s) t.time (tokens_under t) (some_under r) (some_under s) (some_under t);
}

pub ratio_total : IsTotalOrder ratio_cmp
ratio_total = then_total product_total (then_total (on_total (λ (r : Fraction). r.tokens) nat_cmp_total) (on_total (λ (r : Fraction). r.time) nat_cmp_total))

-- two pairs of the same numbers are one
pub same_fraction : (r s : Fraction) → r.time ≡ s.time → r.tokens ≡ s.tokens → r ≡ s
same_fraction r s h k = λ i. record { time = h i; tokens = k i }

-- numbers that the order does not tell apart
number_told : (x y : ℕ) → is_eq (nat_cmp x y) ≡ true → (x == y) ≡ true
number_told x y h = sym (unsigned_tied x y) ∙ h

-- pairs have the same numbers just where the order does not tell them apart
pub ratio_ties : (r s : Fraction) → (r.time == s.time && r.tokens == s.tokens) ≡ eq_by_cmp ratio_cmp r s
ratio_ties r s =
    both_ways (r.time == s.time && r.tokens == s.tokens) (eq_by_cmp ratio_cmp r s)
    (λ h.
    let one : r ≡ s =
    same_fraction r s ((unsigned_Decides r.time s.time).0 (first_so (r.time == s.time) (r.tokens == s.tokens) h))
    ((unsigned_Decides r.tokens s.tokens).0 (second_so (r.time == s.time) (r.tokens == s.tokens) h)) in
    subst (λ (z : Fraction). eq_by_cmp ratio_cmp r z ≡ true) one (ap is_eq (tied_itself ratio_total r)))
    (λ h.
    let rest = second_so (is_eq (product_cmp r s)) (is_eq (ordering_then (nat_cmp r.tokens s.tokens) (nat_cmp r.time s.time)))
    (tied_then (product_cmp r s) (ordering_then (nat_cmp r.tokens s.tokens) (nat_cmp r.time s.time)) ∙ h) in
    let both = tied_then (nat_cmp r.tokens s.tokens) (nat_cmp r.time s.time) ∙ rest in
    let tokens = number_told r.tokens s.tokens (first_so (is_eq (nat_cmp r.tokens s.tokens)) (is_eq (nat_cmp r.time s.time)) both) in
    let time = number_told r.time s.time (second_so (is_eq (nat_cmp r.tokens s.tokens)) (is_eq (nat_cmp r.time s.time)) both) in
    λ i. time i && tokens i)
