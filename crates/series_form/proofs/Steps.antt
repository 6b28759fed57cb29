-- Steps of the loops that look for the least period and the least start.
use Rattle.std.proofs.Common.{◌≡◌, refl, ap, sym, ◌∙◌, subst, ℤ, ℕ, arith, ◌-◌, ◌+◌, ◌%◌, ◌<◌, ◌≤◌, ⊎_elim, Bool, true, false}
use Rattle.std.proofs.lemmas.Bool.{cases_lt}
use Rattle.dioid.specs.declared.dates.Date.{Date}
use Rattle.series_laws.specs.SeriesForms.{Form, HasValues, canonical_of, moves, repeats_test, least_period_of, least_start_of, first_holding, gap}
use Rattle.series_laws.specs.Periodic.{Repeats, Rising}
use Rattle.dioid.specs.Dates.{move}
use Rattle.series_laws.proofs.Canonical.{canonical_is, canonical_values}
use Rattle.series_laws.proofs.LeastForms.{period_divides}
use Rattle.series_laws.proofs.FormValues.{first_next, first_found, first_le, first_holds, test_sound, test_complete, eqb_sound, eqb_complete}

abbrev pub starts : (ℕ → Date) → ℕ → ℤ → ℕ → ℕ → Bool
starts f n x p q = repeats_test f n x q (p - q)

abbrev pub turns : (ℕ → Date) → ℕ → ℕ → ℕ → Bool
turns f p n i = repeats_test f i (gap (f p) (f (p + i))) p n

-- the start found backwards: from q on the values move, and not at the shift before
pub start_found : (f : ℕ → Date) (n : ℕ) (x : ℤ) (p q : ℕ) → q ≤ p → ((k : ℕ) → q ≤ k → k < p → moves f n x k ≡ true) → (0 < q → moves f n x (q - 1) ≡ false) → q ≡ least_start_of f p n x
start_found f n x p q low all none =
    let t : ℕ → Bool = starts f n x p in
    let here : starts f n x p q ≡ true = test_complete f n x q (p - q) (λ k u v. eqb_sound (f (k + n)) (move x (f k)) (all k u (omega arith))) in
    let a : least_start_of f p n x ≤ q = first_le (starts f n x p) 0 p q (omega arith) here in
    let last : starts f n x p (0 + p) ≡ true = test_complete f n x (0 + p) (p - (0 + p)) (λ k u v. absurd (omega arith)) in
    let found : starts f n x p (least_start_of f p n x) ≡ true = first_holds (starts f n x p) 0 p last in
    ⊎_elim
    (λ less. absurd (
    let yes : moves f n x (q - 1) ≡ true = eqb_complete (f ((q - 1) + n)) (move x (f (q - 1)))
    (test_sound f n x (least_start_of f p n x) (p - least_start_of f p n x) found (q - 1) (omega arith) (omega arith)) in
    let no : moves f n x (q - 1) ≡ false = none (omega arith) in
    let c : true ≡ false = sym yes ∙ no in cc))
    (λ more. omega arith)
    (cases_lt (least_start_of f p n x) q)

pub turn_step : (f : ℕ → Date) (p n i w : ℕ) (x : ℤ) (r : Bool) → w ≡ first_holding (turns f p n) i (n - i) → i < n → x ≡ gap (f p) (f (p + i)) → r ≡ repeats_test f i x p n → r ≡ false
    → w ≡ first_holding (turns f p n) (i + 1) (n - (i + 1))
turn_step f p n i w x r e h g a b =
    let k : n - i - 1 ≡ n - (i + 1) = omega arith in
    e ∙ first_next (turns f p n) i (n - i) (omega arith) (ap (λ (z : ℤ). repeats_test f i z p n) (sym g) ∙ sym a ∙ b) ∙ ap (first_holding (turns f p n) (i + 1)) k

pub turn_found : (f : ℕ → Date) (p n i w : ℕ) (x : ℤ) (r : Bool) → w ≡ first_holding (turns f p n) i (n - i) → x ≡ gap (f p) (f (p + i)) → r ≡ repeats_test f i x p n → r ≡ true → i ≡ w
turn_found f p n i w x r e g a b = sym (e ∙ first_found (turns f p n) i (n - i) (ap (λ (z : ℤ). repeats_test f i z p n) (sym g) ∙ sym a ∙ b))

-- the least period divides every other
pub least_divides : (f : ℕ → Date) (p n : ℕ) (x : ℤ) → Rising f → 0 < n → Repeats f p n x → n % least_period_of f p n ≡ 0
least_divides f p n x up o a =
    let g : Form = canonical_of f p n in
    let same : HasValues g f = canonical_values f p n x up o a in
    period_divides g (canonical_is f p n x up o a) p n x o (record { at = λ k w. same (k + n) ∙ a.at k w ∙ ap (move x) (sym (same k)) })

-- so a number of shifts that does not divide one is not the least
pub turn_passed : (f : ℕ → Date) (p n i : ℕ) → least_period_of f p n ≡ first_holding (turns f p n) i (n - i) → i < n → n % least_period_of f p n ≡ 0 → (n % i ≡ 0 → ⊥)
    → least_period_of f p n ≡ first_holding (turns f p n) (i + 1) (n - (i + 1))
turn_passed f p n i e h d other = by_test (turns f p n i) refl where
  by_test : (b : Bool) → turns f p n i ≡ b → least_period_of f p n ≡ first_holding (turns f p n) (i + 1) (n - (i + 1))
  by_test true q = absurd (other (subst (λ (z : ℕ). n % z ≡ 0) (e ∙ first_found (turns f p n) i (n - i) q) d))
  by_test false q = let k : n - i - 1 ≡ n - (i + 1) = omega arith in e ∙ first_next (turns f p n) i (n - i) (omega arith) q ∙ ap (first_holding (turns f p n) (i + 1)) k
