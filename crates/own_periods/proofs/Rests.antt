-- Rests by a common divisor.
use Rattle.std.proofs.Common.{ℕ, ◌+◌, ◌*◌, ◌/◌, ◌%◌, ◌<◌, ◌≤◌, ◌≡◌, sym, ap, subst, ◌∙◌, arith, ⊎_elim}
use Rattle.std.specs.Int.{◌∣◌}
use Rattle.std.proofs.lemmas.Bool.{cases_lt}
use Rattle.std.proofs.lemmas.Nat.{div-add-mod'}
use Rattle.std.proofs.Math.Nat.{add-mul-mod_self_right, div-mul_cancel, eq-zero_of_zero-dvd, mul-le-mul_right}

-- a number with a rest is one with that rest, or so much later
pub next_rest : (a b apart : ℕ) → 0 < apart → a % apart ≡ b % apart → b ≤ a → a < b + apart → a ≡ b
next_rest a b apart some same low high =
    let x : a / apart * apart + a % apart ≡ a = div-add-mod' a apart in
    let y : b / apart * apart + b % apart ≡ b = div-add-mod' b apart in
    ⊎_elim
    (λ (l : b / apart < a / apart).
    let up : (b / apart + 1) * apart ≤ a / apart * apart = mul-le-mul_right apart (omega (arith, l)) in
    let more : (b / apart + 1) * apart ≡ b / apart * apart + apart = grind arith in
    absurd (omega (arith, x, y, same, high, up, more)))
    (λ (l : a / apart ≤ b / apart).
    let up : a / apart * apart ≤ b / apart * apart = mul-le-mul_right apart l in
    omega (arith, x, y, same, low, up))
    (cases_lt (b / apart) (a / apart))

-- numbers that meet have rests that do
pub rests_meet : (a b m p q r s apart : ℕ) → apart ∣ p → apart ∣ q → a + r * p ≡ b + m + s * q → a % apart ≡ (b % apart + m) % apart
rests_meet a b m p q r s apart u v h =
    let x : p / apart * apart ≡ p = div-mul_cancel apart u in
    let y : q / apart * apart ≡ q = div-mul_cancel apart v in
    let z : b / apart * apart + b % apart ≡ b = div-add-mod' b apart in
    let left : a + (r * (p / apart)) * apart ≡ a + r * (p / apart * apart) = grind arith in
    let one : (a + (r * (p / apart)) * apart) % apart ≡ a % apart = add-mul-mod_self_right a (r * (p / apart)) apart in
    let right : (b % apart + m) + (b / apart + s * (q / apart)) * apart ≡ (b / apart * apart + b % apart) + m + s * (q / apart * apart) = grind arith in
    let two : ((b % apart + m) + (b / apart + s * (q / apart)) * apart) % apart ≡ (b % apart + m) % apart = add-mul-mod_self_right (b % apart + m) (b / apart + s * (q / apart)) apart in
    let whole_left : a + (r * (p / apart)) * apart ≡ a + r * p = left ∙ ap (λ i. a + r * i) x in
    let whole_right : (b % apart + m) + (b / apart + s * (q / apart)) * apart ≡ b + m + s * q = right ∙ (ap (λ i. i + m + s * (q / apart * apart)) z ∙ ap (λ i. b + m + s * i) y) in
    sym one ∙ (ap (λ i. i % apart) (whole_left ∙ (h ∙ sym whole_right)) ∙ two)

-- so much later the rest is the same
pub rest_on : (a apart : ℕ) → (a + apart) % apart ≡ a % apart
rest_on a apart =
    let one : 1 * apart ≡ apart = omega arith in
    sym (ap (λ i. (a + i) % apart) one) ∙ add-mul-mod_self_right a 1 apart

-- what divides a number above 0 is above 0
pub some_divisor : (d n : ℕ) → 1 ≤ n → d ∣ n → 0 < d
some_divisor d n some h =
    ⊎_elim
    (λ (l : 0 < d). l)
    (λ (l : d ≤ 0).
    let is : d ≡ 0 = omega (arith, l) in
    let none : n ≡ 0 = eq-zero_of_zero-dvd (subst (λ i. i ∣ n) is h) in
    absurd (omega (arith, none, some)))
    (cases_lt 0 d)
