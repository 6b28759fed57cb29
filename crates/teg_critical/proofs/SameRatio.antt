-- Slacks do not depend on how the greatest ratio is written, and a place has one.
use Rattle.std.proofs.Common.{ℕ, ◌*◌, ◌≤◌, ◌≡◌, refl, sym, ap, arith}
use Rattle.std.proofs.Math.Nat.{mul-le-mul_left, le_of_mul-le-mul_left}
use Rattle.teg_net.specs.declared.entries.PlaceId.{PlaceId}
use Rattle.teg_net.specs.Nets.{NetLists}
use Rattle.teg_net.specs.Ratios.{Fraction}
use Rattle.teg_net.specs.Circuits.{time_of, tokens_of}
use Rattle.teg_net.specs.GreatestRatios.{IsGreatestRatio, IsAnyPlace}
use Rattle.teg_critical.specs.declared.slacks.Slack.{Slack}
use Rattle.teg_critical.specs.declared.slacks.Slack.TheVariants.{NoCircuit, Critical, Rise}
use Rattle.teg_critical.specs.Slacks.{IsCritical, IsSlackOf, raised}
use Rattle.teg_critical.specs.SlackAndPaths.{SlacksAreOne, SlacksAreOfTheNet}
use Rattle.teg_critical.proofs.Rises.{any_places}

-- the same ratio, by products
abbrev IsSame : Fraction → Fraction → Type 0
IsSame r q = r.time * q.tokens ≡ q.time * r.tokens

below : (a b s u t k : ℕ) → 1 ≤ k → t * b ≡ a * k → t * u ≤ s * k → a * u ≤ s * b
below a b s u t k some is l =
    let one : b * (t * u) ≤ b * (s * k) = mul-le-mul_left {m = t * u} {n = s * k} b l in
    let two : b * (t * u) ≡ u * (t * b) = grind arith in
    let three : u * (t * b) ≡ u * (a * k) = ap (λ (z : ℕ). u * z) is in
    let four : u * (a * k) ≡ k * (a * u) = grind arith in
    let five : b * (s * k) ≡ k * (s * b) = grind arith in
    le_of_mul-le-mul_left {m = a * u} {n = s * b} {k = k} (omega arith) (omega arith)

-- a net has one greatest ratio
same_ratio : (net : NetLists) (r q : Fraction) → IsGreatestRatio net IsAnyPlace r → IsGreatestRatio net IsAnyPlace q → IsSame r q
same_ratio net r q f g =
    let c = f.attained in
    let e = g.attained in
    let one = below r.time r.tokens q.time q.tokens (time_of net c.0) (tokens_of net c.0) f.token c.3 (g.greatest c.0 c.1 (any_places c.0)) in
    let two = below q.time q.tokens r.time r.tokens (time_of net e.0) (tokens_of net e.0) g.token e.3 (f.greatest e.0 e.1 (any_places e.0)) in
    omega arith

-- what is at most the one is at most the other
moved_le : (r q : Fraction) (t k : ℕ) → 1 ≤ r.tokens → IsSame r q → t * r.tokens ≤ r.time * k → t * q.tokens ≤ q.time * k
moved_le r q t k some same l =
    let one : q.tokens * (t * r.tokens) ≤ q.tokens * (r.time * k) = mul-le-mul_left {m = t * r.tokens} {n = r.time * k} q.tokens l in
    let two : q.tokens * (t * r.tokens) ≡ r.tokens * (t * q.tokens) = grind arith in
    let three : q.tokens * (r.time * k) ≡ (r.time * q.tokens) * k = grind arith in
    let four : (r.time * q.tokens) * k ≡ (q.time * r.tokens) * k = ap (λ (z : ℕ). z * k) same in
    let five : (q.time * r.tokens) * k ≡ r.tokens * (q.time * k) = grind arith in
    le_of_mul-le-mul_left {m = t * q.tokens} {n = q.time * k} {k = r.tokens} (omega arith) (omega arith)

-- and so is what is at least
moved_ge : (r q : Fraction) (t k : ℕ) → 1 ≤ r.tokens → IsSame r q → r.time * k ≤ t * r.tokens → q.time * k ≤ t * q.tokens
moved_ge r q t k some same l =
    let one : q.tokens * (r.time * k) ≤ q.tokens * (t * r.tokens) = mul-le-mul_left {m = r.time * k} {n = t * r.tokens} q.tokens l in
    let two : q.tokens * (t * r.tokens) ≡ r.tokens * (t * q.tokens) = grind arith in
    let three : q.tokens * (r.time * k) ≡ (r.time * q.tokens) * k = grind arith in
    let four : (r.time * q.tokens) * k ≡ (q.time * r.tokens) * k = ap (λ (z : ℕ). z * k) same in
    let five : (q.time * r.tokens) * k ≡ r.tokens * (q.time * k) = grind arith in
    le_of_mul-le-mul_left {m = q.time * k} {n = t * q.tokens} {k = r.tokens} (omega arith) (omega arith)

moved_eq : (r q : Fraction) (t k : ℕ) → 1 ≤ r.tokens → IsSame r q → t * r.tokens ≡ r.time * k → t * q.tokens ≡ q.time * k
moved_eq r q t k some same e =
    let one = moved_le r q t k some same (omega arith) in
    let two = moved_ge r q t k some same (omega arith) in
    omega arith

-- the one is the greatest ratio of a net where the other is
moved_ratio : (net : NetLists) (r q : Fraction) → 1 ≤ q.tokens → IsSame r q → IsGreatestRatio net IsAnyPlace r → IsGreatestRatio net IsAnyPlace q
moved_ratio net r q some same f = record {
  some = some;
  attained = (let c = f.attained in (c.0, c.1, c.2, moved_eq r q (time_of net c.0) (tokens_of net c.0) f.some same c.3));
  token = f.token;
  greatest = λ ps c all. moved_le r q (time_of net ps) (tokens_of net ps) f.some same (f.greatest ps c all);
}

moved_critical : (net : NetLists) (r q : Fraction) (p : PlaceId) → 1 ≤ r.tokens → IsSame r q → IsCritical net r p → IsCritical net q p
moved_critical net r q p some same c = (c.0, c.1, c.2, moved_eq r q (time_of net c.0) (tokens_of net c.0) some same c.3)

moved_slack : (net : NetLists) (r q : Fraction) (p : PlaceId) (s : Slack) → 1 ≤ r.tokens → 1 ≤ q.tokens → IsSame r q → IsSlackOf net r p s → IsSlackOf net q p s
moved_slack net r q p NoCircuit sr sq same h = h
moved_slack net r q p Critical sr sq same h = moved_critical net r q p sr same h
moved_slack net r q p (Rise by) sr sq same h = (
  h.0,
  λ c. h.1 (moved_critical net q r p sq (sym same) c),
  record { same = moved_ratio (raised net p by) r q sq same h.2.same; most = λ e other. h.2.most e (moved_ratio (raised net p e) q r sr (sym same) other) },
)

pub of_the_net : SlacksAreOfTheNet
of_the_net net r q f g p l s h = moved_slack net r q p s f.some g.some (same_ratio net r q f g) h

pub one_slack : SlacksAreOne
one_slack net r p NoCircuit NoCircuit f g = refl
one_slack net r p NoCircuit Critical f g = absurd (f (g.0, g.1, g.2))
one_slack net r p NoCircuit (Rise by) f g = absurd (f g.0)
one_slack net r p Critical NoCircuit f g = absurd (g (f.0, f.1, f.2))
one_slack net r p Critical Critical f g = refl
one_slack net r p Critical (Rise by) f g = absurd (g.1 f)
one_slack net r p (Rise by) NoCircuit f g = absurd (g f.0)
one_slack net r p (Rise by) Critical f g = absurd (f.1 g)
one_slack net r p (Rise d) (Rise e) f g =
    let one : e ≤ d = f.2.most e g.2.same in
    let two : d ≤ e = g.2.most d f.2.same in
    let same : d ≡ e = omega arith in
    ap (λ (z : ℕ). Rise z) same
