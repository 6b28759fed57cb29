-- The least number at which dates that go on by steps exceed due dates that do so too.
use Rattle.std.proofs.Common.{ℕ, zero, suc, ◌+◌, ◌-◌, ◌*◌, ◌/◌, ◌%◌, ◌<◌, ◌≤◌, ◌≡◌, refl, sym, ap, ◌∙◌, arith, ⊎_elim, ◌⊎◌}
use Rattle.std.proofs.lemmas.Bool.{cases_lt}
use Rattle.std.proofs.lemmas.Nat.{mod_below, div-add-mod'}
use Rattle.std.proofs.Math.Nat.{mul-le-mul_right, mul-le-mul_left}

-- past `after` both go on in each period, z by `rise` and d by `gap`
pub record GoOn (z d : ℕ → ℕ) (after period rise gap : ℕ) : Type 0 where
  pub some : 1 ≤ period
  pub dates : (k : ℕ) → after < k → z (k + period) ≡ z k + rise
  pub dues : (k : ℕ) → after < k → d (k + period) ≡ d k + gap

pub on_by : (f : ℕ → ℕ) (after period s : ℕ) → ((k : ℕ) → after < k → f (k + period) ≡ f k + s) → (j k : ℕ) → after < k → f (k + j * period) ≡ f k + j * s
on_by f after period s h zero k l = let e : k + 0 * period ≡ k = omega arith in let g : f k + 0 * s ≡ f k = omega arith in ap f e ∙ sym g
on_by f after period s h (suc j) k l =
    let e : k + suc j * period ≡ k + j * period + period = omega arith in
    let old = on_by f after period s h j k l in
    let next = h (k + j * period) (omega arith) in
    let there : f (k + suc j * period) ≡ f (k + j * period + period) = ap f e in
    let g : suc j * s ≡ j * s + s = omega arith in
    omega arith

-- a number past the first period, by one in it
pub record InFirst (after period k : ℕ) : Type 0 where
  pub base : ℕ
  pub rounds : ℕ
  pub above : after < base
  pub within : base ≤ after + period
  pub is : k ≡ base + rounds * period

in_first : (after period k : ℕ) → 1 ≤ period → after < k → InFirst after period k
in_first after period k some l =
    let rest : ℕ = (k - after - 1) % period in
    let low : rest < period = mod_below (k - after - 1) period some in
    let parts : (k - after - 1) / period * period + rest ≡ k - after - 1 = div-add-mod' (k - after - 1) period in
    record { base = after + 1 + rest; rounds = (k - after - 1) / period; above = omega arith; within = omega arith; is = omega arith }

-- nothing is late in the first period and before, and the dates rise no faster: nothing is late
pub never_late : (z d : ℕ → ℕ) (after period rise gap : ℕ) → GoOn z d after period rise gap → ((k : ℕ) → 1 ≤ k → k ≤ after + period → z k ≤ d k) → rise ≤ gap → (k : ℕ) → 1 ≤ k → z k ≤ d k
never_late z d after period rise gap g none slow k one = ⊎_elim
    (λ (far : after < k).
    let p : InFirst after period k = in_first after period k g.some far in
    let above = p.above in
    let dates : z k ≡ z p.base + p.rounds * rise = ap z p.is ∙ on_by z after period rise g.dates p.rounds p.base p.above in
    let dues : d k ≡ d p.base + p.rounds * gap = ap d p.is ∙ on_by d after period gap g.dues p.rounds p.base p.above in
    let here = none p.base (omega arith) p.within in
    let more : p.rounds * rise ≤ p.rounds * gap = mul-le-mul_left p.rounds slow in
    omega arith)
    (λ (near : k ≤ after). none k one (omega arith))
    (cases_lt after k)

-- how many periods later the number is late
abbrev pub rounds_to : (ℕ → ℕ) → (ℕ → ℕ) → ℕ → ℕ → ℕ
rounds_to z d gain k = (d k - z k) / gain + 1

late_then : (lack gain zk dk j rise gap : ℕ) → 0 < gain → rise ≡ gap + gain → zk ≤ dk → lack ≡ dk - zk
    → (((lack / gain + 1 ≤ j) → dk + j * gap < zk + j * rise)) × ((dk + j * gap < zk + j * rise) → lack / gain + 1 ≤ j)
late_then lack gain zk dk j rise gap some e l lack_is =
    let rest : ℕ = lack % gain in
    let low : rest < gain = mod_below lack gain some in
    let parts : lack / gain * gain + rest ≡ lack = div-add-mod' lack gain in
    let steps : j * rise ≡ j * gap + j * gain = ap (λ (x : ℕ). j * x) e ∙ spread j gap gain in (
      λ m.
          let more : (lack / gain + 1) * gain ≤ j * gain = mul-le-mul_right {m = lack / gain + 1} {n = j} gain m in
          let parts_of : (lack / gain + 1) * gain ≡ lack / gain * gain + gain = grind arith in
          omega arith,
      λ m. ⊎_elim
          (λ (less : j < lack / gain + 1).
          let few : j * gain ≤ lack / gain * gain = mul-le-mul_right {m = j} {n = lack / gain} gain (omega arith) in
          absurd (omega arith))
          (λ (more : lack / gain + 1 ≤ j). more)
          (cases_lt j (lack / gain + 1)),
    ) where
      spread : (a x y : ℕ) → a * (x + y) ≡ a * x + a * y
      spread a x y = grind arith

-- the pair of fewest periods, and among these of the least number, gives the least late number
pub record IsFewest (z d : ℕ → ℕ) (after period gain base : ℕ) : Type 0 where
  pub above : after < base
  pub within : base ≤ after + period
  pub fewest : (k : ℕ) → after < k → k ≤ after + period → (rounds_to z d gain base < rounds_to z d gain k) ⊎ ((rounds_to z d gain base ≡ rounds_to z d gain k) × (base ≤ k))

pub record IsFirstOver (z d : ℕ → ℕ) (k : ℕ) : Type 0 where
  pub late : d k < z k
  pub first : (j : ℕ) → 1 ≤ j → d j < z j → k ≤ j

pub first_late : (z d : ℕ → ℕ) (after period rise gap gain base : ℕ) → GoOn z d after period rise gap → 0 < gain → rise ≡ gap + gain → ((k : ℕ) → 1 ≤ k → k ≤ after + period → z k ≤ d k)
    → IsFewest z d after period gain base → IsFirstOver z d (base + rounds_to z d gain base * period)
first_late z d after period rise gap gain base g some e none f =
    let r : ℕ = rounds_to z d gain base in
    let above = f.above in
    let dates : z (base + r * period) ≡ z base + r * rise = on_by z after period rise g.dates r base f.above in
    let dues : d (base + r * period) ≡ d base + r * gap = on_by d after period gap g.dues r base f.above in
    let late : d base + r * gap < z base + r * rise = (late_then (d base - z base) gain (z base) (d base) r rise gap some e (none base (omega arith) f.within) refl).0 (omega arith) in
    record { late = omega arith; first = λ j one h. least j one h } where
      least : (j : ℕ) → 1 ≤ j → d j < z j → base + rounds_to z d gain base * period ≤ j
      least j one h = ⊎_elim
          (λ (far : after < j).
          let p : InFirst after period j = in_first after period j g.some far in
          let above = p.above in
          let within = f.within in
          let dates : z j ≡ z p.base + p.rounds * rise = ap z p.is ∙ on_by z after period rise g.dates p.rounds p.base p.above in
          let dues : d j ≡ d p.base + p.rounds * gap = ap d p.is ∙ on_by d after period gap g.dues p.rounds p.base p.above in
          let enough : rounds_to z d gain p.base ≤ p.rounds =
          (late_then (d p.base - z p.base) gain (z p.base) (d p.base) p.rounds rise gap some e (none p.base (omega arith) p.within) refl).1 (omega arith) in
          let is = p.is in
          ⊎_elim
          (λ (less : rounds_to z d gain base < rounds_to z d gain p.base).
          let more : (rounds_to z d gain base + 1) * period ≤ p.rounds * period = mul-le-mul_right {m = rounds_to z d gain base + 1} {n = p.rounds} period (omega arith) in
          let parts : (rounds_to z d gain base + 1) * period ≡ rounds_to z d gain base * period + period = grind arith in
          omega arith)
          (λ same.
          let lower : base ≤ p.base = same.1 in
          let equal : rounds_to z d gain base ≡ rounds_to z d gain p.base = same.0 in
          let more : rounds_to z d gain base * period ≤ p.rounds * period = mul-le-mul_right {m = rounds_to z d gain base} {n = p.rounds} period (omega arith) in
          omega arith)
          (f.fewest p.base p.above p.within))
          (λ (near : j ≤ after). let here = none j one (omega arith) in absurd (omega arith))
          (cases_lt after j)
