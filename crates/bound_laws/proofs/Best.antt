-- Best walks: they meet a circuit of greatest ratio, and so their times go on by steps.
use Rattle.std.proofs.Common.{ℕ, ◌+◌, ◌-◌, ◌*◌, ◌/◌, ◌%◌, ◌<◌, ◌≤◌, ◌≡◌, List, [], ◌∷◌, ◌++◌, length, sym, ap, subst, ◌∙◌, arith, ⊎_elim, ◌⊎◌, inl, inr}
use Rattle.std.proofs.lemmas.Bool.{cases_lt}
use Rattle.std.proofs.lemmas.List.Sums.{sum_by-append}
use Rattle.std.proofs.lemmas.Nat.{mod_below, div-add-mod'}
use Rattle.std.proofs.Math.Nat.{mul-le-mul_left}
use Rattle.settled_laws.specs.teg_net.declared.entries.PlaceId.{PlaceId}
use Rattle.settled_laws.specs.teg_net.Nets.{NetLists}
use Rattle.settled_laws.specs.teg_net.Circuits.{place_at, IsPathBetween, IsCircuit, time_of, tokens_of}
use Rattle.settled_laws.proofs.teg_net_proofs.PathLaws.{IsPathBetween-append}
use Rattle.teg_loops.specs.Loops.{EndsBelow}
use Rattle.teg_loops.proofs.Taking.{loop_sum, by_loops, shortened, Keeps}
use Rattle.teg_loops.proofs.Visits.{Meets, joined_meets, still_meets, rounds, rounds_lead, rounds_sum}

-- a circuit of ratio a/b, told from transition c on
pub record IsCriticalIn (e : NetLists) (a b c : ℕ) (ps : List PlaceId) : Type 0 where
  pub circuit : IsCircuit e ps
  pub at : IsPathBetween e c ps c
  pub critical : b * time_of e ps ≡ a * tokens_of e ps

pub record Setting (e : NetLists) (n T C P a b : ℕ) (y : ℕ → ℕ → ℕ) : Type 0 where
  pub ends : EndsBelow e n
  pub a_some : 1 ≤ a
  pub keeps : (ps : List PlaceId) → IsCircuit e ps → Keeps e a b ps
  pub short_tokens : (ps : List PlaceId) (s t : ℕ) → IsPathBetween e s ps t → length ps < n → tokens_of e ps ≤ T
  pub short_time : (ps : List PlaceId) (s t : ℕ) → IsPathBetween e s ps t → length ps < n → time_of e ps ≤ P
  pub loop_tokens : (ps : List PlaceId) → IsCircuit e ps → tokens_of e ps ≤ C
  pub waits : (t : ℕ) → t < n → (id : PlaceId) × IsPathBetween e t (id ∷ []) t × (tokens_of e (id ∷ []) ≡ 1)
  pub leads : (s t : ℕ) → s < n → t < n → (ps : List PlaceId) × IsPathBetween e s ps t
  pub center : ℕ
  pub center_in : center < n
  pub core : List PlaceId
  pub is_core : IsCriticalIn e a b center core
  pub reached : (t k : ℕ) → t < n → (j : ℕ) × (ps : List PlaceId) × (j < n) × IsPathBetween e j ps t × (tokens_of e ps ≡ k) × (time_of e ps ≡ y t k)
  pub greatest : (t k j : ℕ) (ps : List PlaceId) → t < n → j < n → IsPathBetween e j ps t → tokens_of e ps ≡ k → time_of e ps ≤ y t k
  pub long : (ps : List PlaceId) (s t m : ℕ) → IsPathBetween e s ps t → m ≤ C → C * (T + C) < tokens_of e ps → (n - 1) * m + n * m ≤ length ps

pub record MeetsCritical (e : NetLists) (a b t : ℕ) (ps : List PlaceId) : Type 0 where
  pub at : ℕ
  pub meets : Meets e t ps at
  pub circuit : List PlaceId
  pub critical : IsCriticalIn e a b at circuit

pub record LosesMuch (e : NetLists) (a b T C P : ℕ) (ps : List PlaceId) : Type 0 where
  pub loops : ℕ
  pub loss : b * time_of e ps + loops ≤ a * tokens_of e ps + b * P
  pub few : tokens_of e ps ≤ T + C * loops

loses_more : (b C T a P t1 t2 k1 k2 time tokens q : ℕ) → time ≡ t1 + t2 → tokens ≡ k1 + k2 → b * t1 + q ≤ a * k1 + b * P → k1 ≤ T + C * q → b * t2 < a * k2 → k2 ≤ C
    → (b * time + (q + 1) ≤ a * tokens + b * P) × (tokens ≤ T + C * (q + 1))
loses_more b C T a P t1 t2 k1 k2 time tokens q e f h l m w =
    let one : b * time ≡ b * t1 + b * t2 = rw e (grind arith) in
    let two : a * tokens ≡ a * k1 + a * k2 = rw f (grind arith) in
    let three : C * (q + 1) ≡ C * q + C = grind arith in
    (omega arith, omega arith)

pub meets_or_loses : (e : NetLists) (n T C P a b : ℕ) (y : ℕ → ℕ → ℕ) → Setting e n T C P a b y → (j t : ℕ) → t < n → (ps : List PlaceId) → IsPathBetween e j ps t
    → MeetsCritical e a b t ps ⊎ LosesMuch e a b T C P ps
meets_or_loses e n T C P a b y s j t lt ps h = by_loops e n j t (λ qs. MeetsCritical e a b t qs ⊎ LosesMuch e a b T C P qs) s.ends lt
    (λ qs g l.
    let few = s.short_tokens qs j t g l in
    let soon : b * time_of e qs ≤ b * P = mul-le-mul_left b (s.short_time qs j t g l) in
    inr (record { loops = 0; loss = omega arith; few = omega arith }))
    (λ qs g loop old. ⊎_elim
    (λ (m : MeetsCritical e a b t (loop.before ++ loop.after)).
    inl (record {
      at = m.at;
      meets = subst (λ (z : List PlaceId). Meets e t z m.at) (sym loop.is)
          (still_meets e t m.at loop.before loop.loop loop.after m.meets);
      circuit = m.circuit;
      critical = m.critical;
    }))
    (λ (o : LosesMuch e a b T C P (loop.before ++ loop.after)).
    let own : Keeps e a b loop.loop = s.keeps loop.loop loop.circuit in
    let ratio = own.ratio in
    ⊎_elim
    (λ (less : b * time_of e loop.loop < a * tokens_of e loop.loop).
    let both = loses_more b C T a P (time_of e (loop.before ++ loop.after)) (time_of e loop.loop)
    (tokens_of e (loop.before ++ loop.after)) (tokens_of e loop.loop) (time_of e qs) (tokens_of e qs) o.loops
    (loop_sum (λ p. (place_at e p).hold) e j t qs loop) (loop_sum (λ p. (place_at e p).tokens) e j t qs loop) o.loss o.few less (s.loop_tokens loop.loop loop.circuit) in
    inr (record { loops = o.loops + 1; loss = both.0; few = both.1 }))
    (λ (more : a * tokens_of e loop.loop ≤ b * time_of e loop.loop).
    inl (record {
      at = loop.at;
      meets = subst (λ (z : List PlaceId). Meets e t z loop.at) (sym loop.is)
          (joined_meets e loop.before (loop.loop ++ loop.after) loop.at t (IsPathBetween-append e loop.loop loop.after loop.at loop.at t loop.closed loop.last));
      circuit = loop.loop;
      critical = record { circuit = loop.circuit; at = loop.closed; critical = omega arith };
    }))
    (cases_lt (b * time_of e loop.loop) (a * tokens_of e loop.loop)))
    old)
    ps h

-- ---- the walk that goes round the core

floor_sums : (a b k t0 m s r rest T C time : ℕ) → r * m + rest ≡ k - t0 → t0 ≤ k → rest < m → m ≤ C → t0 ≤ T → b * s ≡ a * m → r * s ≤ time → a * k ≤ b * time + a * (T + C)
floor_sums a b k t0 m s r rest T C time e l lr lm lt crit le =
    let k_is : k ≡ r * m + rest + t0 = omega arith in
    let one : a * k ≡ a * (r * m) + a * rest + a * t0 = rw k_is (grind arith) in
    let two : a * rest ≤ a * C = mul-le-mul_left a (omega arith) in
    let three : a * t0 ≤ a * T = mul-le-mul_left a lt in
    let four : b * (r * s) ≤ b * time = mul-le-mul_left b le in
    let five : b * (r * s) ≡ r * (b * s) = grind arith in
    let six : r * (b * s) ≡ r * (a * m) = ap (λ (z : ℕ). r * z) crit in
    let seven : r * (a * m) ≡ a * (r * m) = grind arith in
    let eight : a * (T + C) ≡ a * T + a * C = grind arith in
    omega arith

pub floor : (e : NetLists) (n T C P a b : ℕ) (y : ℕ → ℕ → ℕ) → Setting e n T C P a b y → (t k : ℕ) → t < n → a * k ≤ b * y t k + a * (T + C)
floor e n T C P a b y s t k lt =
    let c : ℕ = s.center in
    let way = s.leads c t s.center_in lt in
    let short = shortened e n c t s.ends lt way.0 way.1 in
    let path : List PlaceId = short.0 in
    let few : tokens_of e path ≤ T = s.short_tokens path c t short.1 short.2 in
    let own : Keeps e a b s.core = s.keeps s.core s.is_core.circuit in
    let m : ℕ = tokens_of e s.core in
    let pos_m : 0 < m = own.some in
    let wait = s.waits c s.center_in in
    ⊎_elim
    (λ (less : k < tokens_of e path).
    let one : a * k ≤ a * (T + C) = mul-le-mul_left a (omega arith) in omega arith)
    (λ (more : tokens_of e path ≤ k).
    let r : ℕ = (k - tokens_of e path) / m in
    let rest : ℕ = (k - tokens_of e path) % m in
    let low : rest < m = mod_below (k - tokens_of e path) m pos_m in
    let parts : r * m + rest ≡ k - tokens_of e path = div-add-mod' (k - tokens_of e path) m in
    let walk : List PlaceId = rounds r s.core ++ (rounds rest (wait.0 ∷ []) ++ path) in
    let leads : IsPathBetween e c walk t = IsPathBetween-append e (rounds r s.core) (rounds rest (wait.0 ∷ []) ++ path) c c t (rounds_lead e c s.core r s.is_core.at)
    (IsPathBetween-append e (rounds rest (wait.0 ∷ [])) path c c t (rounds_lead e c (wait.0 ∷ []) rest wait.1) short.1) in
    let f : PlaceId → ℕ = λ p. (place_at e p).tokens in
    let g : PlaceId → ℕ = λ p. (place_at e p).hold in
    let one = sum_by-append f (rounds r s.core) (rounds rest (wait.0 ∷ []) ++ path) in
    let two = sum_by-append f (rounds rest (wait.0 ∷ [])) path in
    let three : tokens_of e (rounds r s.core) ≡ r * m = rounds_sum f s.core r in
    let four : tokens_of e (rounds rest (wait.0 ∷ [])) ≡ rest * 1 = rounds_sum f (wait.0 ∷ []) rest ∙ ap (λ (z : ℕ). rest * z) wait.2 in
    let tokens : tokens_of e walk ≡ k = omega arith in
    let five = sum_by-append g (rounds r s.core) (rounds rest (wait.0 ∷ []) ++ path) in
    let six : time_of e (rounds r s.core) ≡ r * time_of e s.core = rounds_sum g s.core r in
    let best : time_of e walk ≤ y t k = s.greatest t k c walk lt s.center_in leads tokens in
    floor_sums a b k (tokens_of e path) m (time_of e s.core) r rest T C (y t k) parts more low (s.loop_tokens s.core s.is_core.circuit) few s.is_core.critical (omega arith))
    (cases_lt k (tokens_of e path))

-- ---- best walks of many tokens meet a critical circuit

abbrev pub bound : ℕ → ℕ → ℕ → ℕ → ℕ → ℕ
bound T C P a b = T + C * (b * P + a * (T + C)) + 1

pub best_meets : (e : NetLists) (n T C P a b : ℕ) (y : ℕ → ℕ → ℕ) → Setting e n T C P a b y → (t k j : ℕ) (ps : List PlaceId) → t < n → bound T C P a b ≤ k → IsPathBetween e j ps t
    → tokens_of e ps ≡ k → time_of e ps ≡ y t k → MeetsCritical e a b t ps
best_meets e n T C P a b y s t k j ps lt far h tokens time = ⊎_elim
    (λ m. m)
    (λ (o : LosesMuch e a b T C P ps).
    let base : a * k ≤ b * y t k + a * (T + C) = floor e n T C P a b y s t k lt in
    let loss : b * y t k + o.loops ≤ a * k + b * P = subst (λ (z : ℕ). b * z + o.loops ≤ a * k + b * P) time (subst (λ (z : ℕ). b * time_of e ps + o.loops ≤ a * z + b * P) tokens o.loss) in
    let loops : o.loops ≤ b * P + a * (T + C) = omega arith in
    let most : C * o.loops ≤ C * (b * P + a * (T + C)) = mul-le-mul_left C loops in
    let few = o.few in
    absurd (omega arith))
    (meets_or_loses e n T C P a b y s j t lt ps h)
