-- Paths pass delays on, and circuits without spare time keep them.
use Rattle.std.proofs.Common.{ℕ, zero, suc, ◌+◌, ◌-◌, ◌*◌, ◌<◌, ◌≤◌, ◌≡◌, List, [], ◌∷◌, length, get_or, refl, sym, ap, subst, ◌∙◌, arith, ◌+ℤ◌}
use Rattle.std.specs.Prelude.{pos, Contains}
use Rattle.std.proofs.lemmas.Int.{ints}
use Rattle.std.proofs.Math.Nat.{mul-le-mul_left}
use Rattle.std.proofs.lemmas.List.{get_or_default}
use Rattle.std.proofs.lemmas.List.Sums.{sum_by-cons}
use Rattle.periodic_laws.specs.dioid.Dates.{IsAtMostDate}
use Rattle.periodic_laws.specs.dioid.declared.dates.Date.TheVariants.{At}
use Rattle.periodic_laws.specs.dioid.DateOrder.{Le}
use Rattle.periodic_laws.proofs.dioid_proofs.AtMost.{le_is, le_trans}
use Rattle.teg_net.specs.declared.entries.Place.{Place}
use Rattle.teg_net.specs.declared.entries.PlaceId.{PlaceId}
use Rattle.teg_net.specs.Nets.{NetLists}
use Rattle.teg_net.specs.Circuits.{no_place, place_at, from_of, IsPathBetween, time_of, tokens_of}
use Rattle.teg_net.specs.Parts.{to_of}
use Rattle.periodic_laws.specs.teg_model.Systems.{available_in}
use Rattle.periodic_laws.specs.teg_model.LiveRanks.{HasEndsInRange}
use Rattle.periodic_laws.specs.teg_model.Datings.{initial_date}
use Rattle.periodic_laws.proofs.teg_model_proofs.OfNet.{extended_has}
use Rattle.periodic_laws.proofs.teg_model_proofs.Tokens.{available_after}
use Rattle.periodic_laws.proofs.teg_model_proofs.DateFunctions.{Dating}
use Rattle.delay_laws.specs.declared.table.Timetable.{Timetable}
use Rattle.delay_laws.specs.PlannedTimetables.{first_planned, planned, IsWorkable}
use Rattle.delay_laws.specs.Delays.{IsDelayedBy, AreAbovePlan, AreDelaysLeft}
use Rattle.delay_laws.specs.TightCircuits.{GivenDelaysAreLeft, PathsPassDelaysOn, TightCircuitsPassDelaysRound, TightCircuitsKeepDelays}

-- ---- a place, and a path

-- a date that is at most another, as numbers
numbers_keep : (a b : ℕ) → IsAtMostDate (At (pos a)) (At (pos b)) → a ≤ b
numbers_keep a b h = omega (arith, ints)

pub place_passes : (net : NetLists) → HasEndsInRange net → (period : ℕ) (t : Timetable) (x w : Dating) (delay : ℕ → ℕ → ℕ) → IsDelayedBy net period t x w → AreAbovePlan net period t x delay
    → (p : PlaceId) → p.index < length net.places → (k : ℕ) → 1 ≤ k
    → (first_planned t (from_of net p) + (place_at net p).hold) + delay (from_of net p) k
    ≤ (first_planned t (to_of net p) + period * (place_at net p).tokens) + delay (to_of net p) (k + (place_at net p).tokens)
place_passes net ends period t x w delay h above p own k one =
    let q : Place = place_at net p in
    let n : ℕ = k + q.tokens in
    let a : ℕ = planned period t q.from.index k + delay q.from.index k in
    let b : ℕ = planned period t q.to.index n + delay q.to.index n in
    let within = ends p.index no_place own in
    let back : n - q.tokens ≡ k = omega arith in
    let start : x q.from.index (n - q.tokens) ≡ At (pos a) = ap (x q.from.index) back ∙ above q.from.index k within.0 one in
    let made : available_in initial_date x q n ≡ At (pos a +ℤ pos q.hold) = available_after initial_date x q n (At (pos a)) (omega arith) start in
    let end : x q.to.index n ≡ At (pos b) = above q.to.index n within.1 (omega arith) in
    let kept : IsAtMostDate (available_in initial_date x q n) (x q.to.index n) =
    extended_has net (λ r. IsAtMostDate (available_in initial_date x r n) (x r.to.index n)) (λ i m. h.least.feasible.places n (omega arith) i no_place m) p.index own in
    let dates : IsAtMostDate (At (pos a +ℤ pos q.hold)) (At (pos b)) = (le_trans (le_is (sym made)) (le_trans (record { holds = kept }) (le_is end))).holds in
    let sums : a + q.hold ≤ b = omega (arith, ints) in
    let is : n - 1 ≡ q.tokens + (k - 1) = omega arith in
    let distributes : (i j : ℕ) → period * (i + j) ≡ period * i + period * j = λ i j. grind arith in
    let parts : period * (n - 1) ≡ period * q.tokens + period * (k - 1) = ap (λ (z : ℕ). period * z) is ∙ distributes q.tokens (k - 1) in
    omega arith

along : (net : NetLists) → HasEndsInRange net → (period : ℕ) (t : Timetable) (x w : Dating) (delay : ℕ → ℕ → ℕ) → IsDelayedBy net period t x w → AreAbovePlan net period t x delay
    → (i j : ℕ) (path : List PlaceId) → IsPathBetween net i path j → (k : ℕ) → 1 ≤ k
    → (first_planned t i + time_of net path) + delay i k ≤ (first_planned t j + period * tokens_of net path) + delay j (k + tokens_of net path)
along net ends period t x w delay h above i j [] path k one =
    let e : k + tokens_of net [] ≡ k = omega arith in
    let same : delay j (k + tokens_of net []) ≡ delay i k = ap (delay j) e ∙ ap (λ (z : ℕ). delay z k) (sym path) in
    let first : first_planned t i ≡ first_planned t j = ap (first_planned t) path in
    omega arith
along net ends period t x w delay h above i j (p ∷ ps) path k one =
    let q : Place = place_at net p in
    let here = place_passes net ends period t x w delay h above p path.0 k one in
    let rest = along net ends period t x w delay h above q.to.index j ps path.2 (k + q.tokens) (omega arith) in
    let time : time_of net (p ∷ ps) ≡ q.hold + time_of net ps = sum_by-cons (λ r. (place_at net r).hold) p ps in
    let tokens : tokens_of net (p ∷ ps) ≡ q.tokens + tokens_of net ps = sum_by-cons (λ r. (place_at net r).tokens) p ps in
    let product : period * tokens_of net (p ∷ ps) ≡ period * q.tokens + period * tokens_of net ps = rw tokens (grind arith) in
    let number : (k + q.tokens) + tokens_of net ps ≡ k + tokens_of net (p ∷ ps) = omega arith in
    let last : delay j ((k + q.tokens) + tokens_of net ps) ≡ delay j (k + tokens_of net (p ∷ ps)) = ap (delay j) number in
    let first : first_planned t (from_of net p) ≡ first_planned t i = ap (first_planned t) path.1 in
    let late : delay (from_of net p) k ≡ delay i k = ap (λ (z : ℕ). delay z k) path.1 in
    omega arith

pub paths_pass_delays_on : PathsPassDelaysOn
paths_pass_delays_on net ends period t delay left i j path is k one = along net ends period t left.0 left.1 delay left.2 left.3 i j path is k one

pub given_delays_are_left : GivenDelaysAreLeft
given_delays_are_left net period t delay left i k l one =
    let release = left.2.release i k l one in
    let own = release.2.greatest k one (omega arith) in
    let above = left.3 i k l one in
    let released : Le (At (pos release.0)) (At (pos (planned period t i k + delay i k))) =
    le_trans (le_is (sym release.1)) (le_trans (record { holds = left.2.least.feasible.releases i k one }) (le_is above)) in
    let sums = numbers_keep release.0 (planned period t i k + delay i k) released.holds in
    omega arith

-- ---- a circuit without spare time

-- where the plan leaves time for each place, it does so along each path
plan_along : (net : NetLists) (period : ℕ) (t : Timetable) → IsWorkable net period t → (i j : ℕ) (path : List PlaceId) → IsPathBetween net i path j
    → first_planned t i + time_of net path ≤ first_planned t j + period * tokens_of net path
plan_along net period t work i j [] path = let first : first_planned t i ≡ first_planned t j = ap (first_planned t) path in omega arith
plan_along net period t work i j (p ∷ ps) path =
    let q : Place = place_at net p in
    let here = (work p.index no_place path.0).leaves_time in
    let rest = plan_along net period t work q.to.index j ps path.2 in
    let time : time_of net (p ∷ ps) ≡ q.hold + time_of net ps = sum_by-cons (λ r. (place_at net r).hold) p ps in
    let tokens : tokens_of net (p ∷ ps) ≡ q.tokens + tokens_of net ps = sum_by-cons (λ r. (place_at net r).tokens) p ps in
    let product : period * tokens_of net (p ∷ ps) ≡ period * q.tokens + period * tokens_of net ps = rw tokens (grind arith) in
    let first : first_planned t (from_of net p) ≡ first_planned t i = ap (first_planned t) path.1 in
    omega arith

-- a path in two parts at the place of this number: up to it, and from it on
record IsPartedAt (net : NetLists) (i j : ℕ) (path : List PlaceId) (at : ℕ) : Type 0 where
  before : List PlaceId
  after : List PlaceId
  to : IsPathBetween net i before at
  on : IsPathBetween net at after j
  time : time_of net before + time_of net after ≡ time_of net path
  tokens : tokens_of net before + tokens_of net after ≡ tokens_of net path

parted : (net : NetLists) (i j : ℕ) (path : List PlaceId) → IsPathBetween net i path j → (m : ℕ) (d : PlaceId) → m < length path → IsPartedAt net i j path (from_of net (get_or path m d))
parted net i j [] h m d l = absurd (omega arith)
parted net i j (p ∷ ps) h zero d l = record { before = []; after = p ∷ ps; to = sym h.1; on = (h.0, refl, h.2); time = omega arith; tokens = omega arith }
parted net i j (p ∷ ps) h (suc m) d l =
    let rest : IsPartedAt net (place_at net p).to.index j ps (from_of net (get_or ps m d)) = parted net (place_at net p).to.index j ps h.2 m d (omega arith) in
    let time = rest.time in
    let tokens = rest.tokens in
    let time_before = sum_by-cons (λ r. (place_at net r).hold) p rest.before in
    let time_path = sum_by-cons (λ r. (place_at net r).hold) p ps in
    let tokens_before = sum_by-cons (λ r. (place_at net r).tokens) p rest.before in
    let tokens_path = sum_by-cons (λ r. (place_at net r).tokens) p ps in
    record { before = p ∷ rest.before; after = rest.after; to = (h.0, h.1, rest.to); on = rest.on; time = omega arith; tokens = omega arith }

module _ (net : NetLists) (ends : HasEndsInRange net) (period : ℕ) (t : Timetable) (work : IsWorkable net period t) (delay : ℕ → ℕ → ℕ) (left : AreDelaysLeft net period t delay)
    (circuit : List PlaceId) (start : ℕ) (closed : IsPathBetween net start circuit start) (spare : time_of net circuit ≡ period * tokens_of net circuit) where
  -- the two parts of the circuit have no spare time either
  halves : (p : PlaceId) → Contains circuit p → IsPartedAt net start start circuit (from_of net p)
  halves p c = subst (λ (z : PlaceId). IsPartedAt net start start circuit (from_of net z)) c.2 (parted net start start circuit closed c.0 p c.1)

  -- from the place the delay comes to the start
  to_start : (p : PlaceId) → Contains circuit p → (k : ℕ) → 1 ≤ k → (m : ℕ) × (k ≤ m) × (delay (from_of net p) k ≤ delay start m)
  to_start p c k one =
      let h = halves p c in
      let a : ℕ = tokens_of net h.before in
      let b : ℕ = tokens_of net h.after in
      let time = h.time in
      let tokens = h.tokens in
      let product : period * (a + b) ≡ period * a + period * b = grind arith in
      let whole : period * (a + b) ≡ period * tokens_of net circuit = ap (λ (z : ℕ). period * z) tokens in
      let first = plan_along net period t work start (from_of net p) h.before h.to in
      let pass = paths_pass_delays_on net ends period t delay left (from_of net p) start h.after h.on k one in
      (k + b, omega arith, omega arith)

  -- and from the start on to the place
  from_start : (p : PlaceId) → Contains circuit p → (k : ℕ) → 1 ≤ k → (m : ℕ) × (k ≤ m) × (delay start k ≤ delay (from_of net p) m)
  from_start p c k one =
      let h = halves p c in
      let a : ℕ = tokens_of net h.before in
      let b : ℕ = tokens_of net h.after in
      let time = h.time in
      let tokens = h.tokens in
      let product : period * (a + b) ≡ period * a + period * b = grind arith in
      let whole : period * (a + b) ≡ period * tokens_of net circuit = ap (λ (z : ℕ). period * z) tokens in
      let second = plan_along net period t work (from_of net p) start h.after h.on in
      let pass = paths_pass_delays_on net ends period t delay left start (from_of net p) h.before h.to k one in
      (k + a, omega arith, omega arith)

  -- so many times round
  rounds : (r k : ℕ) → 1 ≤ k → delay start k ≤ delay start (k + r * tokens_of net circuit)
  rounds zero k one = let same : delay start (k + zero * tokens_of net circuit) ≡ delay start k = ap (delay start) (omega arith) in omega arith
  rounds (suc r) k one =
      let before = rounds r k one in
      let once = paths_pass_delays_on net ends period t delay left start start circuit closed (k + r * tokens_of net circuit) (omega arith) in
      let e : (k + r * tokens_of net circuit) + tokens_of net circuit ≡ k + suc r * tokens_of net circuit = grind arith in
      let same : delay start ((k + r * tokens_of net circuit) + tokens_of net circuit) ≡ delay start (k + suc r * tokens_of net circuit) = ap (delay start) e in
      omega arith

-- what is not 0 is at least 1
not_none : (n : ℕ) → (n ≡ 0 → ⊥) → 1 ≤ n
not_none zero some = absurd (some refl)
not_none (suc n) some = omega arith

pub pass_delays_round : TightCircuitsPassDelaysRound
pass_delays_round net ends live period t work delay left circuit tight p q cp cq k one bound =
    let start : ℕ = tight.is_circuit.closed.0 in
    let closed : IsPathBetween net start circuit start = tight.is_circuit.closed.1 in
    let some : 1 ≤ tokens_of net circuit = not_none (tokens_of net circuit) (live circuit tight.is_circuit) in
    let first = to_start net ends period t work delay left circuit start closed tight.no_spare p cp k one in
    let turns : (bound + 1) * 1 ≤ (bound + 1) * tokens_of net circuit = mul-le-mul_left {m = 1} {n = tokens_of net circuit} (bound + 1) some in
    let far : ℕ = first.0 + (bound + 1) * tokens_of net circuit in
    let then = rounds net ends period t work delay left circuit start closed tight.no_spare (bound + 1) first.0 (omega (arith, first.1)) in
    let last = from_start net ends period t work delay left circuit start closed tight.no_spare q cq far (omega (arith, first.1)) in
    (last.0, omega (arith, last.1), omega (arith, first.2, then, last.2))

pub tight_circuits_keep_delays : TightCircuitsKeepDelays
tight_circuits_keep_delays net ends live period t work delay left circuit tight lowest p cp k one late = record {
  is_circuit = tight.is_circuit;
  lowest_first = lowest;
  no_spare = tight.no_spare;
  late = λ i d l bound.
      let q : PlaceId = get_or circuit i d in
      let own : Contains circuit q = (i, l, get_or_default circuit i q d l) in
      let m = pass_delays_round net ends live period t work delay left circuit tight p q cp own k one bound in
      (m.0, m.1, omega (arith, m.2));
}
