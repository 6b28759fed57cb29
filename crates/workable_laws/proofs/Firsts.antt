-- A period that leaves each circuit its time has dates of first firings that leave time for each place.
use Rattle.std.proofs.Common.{ℕ, zero, suc, ◌+◌, ◌-◌, ◌*◌, ◌<◌, ◌≤◌, ◌≡◌, ◌⊎◌, inl, inr, List, [], ◌∷◌, length, get_or, refl, ap, subst, arith, ⊎_elim}
use Rattle.std.specs.Prelude.{ℤ, pos, negsuc, ◌≤ℤ◌, All}
use Rattle.std.proofs.lemmas.Bool.{cases_lt}
use Rattle.std.proofs.lemmas.Int.{ints}
use Rattle.std.proofs.lemmas.List.{get_or_past, get_or_default}
use Rattle.std.proofs.lemmas.List.Elements.{All-nil, All-cons}
use Rattle.std.proofs.Math.Nat.{mul-le-mul_right}
use Rattle.teg_model.specs.teg_net.declared.entries.PlaceId.{PlaceId}
use Rattle.teg_model.specs.teg_net.declared.entries.Place.{Place}
use Rattle.teg_model.specs.teg_net.Nets.{NetLists}
use Rattle.teg_model.specs.teg_net.ReadyDates.{ready_date}
use Rattle.teg_model.specs.teg_net.Ratios.{Fraction}
use Rattle.teg_model.specs.teg_net.Circuits.{place_at, no_place, from_of, IsCircuit, time_of, tokens_of}
use Rattle.teg_model.specs.teg_net.Parts.{to_of}
use Rattle.teg_model.specs.teg_net.ReducedTimes.{reduced_time_of}
use Rattle.teg_model.specs.teg_net.GreatestRatios.{IsGreatestRatio, IsAnyPlace}
use Rattle.teg_model.specs.LiveRanks.{HasEndsInRange}
use Rattle.teg_loops.proofs.Ends.{ends_below}
use Rattle.workable_laws.specs.WorkablePeriods.{LeavesCircuitsTime, LeavesPlaceTime, AreWorkableFirsts, WorkableIsByFirsts}
use Rattle.workable_laws.specs.WorkablePeriods.{TimetablesFromFirstsAreWorkable, PeriodsAreWorkable, PeriodsFromTheRatioAreWorkable}
use Rattle.pace_laws.proofs.Slower.{cancel}
use Rattle.pace_laws.proofs.Sums.{weight_is}
use Rattle.pace_laws.proofs.Longest.{IsBestOfAll, best_of_all}
use Rattle.workable_laws.proofs.Workable.{along, ratio_below}

-- a number that is not below 0
natural : (z : ℤ) → pos 0 ≤ℤ z → (m : ℕ) × (pos m ≡ z)
natural (pos m) h = (m, refl)
natural (negsuc m) h = absurd (omega (arith, ints, h))

-- a bound of the first n values
bound : (m : ℕ → ℕ) (n : ℕ) → (k : ℕ) × ((t : ℕ) → t < n → m t ≤ k)
bound m zero = (0, λ t l. absurd (omega arith))
bound m (suc n) =
    let w = bound m n in (
      w.0 + m n,
      λ t l. ⊎_elim (λ (q : t < n). let h = w.1 t q in omega arith) (λ (q : n ≤ t). let e : t ≡ n = omega arith in let f : m t ≡ m n = ap m e in omega arith) (cases_lt t n),
    )

-- the greatest ready date of the initial tokens of the place of this number
own_latest : NetLists → ℕ → ℕ
own_latest net i = (bound (λ k. get_or (get_or net.places i no_place).ready k 0) (length (get_or net.places i no_place).ready)).0

-- and of all places
latest : NetLists → ℕ
latest net = (bound (own_latest net) (length net.places)).0

-- no initial token is ready later
ready_soon : (net : NetLists) (i : ℕ) → i < length net.places → (k : ℕ) → ready_date (get_or net.places i no_place) k ≤ latest net
unfolding latest own_latest
ready_soon net i in' k =
    let p : Place = get_or net.places i no_place in
    let all : own_latest net i ≤ latest net = (bound (own_latest net) (length net.places)).1 i in' in
    ⊎_elim
    (λ (l : k - 1 < length p.ready). let own = (bound (λ j. get_or p.ready j 0) (length p.ready)).1 (k - 1) l in omega arith)
    (λ (g : length p.ready ≤ k - 1). let e : ready_date p k ≡ 0 = get_or_past p.ready (k - 1) 0 g in omega arith)
    (cases_lt (k - 1) (length p.ready))

module _ (net : NetLists) (period : ℕ) (ok : HasEndsInRange net) (time : LeavesCircuitsTime net period) where
  abbrev n : ℕ
  n = length net.transitions

  abbrev Within : PlaceId → Type 0
  Within p = p.index < length net.places

  within : (p : PlaceId) → Within p ⊎ (Within p → ⊥)
  within p = ⊎_elim (λ (l : p.index < length net.places). inl l) (λ (g : length net.places ≤ p.index). inr (λ l. omega arith)) (cases_lt p.index (length net.places))

  abbrev End : ℕ → Type 0
  End u = u < n

  ends : (u : ℕ) → End u ⊎ (End u → ⊥)
  ends u = ⊎_elim (λ (l : u < n). inl l) (λ (g : n ≤ u). inr (λ l. omega arith)) (cases_lt u n)

  no_gain : (c : List PlaceId) → IsCircuit net c → All Within c → reduced_time_of net period 1 c ≤ℤ pos 0
  no_gain c d i = let w = weight_is net period 1 c in let up = time c d in omega (arith, ints, w, up)

  abbrev Best : ℕ → Type 0
  Best s = IsBestOfAll net period 1 Within within End ends n (ends_below net ok) (λ u l. l) no_gain s

  best : (s : ℕ) → s < n → Best s
  best s l = best_of_all net period 1 Within within End ends n (ends_below net ok) (λ u k. k) no_gain s [] (record { to = s; path = refl; at_end = l; inside = All-nil Within })

  -- the greatest sum of a path from the transition
  record IsLeft (s m : ℕ) : Type 0 where
    pub own : Best s
    pub is : pos m ≡ reduced_time_of net period 1 own.best

  left : (s : ℕ) → (m : ℕ) × (s < n → IsLeft s m)
  left s = ⊎_elim
      (λ (l : s < n).
      let o : Best s = best s l in
      let up = o.greatest [] (record { to = s; path = refl; at_end = l; inside = All-nil Within }) in
      let z = natural (reduced_time_of net period 1 o.best) up in
      (z.0, λ k. record { own = o; is = z.1 }))
      (λ (g : n ≤ s). (0, λ l. absurd (omega arith)))
      (cases_lt s n)

  abbrev most : ℕ
  most = (bound (λ s. (left s).0) n).0

  abbrev late : ℕ
  late = latest net

  abbrev first : ℕ → ℕ
  first s = most + late - (left s).0

  leaves : (p : PlaceId) → Within p → LeavesPlaceTime period first (place_at net p)
  leaves p l =
      let in' = ok p.index no_place l in
      let from : IsLeft (from_of net p) (left (from_of net p)).0 = (left (from_of net p)).1 in'.0 in
      let to : IsLeft (to_of net p) (left (to_of net p)).0 = (left (to_of net p)).1 in'.1 in
      let way = to.own.way in
      let up = from.own.greatest (p ∷ to.own.best) (record { to = way.to; path = (l, refl, way.path); at_end = way.at_end; inside = All-cons Within p to.own.best l way.inside }) in
      let x : ℕ = (left (from_of net p)).0 in
      let y : ℕ = (left (to_of net p)).0 in
      let low : x ≤ most = (bound (λ s. (left s).0) n).1 (from_of net p) in'.0 in
      let high : y ≤ most = (bound (λ s. (left s).0) n).1 (to_of net p) in'.1 in
      let x_is : pos x ≡ reduced_time_of net period 1 from.own.best = from.is in
      let y_is : pos y ≡ reduced_time_of net period 1 to.own.best = to.is in
      let step : y + (place_at net p).hold ≤ x + period * (place_at net p).tokens = omega (arith, ints, up, x_is, y_is) in
      record {
        leaves_time = by_numbers x y most late (place_at net p).hold (period * (place_at net p).tokens) low high step;
        ready = λ k some few. soon (ready_date (place_at net p) k) y most late (period * (k - 1)) high (ready_soon net p.index l k);
      } where
        by_numbers : (x y most late hold gain : ℕ) → x ≤ most → y ≤ most → y + hold ≤ x + gain → (most + late - x) + hold ≤ (most + late - y) + gain
        by_numbers x y most late hold gain low high step = omega arith

        soon : (date y most late more : ℕ) → y ≤ most → date ≤ late → date ≤ (most + late - y) + more
        soon date y most late more high l = omega arith

  pub firsts : (f : ℕ → ℕ) × AreWorkableFirsts net period f
  firsts = (first, λ i d l. subst (LeavesPlaceTime period first) (same i d l) (leaves (record { index = i }) l)) where
    same : (i : ℕ) (d : Place) → i < length net.places → place_at net (record { index = i }) ≡ get_or net.places i d
    same i d l = get_or_default net.places i no_place d l

pub by_firsts : WorkableIsByFirsts
by_firsts net period t = (
  λ h i d l. let w = h i d l in record { leaves_time = w.leaves_time; ready = w.ready },
  λ h i d l. let w = h i d l in record { leaves_time = w.leaves_time; ready = w.ready },
)

pub begun_by : TimetablesFromFirstsAreWorkable
begun_by net period f t ok h e i d l =
    let w = h i d l in
    let in' = ok i d l in
    let from = e (get_or net.places i d).from.index in'.0 in
    let to = e (get_or net.places i d).to.index in'.1 in
    let time = w.leaves_time in
    record { leaves_time = omega arith; ready = λ k m n. let r = w.ready k m n in omega arith }

firsts_leave : (net : NetLists) (period : ℕ) → (f : ℕ → ℕ) → AreWorkableFirsts net period f → LeavesCircuitsTime net period
firsts_leave net period f h ps c =
    let a : ℕ = c.closed.0 in
    let l = along net period f (λ p m. (h p.index no_place m).leaves_time) ps a a c.closed.1 in
    omega arith

pub are_workable : PeriodsAreWorkable
are_workable net period ok = (λ w. firsts_leave net period w.0 w.1, λ time. firsts net period ok time)

pub from_ratio : (net : NetLists) (period : ℕ) (r : Fraction) → IsGreatestRatio net IsAnyPlace r → r.time ≤ period * r.tokens → LeavesCircuitsTime net period
from_ratio net period r g h ps c = by_numbers (time_of net ps) (tokens_of net ps) r.time r.tokens period g.some h (g.greatest ps c (λ i d l. tt)) where
  by_numbers : (time tokens a b period : ℕ) → 1 ≤ b → a ≤ period * b → time * b ≤ a * tokens → time ≤ period * tokens
  by_numbers time tokens a b period some h less =
      let one : a * tokens ≤ period * b * tokens = mul-le-mul_right tokens h in
      let two : period * b * tokens ≡ period * tokens * b = grind arith in
      cancel time (period * tokens) b some (omega arith)

pub from_ratio_workable : PeriodsFromTheRatioAreWorkable
from_ratio_workable net period r ok live g = (
  λ w. ratio_below net period r live (firsts_leave net period w.0 w.1) g,
  λ h. firsts net period ok (from_ratio net period r g h),
)
