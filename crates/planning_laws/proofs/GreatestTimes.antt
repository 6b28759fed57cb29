-- A greatest time is a place back, and all of them are places that a net has beside its own.
use Rattle.std.proofs.Common.{ℕ, ◌+◌, ◌-◌, ◌*◌, ◌<◌, ◌≤◌, ◌≡◌, List, [], length, get_or, refl, ap, arith, ⊎_elim}
use Rattle.std.proofs.lemmas.Bool.{cases_lt}
use Rattle.std.proofs.lemmas.Int.{ints}
use Rattle.std.proofs.lemmas.List.{get_or_past}
use Rattle.std.proofs.lemmas.List.Elements.{All-append}
use Rattle.teg_model.specs.dioid.declared.dates.Date.{Date}
use Rattle.teg_model.specs.dioid.Dates.{IsAtMostDate, delayed}
use Rattle.teg_model.specs.teg_net.declared.entries.Place.{Place}
use Rattle.teg_model.specs.teg_net.ReadyDates.{ready_date}
use Rattle.teg_model.specs.teg_net.Circuits.{no_place}
use Rattle.teg_model.specs.Datings.{implicit_place, available_at, initial_date}
use Rattle.teg_model.proofs.OfNet.{all_extended, extended_has}
use Rattle.teg_model.proofs.Tokens.{available_after, available_first}
use Rattle.pace_laws.proofs.Sums.{all_left, all_right}
use Rattle.std.proofs.lemmas.List.Elements.{All-from_get_or}
use Rattle.workable_laws.specs.WorkablePeriods.{LeavesPlaceTime, PeriodsAreWorkable, PeriodsFromTheRatioAreWorkable}
use Rattle.planning_laws.specs.GreatestTimes.{GreatestTime, dates_by, WorkableFirstsAreFeasible, GreatestTimesArePlacesBack, PlacesBackExist, NoTokenWaits}
use Rattle.planning_laws.specs.GreatestTimes.{with_places, TimesAreKeptByPlacesBack, PeriodsWithGreatestTimes, GreatestTimesFromTheRatio}

-- ---- a timetable and its dates

module _ (period : ℕ) (first : ℕ → ℕ) where
  abbrev x : ℕ → ℕ → Date
  x = dates_by period first

  -- left its time, a place keeps its end back at no number
  dates_keep : (p : Place) → LeavesPlaceTime period first p → (k : ℕ) → 1 ≤ k → IsAtMostDate (available_at x p k) (x p.to.index k)
  dates_keep p h k one = ⊎_elim
      (λ (l : p.tokens < k).
      let time = h.leaves_time in
      let number : (k - p.tokens - 1) + p.tokens ≡ k - 1 = omega (arith, l) in
      let all : period * (k - 1) ≡ period * ((k - p.tokens - 1) + p.tokens) = rw number refl in
      let spread : period * ((k - p.tokens - 1) + p.tokens) ≡ period * (k - p.tokens - 1) + period * p.tokens = grind arith in
      rw (available_after initial_date x p k (x p.from.index (k - p.tokens)) l refl) (omega (arith, ints, time, all, spread)))
      (λ (l : k ≤ p.tokens). let r = h.ready k one l in rw (available_first initial_date x p k l) (omega (arith, ints, r)))
      (cases_lt p.tokens k)

  leaves_from : (p : Place) → ((k : ℕ) → 1 ≤ k → IsAtMostDate (available_at x p k) (x p.to.index k)) → LeavesPlaceTime period first p
  leaves_from p h = record {
    leaves_time =
        let k : ℕ = p.tokens + 1 in
        let back : k - p.tokens ≡ 1 = omega arith in
        let start : x p.from.index (k - p.tokens) ≡ x p.from.index 1 = ap (x p.from.index) back in
        let keeps : IsAtMostDate (delayed p.hold (x p.from.index 1)) (x p.to.index k) = rw (available_after initial_date x p k (x p.from.index 1) (omega arith) start) at (h k (omega arith)) in
        let none : period * (1 - 1) ≡ 0 = omega arith in
        let all : period * (p.tokens + 1 - 1) ≡ period * p.tokens = ap (λ n. period * n) (let e : p.tokens + 1 - 1 ≡ p.tokens = omega arith in e) in
        omega (arith, ints, keeps, none, all);
    ready = λ k one few. (let keeps = rw (available_first initial_date x p k few) at (h k one) in omega (arith, ints, keeps));
  }

  -- a transition's own numbers come in turn
  in_turn : (t : ℕ) → LeavesPlaceTime period first (implicit_place t)
  in_turn t = record {
    leaves_time = omega arith;
    ready = λ k one few. (let e : ready_date (implicit_place t) k ≡ 0 = get_or_past [] (k - 1) 0 (omega arith) in omega (arith, e));
  }

pub are_feasible : WorkableFirstsAreFeasible
are_feasible net period first = (
  λ h. record {
    places = λ k one. all_extended net (λ p. IsAtMostDate (available_at (dates_by period first) p k) (dates_by period first p.to.index k))
        (λ i d l. dates_keep period first (get_or net.places i d) (h i d l) k one)
        (λ t. dates_keep period first (implicit_place t) (in_turn period first t) k one);
    inputs = λ t k one i. tt;
  },
  λ f. All-from_get_or (LeavesPlaceTime period first) net.places no_place (λ i l.
      leaves_from period first (get_or net.places i no_place) (λ k one.
      extended_has net (λ p. IsAtMostDate (available_at (dates_by period first) p k) (dates_by period first p.to.index k)) (λ j m. f.places k one j no_place m) i l)),
)

-- ---- one greatest time

-- the first firings tell it
time_left : (period from to later most hold tokens : ℕ) → hold + most ≡ period * (later + tokens) → to + period * (1 + later - 1) ≤ from + period * (1 - 1) + most
    → to + hold ≤ from + period * tokens
time_left period from to later most hold tokens is keeps =
    let one : period * (1 + later - 1) ≡ period * later = ap (λ n. period * n) (let e : 1 + later - 1 ≡ later = omega arith in e) in
    let none : period * (1 - 1) ≡ 0 = omega arith in
    let all : period * (later + tokens) ≡ period * later + period * tokens = grind arith in
    omega (arith, is, keeps, one, none, all)

time_kept : (period from to later most hold tokens k : ℕ) → 1 ≤ k → hold + most ≡ period * (later + tokens) → to + hold ≤ from + period * tokens
    → to + period * (k + later - 1) ≤ from + period * (k - 1) + most
time_kept period from to later most hold tokens k some is leaves =
    let number : k + later - 1 ≡ (k - 1) + later = omega (arith, some) in
    let one : period * (k + later - 1) ≡ period * ((k - 1) + later) = ap (λ n. period * n) number in
    let two : period * ((k - 1) + later) ≡ period * (k - 1) + period * later = grind arith in
    let all : period * (later + tokens) ≡ period * later + period * tokens = grind arith in
    omega (arith, is, leaves, one, two, all)

ready_at_once : (p : Place) → p.ready ≡ [] → (k : ℕ) → ready_date p k ≡ 0
ready_at_once p e k =
    let none : length p.ready ≡ 0 = ap (λ (ds : List ℕ). length ds) e in
    get_or_past p.ready (k - 1) 0 (omega (arith, none))

pub places_back : GreatestTimesArePlacesBack
places_back period first g p b = (
  λ keeps.
      let starts : first p.from.index ≡ first g.to = ap first b.starts in
      let ends : first p.to.index ≡ first g.from = ap first b.ends in
      let left = time_left period (first g.from) (first g.to) g.later g.most p.hold p.tokens b.hold (keeps 1 (omega arith)) in
      record {
        leaves_time = omega (arith, starts, ends, left);
        ready = λ k some few. (let e = ready_at_once p b.ready k in omega (arith, e));
      },
  λ leaves k some.
      let starts : first p.from.index ≡ first g.to = ap first b.starts in
      let ends : first p.to.index ≡ first g.from = ap first b.ends in
      let time = leaves.leaves_time in
      time_kept period (first g.from) (first g.to) g.later g.most p.hold p.tokens k some b.hold (omega (arith, starts, ends, time)),
)

pub places_back_exist : PlacesBackExist
places_back_exist period g tokens h = (
  record { name = []; from = record { index = g.to }; to = record { index = g.from }; hold = period * (g.later + tokens) - g.most; tokens = tokens; ready = [] },
  record { starts = refl; ends = refl; hold = omega (arith, h); ready = refl },
  refl,
)

pub no_token_waits : NoTokenWaits
no_token_waits period first p leaves keeps k one =
    let most = keeps k one in
    let time = leaves.leaves_time in
    let number : k + p.tokens - 1 ≡ (k - 1) + p.tokens = omega (arith, one) in
    let same : period * (k + p.tokens - 1) ≡ period * ((k - 1) + p.tokens) = ap (λ n. period * n) number in
    let spread : period * ((k - 1) + p.tokens) ≡ period * (k - 1) + period * p.tokens = grind arith in
    omega (arith, most, time, same, spread)

-- ---- all of them

no_time : GreatestTime
no_time = record { from = 0; to = 0; later = 0; most = 0 }

pub kept_by_places : TimesAreKeptByPlacesBack
kept_by_places net period times backs first are = (
  λ h. All-append (LeavesPlaceTime period first) net.places backs h.keeps_places (λ i d l.
      let few = are.count in
      let m : i < length times = omega (arith, l, few) in
      (places_back period first (get_or times i no_time) (get_or backs i d) (are.each i no_time d m)).0 (h.keeps_times i no_time m)),
  λ h. record {
    keeps_places = all_left (LeavesPlaceTime period first) net.places backs h;
    keeps_times = λ i d l.
        let few = are.count in
        let left = all_right (LeavesPlaceTime period first) net.places backs h in
        (places_back period first (get_or times i d) (get_or backs i no_place) (are.each i d no_place l)).1 (left i no_place (omega (arith, l, few)));
  },
)

pub periods_with_times : PeriodsAreWorkable → PeriodsWithGreatestTimes
periods_with_times workable net period times backs are ends =
    let by = workable (with_places net backs) period ends in (
      λ w. by.0 (w.0, (kept_by_places net period times backs (w.0) are).0 w.1),
      λ time. let f = by.1 time in (f.0, (kept_by_places net period times backs (f.0) are).1 f.1),
    )

pub times_from_ratio : PeriodsFromTheRatioAreWorkable → GreatestTimesFromTheRatio
times_from_ratio workable net period times backs r are ends live g =
    let by = workable (with_places net backs) period r ends live g in (
      λ w. by.0 (w.0, (kept_by_places net period times backs (w.0) are).0 w.1),
      λ h. let f = by.1 h in (f.0, (kept_by_places net period times backs (f.0) are).1 f.1),
    )
