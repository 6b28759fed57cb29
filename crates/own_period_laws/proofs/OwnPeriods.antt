-- Transitions that go on by periods of their own in a window do so for ever, where each place keeps its slack and each firing is
-- met: by induction on the number, and on the ranks of the transitions.
use Rattle.std.proofs.Common.{ℕ, ℤ, zero, suc, pos, ◌+◌, ◌-◌, ◌*◌, ◌/◌, ◌%◌, ◌<◌, ◌≤◌, ◌≡◌, length, get_or, sym, ap, subst, ◌∙◌, arith, mod-lt, ⊎_elim, ◌+ℤ◌, ◌-ℤ◌}
use Rattle.std.specs.Prelude.{◌*ℤ◌, ◌≤ℤ◌}
use Rattle.std.proofs.lemmas.Bool.{cases_lt}
use Rattle.std.proofs.lemmas.Int.{ints}
use Rattle.std.proofs.lemmas.List.{get_or_default}
use Rattle.std.proofs.lemmas.Nat.{div-add-mod'}
use Rattle.std.proofs.Math.Nat.{div-mul_cancel}
use Rattle.dioid.specs.declared.dates.Date.TheVariants.{At}
use Rattle.dioid.specs.Dates.{IsAtMostDate, move}
use Rattle.dioid.proofs.Moves.{at_inj, move_rises}
use Rattle.teg_net.specs.declared.entries.Place.{Place}
use Rattle.teg_net.specs.Nets.{NetLists, IsInput, HasEndsInRange}
use Rattle.teg_net.specs.Circuits.{no_place}
use Rattle.teg_model.specs.LiveRanks.{AreRanks}
use Rattle.teg_model.specs.LeastDatings.{IsTight}
use Rattle.teg_model.specs.Datings.{IsLeastUnder, available_at, implicit_place, initial_date}
use Rattle.teg_model.proofs.DateFunctions.{Dating}
use Rattle.teg_model.proofs.LiveRanks.{live_is_ranked}
use Rattle.teg_model.proofs.OfNet.{all_extended_in, tight_of_least}
use Rattle.teg_model.proofs.Tokens.{available_after, implicit_gives, place_keeps, dates_climb}
use Rattle.own_period_laws.specs.OwnPeriods.{AreNumbers, GoesOnTo, GoOnByOwnPeriods, IsMetBy, Meets, OwnPeriodsGoOn, worth}
use Rattle.own_period_laws.proofs.Worths.{value_of, value_is, times_sum, sum_times, times_rise, cancel}

-- a number past the base is one of the first period past it, some periods on
record HasRest (base p k : ℕ) : Type 0 where
  rest : ℕ
  below : rest < p
  turns : ℕ
  same : k ≡ (base + 1 + rest) + turns * p

rest_of : (base p k : ℕ) → 1 ≤ p → base < k → HasRest base p k
rest_of base p k one past =
    let d : ℕ = k - (base + 1) in
    let whole : d / p * p + d % p ≡ d = div-add-mod' d p in
    record { rest = d % p; below = mod-lt d (omega (arith, one)); turns = d / p; same = omega (arith, whole, past) }

module _ (net : NetLists) (ends : HasEndsInRange net) (none : (t : ℕ) → IsInput net t → ⊥) (u x : Dating) (least : IsLeastUnder net u x)
    (bound : ℕ) (rank : ℕ → ℕ) (rr : AreRanks net.places bound rank) (numbers : AreNumbers (length net.transitions) x)
    (count : ℕ) (time : ℤ) (from base last : ℕ) (period : ℕ → ℕ) (step : ℕ → ℤ) (w : GoOnByOwnPeriods net x count time from base last period step) where
  tight : IsTight net u x
  tight = tight_of_least net u x bound rank rr least

  -- ---- numbers and what they are worth

  is : (t k : ℕ) → t < length net.transitions → 1 ≤ k → x t k ≡ At (value_of (x t k))
  is t k l o = let d = numbers t k l o in value_is (x t k) d.0 d.1

  worth_is : (t k : ℕ) → t < length net.transitions → 1 ≤ k → worth count time (x t k) k ≡ (pos count *ℤ value_of (x t k)) -ℤ (pos k *ℤ time)
  worth_is t k l o = ap (λ d. worth count time d k) (is t k l o)

  -- a step in a period is worth nothing
  worth_next : (t k : ℕ) → t < length net.transitions → 1 ≤ k → x t (k + period t) ≡ move (step t) (x t k)
      → worth count time (x t (k + period t)) (k + period t) ≡ worth count time (x t k) k
  worth_next t k l o h =
      let z : ℤ = value_of (x t k) in
      let moved : x t (k + period t) ≡ At (z +ℤ step t) = h ∙ ap (move (step t)) (is t k l o) in
      let later : worth count time (x t (k + period t)) (k + period t) ≡ (pos count *ℤ (z +ℤ step t)) -ℤ (pos (k + period t) *ℤ time) =
      ap (λ d. worth count time d (k + period t)) moved in
      let early = worth_is t k l o in
      let pace = w.pace t l in
      let one = times_sum count z (step t) in
      let two = sum_times k (period t) time in
      omega (arith, ints, later, early, pace, one, two)

  worth_on : (t end : ℕ) → t < length net.transitions → GoesOnTo (x t) from end (period t) (step t) → (k j : ℕ) → from < k → k + j * period t ≤ end
      → worth count time (x t (k + j * period t)) (k + j * period t) ≡ worth count time (x t k) k
  worth_on t end l on k zero a m =
      let same : k + 0 * period t ≡ k = grind arith in
      ap (λ i. worth count time (x t i) i) same
  worth_on t end l on k (suc j) a m =
      let same : k + suc j * period t ≡ (k + j * period t) + period t = grind arith in
      let fits : (k + j * period t) + period t ≤ end = omega (arith, same, m) in
      ap (λ i. worth count time (x t i) i) same
      ∙ (worth_next t (k + j * period t) l (omega (arith, a)) (on (k + j * period t) (omega (arith, a)) fits)
      ∙ worth_on t end l on k j a (omega (arith, fits)))

  -- what a place keeps, in numbers
  given : (i k : ℕ) → i < length net.places → (get_or net.places i no_place).tokens < k
      → available_at x (get_or net.places i no_place) k
      ≡ At (value_of (x (get_or net.places i no_place).from.index (k - (get_or net.places i no_place).tokens)) +ℤ pos (get_or net.places i no_place).hold)
  given i k l m =
      let p : Place = get_or net.places i no_place in
      available_after initial_date x p k (At (value_of (x p.from.index (k - p.tokens)))) m (is p.from.index (k - p.tokens) (ends i no_place l).0 (omega (arith, m)))

  keeps : (i k : ℕ) → i < length net.places → (get_or net.places i no_place).tokens < k
      → (value_of (x (get_or net.places i no_place).from.index (k - (get_or net.places i no_place).tokens)) +ℤ pos (get_or net.places i no_place).hold)
      ≤ℤ value_of (x (get_or net.places i no_place).to.index k)
  keeps i k l m =
      let p : Place = get_or net.places i no_place in
      let kept : IsAtMostDate (available_at x p k) (x p.to.index k) = place_keeps net u x least.feasible k (omega (arith, m)) i l in
      let here : IsAtMostDate (At (value_of (x p.from.index (k - p.tokens)) +ℤ pos p.hold)) (x p.to.index k) = subst (λ d. IsAtMostDate d (x p.to.index k)) (given i k l m) kept in
      subst (IsAtMostDate (At (value_of (x p.from.index (k - p.tokens)) +ℤ pos p.hold))) (is p.to.index k (ends i no_place l).1 (omega (arith, m))) here

  -- ---- the next number

  module _ (end : ℕ) (past : last ≤ end) (sofar : (t : ℕ) → t < length net.transitions → GoesOnTo (x t) from end (period t) (step t)) where
    -- where the tokens come from, dates go on so far
    module _ (i : ℕ) (l : i < length net.places)
        (lower : (get_or net.places i no_place).tokens ≡ 0 → GoesOnTo (x (get_or net.places i no_place).from.index) from (suc end)
        (period (get_or net.places i no_place).from.index) (step (get_or net.places i no_place).from.index)) where
      abbrev p : Place
      p = get_or net.places i no_place

      source : GoesOnTo (x p.from.index) from (suc end - p.tokens) (period p.from.index) (step p.from.index)
      source k a m =
          ⊎_elim
          (λ (zero_is : p.tokens < 1). lower (omega (arith, zero_is)) k a (omega (arith, m)))
          (λ (some : 1 ≤ p.tokens). sofar p.from.index (ends i no_place l).0 k a (omega (arith, m, some)))
          (cases_lt p.tokens 1)

      -- the token is there in time
      in_time : (k : ℕ) → k + period p.to.index ≡ suc end
          → (value_of (x p.from.index (suc end - p.tokens)) +ℤ pos p.hold) ≤ℤ (value_of (x p.to.index k) +ℤ step p.to.index)
      in_time k e =
          let f : ℕ = p.from.index in
          let t : ℕ = p.to.index in
          let f_in = (ends i no_place l).0 in
          let t_in = (ends i no_place l).1 in
          let j : ℕ = suc end - p.tokens in
          let few = w.tokens_in i no_place l in
          let room = w.room t t_in in
          let before = w.before in
          let some : 1 ≤ period t = w.at_least_one t t_in in
          let mine : HasRest base (period t) k = rest_of base (period t) k some (omega (arith, e, room, past)) in
          let its : HasRest base (period f) j = rest_of base (period f) j (w.at_least_one f f_in) (omega (arith, few, past)) in
          let next : suc mine.turns * period t ≡ mine.turns * period t + period t = grind arith in
          let meet : Meets period p mine.rest its.rest = record {
            end_in = mine.below;
            start_in = its.below;
            ends = suc mine.turns;
            starts = its.turns;
            same = (let a = mine.same in let b = its.same in omega (arith, next, e, a, b, few, past));
          } in
          let slack = w.slack i no_place l mine.rest its.rest meet in
          let early = worth_on t end t_in (sofar t t_in) (base + 1 + mine.rest) mine.turns (omega (arith, before)) (let a = mine.same in omega (arith, a, e, some)) in
          let late = worth_on f (suc end - p.tokens) f_in source (base + 1 + its.rest) its.turns (omega (arith, before)) (let b = its.same in omega (arith, b)) in
          let early_is : worth count time (x t k) k ≡ worth count time (x t (base + 1 + mine.rest)) (base + 1 + mine.rest) = ap (λ i. worth count time (x t i) i) mine.same ∙ early in
          let late_is : worth count time (x f j) j ≡ worth count time (x f (base + 1 + its.rest)) (base + 1 + its.rest) = ap (λ i. worth count time (x f i) i) its.same ∙ late in
          let early_worth = worth_is t k t_in (omega (arith, e, room, past)) in
          let late_worth = worth_is f j f_in (omega (arith, few, past, before)) in
          let pace = w.pace t t_in in
          let whole : j + p.tokens ≡ k + period t = omega (arith, e, few, past) in
          let one = sum_times j p.tokens time in
          let two = sum_times k (period t) time in
          let same : pos (j + p.tokens) *ℤ time ≡ pos (k + period t) *ℤ time = ap (λ i. pos i *ℤ time) whole in
          let left = times_sum count (value_of (x f j)) (pos p.hold) in
          let right = times_sum count (value_of (x t k)) (step t) in
          cancel count (value_of (x f j) +ℤ pos p.hold) (value_of (x t k) +ℤ step t) w.some
          (omega (arith, ints, slack, early_is, late_is, early_worth, late_worth, pace, one, two, same, left, right))

      -- where a firing is met by it, that of the next period is not before
      met_next : (k : ℕ) → k + period p.to.index ≡ suc end → (r : HasRest base (period p.to.index) k) → IsMetBy net x period p.to.index (base + 1 + r.rest) i
          → (value_of (x p.to.index k) +ℤ step p.to.index) ≤ℤ value_of (x p.to.index (suc end))
      met_next k e r met =
          let f : ℕ = p.from.index in
          let t : ℕ = p.to.index in
          let f_in = (ends i no_place l).0 in
          let t_in = (ends i no_place l).1 in
          let few = w.tokens_in i no_place l in
          let fewer = w.tokens_before i no_place l in
          let room = w.room t t_in in
          let some : 1 ≤ period t = w.at_least_one t t_in in
          let b : ℕ = base + 1 + r.rest in
          let j : ℕ = suc end - p.tokens in
          let c : ℕ = period t / period f in
          let whole : c * period f ≡ period t = div-mul_cancel (period f) met.divides in
          let turned : (suc r.turns * c) * period f ≡ suc r.turns * (c * period f) = grind arith in
          let turns : (suc r.turns * c) * period f ≡ r.turns * period t + period t = turned ∙ (ap (λ z. suc r.turns * z) whole ∙ grind arith) in
          let at : (b - p.tokens) + (suc r.turns * c) * period f ≡ j = (let a = r.same in omega (arith, turns, a, e, fewer)) in
          let own : worth count time (x f ((b - p.tokens) + (suc r.turns * c) * period f)) ((b - p.tokens) + (suc r.turns * c) * period f) ≡ worth count time (x f (b - p.tokens)) (b - p.tokens) =
          worth_on f (suc end - p.tokens) f_in source (b - p.tokens) (suc r.turns * c) (omega (arith, fewer)) (omega (arith, at)) in
          let source_is : worth count time (x f j) j ≡ worth count time (x f (b - p.tokens)) (b - p.tokens) = sym (ap (λ i. worth count time (x f i) i) at) ∙ own in
          let end_is : worth count time (x t k) k ≡ worth count time (x t b) b =
          ap (λ i. worth count time (x t i) i) r.same
          ∙ worth_on t end t_in (sofar t t_in) b r.turns (omega (arith, fewer)) (let a = r.same in omega (arith, a, e, some)) in
          let tie : x t b ≡ At (value_of (x f (b - p.tokens)) +ℤ pos p.hold) = met.same ∙ given i b l (omega (arith, fewer)) in
          let tie_is : value_of (x t b) ≡ value_of (x f (b - p.tokens)) +ℤ pos p.hold = at_inj _ _ (sym (is t b t_in (omega arith)) ∙ tie) in
          let kept = keeps i (suc end) l (omega (arith, few, past)) in
          let rise = times_rise count (value_of (x f j) +ℤ pos p.hold) (value_of (x t (suc end))) kept in
          let w1 = worth_is t k t_in (omega (arith, e, room, past)) in
          let w2 = worth_is t b t_in (omega arith) in
          let w3 = worth_is f (b - p.tokens) f_in (omega (arith, fewer)) in
          let w4 = worth_is f j f_in (omega (arith, few, past)) in
          let pace = w.pace t t_in in
          let tied = ap (λ z. pos count *ℤ z) tie_is in
          let s1 = times_sum count (value_of (x f (b - p.tokens))) (pos p.hold) in
          let s2 = times_sum count (value_of (x f j)) (pos p.hold) in
          let s3 = times_sum count (value_of (x t k)) (step t) in
          let s4 = sum_times (b - p.tokens) p.tokens time in
          let e4 : (b - p.tokens) + p.tokens ≡ b = omega (arith, fewer) in
          let n4 : pos ((b - p.tokens) + p.tokens) *ℤ time ≡ pos b *ℤ time = ap (λ i. pos i *ℤ time) e4 in
          let s5 = sum_times j p.tokens time in
          let e5 : j + p.tokens ≡ k + period t = omega (arith, e, few, past) in
          let n5 : pos (j + p.tokens) *ℤ time ≡ pos (k + period t) *ℤ time = ap (λ i. pos i *ℤ time) e5 in
          let s6 = sum_times k (period t) time in
          cancel count (value_of (x t k) +ℤ step t) (value_of (x t (suc end))) w.some
          (omega (arith, ints, source_is, end_is, rise, w1, w2, w3, w4, pace, tied, s1, s2, s3, s4, n4, s5, n5, s6))

    -- the same, told of the transition that the place leads to
    met_on : (i : ℕ) → i < length net.places
        → ((get_or net.places i no_place).tokens ≡ 0 → GoesOnTo (x (get_or net.places i no_place).from.index) from (suc end)
        (period (get_or net.places i no_place).from.index) (step (get_or net.places i no_place).from.index))
        → (t : ℕ) → (get_or net.places i no_place).to.index ≡ t
        → (k : ℕ) → k + period t ≡ suc end → (r : HasRest base (period t) k) → IsMetBy net x period t (base + 1 + r.rest) i
        → (value_of (x t k) +ℤ step t) ≤ℤ value_of (x t (suc end))
    met_on i l lower t q =
        subst (λ v. (k : ℕ) → k + period v ≡ suc end → (r : HasRest base (period v) k) → IsMetBy net x period v (base + 1 + r.rest) i
        → (value_of (x v k) +ℤ step v) ≤ℤ value_of (x v (suc end)))
        q (met_next i l lower)

    time_on : (i : ℕ) → i < length net.places
        → ((get_or net.places i no_place).tokens ≡ 0 → GoesOnTo (x (get_or net.places i no_place).from.index) from (suc end)
        (period (get_or net.places i no_place).from.index) (step (get_or net.places i no_place).from.index))
        → (t : ℕ) → (get_or net.places i no_place).to.index ≡ t → (k : ℕ) → k + period t ≡ suc end
        → (value_of (x (get_or net.places i no_place).from.index (suc end - (get_or net.places i no_place).tokens)) +ℤ pos (get_or net.places i no_place).hold) ≤ℤ (value_of (x t k) +ℤ step t)
    time_on i l lower t q =
        subst (λ v. (k : ℕ) → k + period v ≡ suc end
        → (value_of (x (get_or net.places i no_place).from.index (suc end - (get_or net.places i no_place).tokens)) +ℤ pos (get_or net.places i no_place).hold) ≤ℤ (value_of (x v k) +ℤ step v))
        q (in_time i l lower)

    -- the firing before has gone on by the period
    before_next : (t k : ℕ) → t < length net.transitions → k + period t ≡ suc end → x t (suc end - 1) ≡ move (step t) (x t (k - 1))
    before_next t k l e =
        let room = w.room t l in
        let some = w.at_least_one t l in
        let first = w.before in
        let back : suc end - 1 ≡ (k - 1) + period t = omega (arith, e, room, past) in
        ap (x t) back ∙ sofar t l (k - 1) (omega (arith, e, room, past, first)) (omega (arith, e, some))

    climbs : (t k : ℕ) → t < length net.transitions → 2 ≤ k → IsAtMostDate (x t (k - 1)) (x t k)
    climbs t k l two =
        let up : (k - 1) + 1 ≡ k = omega (arith, two) in
        subst (λ i. IsAtMostDate (x t (k - 1)) (x t i)) up (dates_climb net u x least.feasible t (k - 1) l (omega (arith, two)))

    -- where a firing comes with the one before, so does that of the next period
    still_next : (t k : ℕ) → (l : t < length net.transitions) → k + period t ≡ suc end → (r : HasRest base (period t) k) → x t (base + 1 + r.rest) ≡ x t ((base + 1 + r.rest) - 1)
        → (value_of (x t k) +ℤ step t) ≤ℤ value_of (x t (suc end))
    still_next t k l e r h =
        let room = w.room t l in
        let some = w.at_least_one t l in
        let first = w.before in
        let b : ℕ = base + 1 + r.rest in
        let at : (b - 1) + r.turns * period t ≡ k - 1 = (let a = r.same in omega (arith, a)) in
        let here : worth count time (x t k) k ≡ worth count time (x t b) b =
        ap (λ i. worth count time (x t i) i) r.same
        ∙ worth_on t end l (sofar t l) b r.turns (omega (arith, first)) (let a = r.same in omega (arith, a, e, some)) in
        let there : worth count time (x t (k - 1)) (k - 1) ≡ worth count time (x t (b - 1)) (b - 1) =
        sym (ap (λ i. worth count time (x t i) i) at)
        ∙ worth_on t end l (sofar t l) (b - 1) r.turns (omega (arith, first)) (omega (arith, at, e, some)) in
        let w1 = worth_is t k l (omega (arith, e, room, past)) in
        let w2 = worth_is t b l (omega arith) in
        let w3 = worth_is t (k - 1) l (omega (arith, e, room, past, first)) in
        let w4 = worth_is t (b - 1) l (omega (arith, first)) in
        let same : value_of (x t b) ≡ value_of (x t (b - 1)) = ap value_of h in
        let tied = ap (λ z. pos count *ℤ z) same in
        let s1 = sum_times (b - 1) 1 time in
        let e1 : (b - 1) + 1 ≡ b = omega arith in
        let n1 : pos ((b - 1) + 1) *ℤ time ≡ pos b *ℤ time = ap (λ i. pos i *ℤ time) e1 in
        let s2 = sum_times (k - 1) 1 time in
        let e2 : (k - 1) + 1 ≡ k = omega (arith, e, room, past) in
        let n2 : pos ((k - 1) + 1) *ℤ time ≡ pos k *ℤ time = ap (λ i. pos i *ℤ time) e2 in
        let level : value_of (x t k) ≤ℤ value_of (x t (k - 1)) =
        cancel count (value_of (x t k)) (value_of (x t (k - 1))) w.some (omega (arith, ints, here, there, w1, w2, w3, w4, tied, s1, n1, s2, n2)) in
        let moved : x t (suc end - 1) ≡ At (value_of (x t (k - 1)) +ℤ step t) =
        before_next t k l e ∙ ap (move (step t)) (is t (k - 1) l (omega (arith, e, room, past, first))) in
        let up : IsAtMostDate (At (value_of (x t (k - 1)) +ℤ step t)) (x t (suc end)) =
        subst (λ d. IsAtMostDate d (x t (suc end))) moved (climbs t (suc end) l (omega (arith, past, room, first))) in
        let rise : (value_of (x t (k - 1)) +ℤ step t) ≤ℤ value_of (x t (suc end)) =
        subst (IsAtMostDate (At (value_of (x t (k - 1)) +ℤ step t))) (is t (suc end) l (omega arith)) up in
        omega (arith, ints, level, rise)

    -- where transitions of lower rank go on so far, so does this one
    next : (t k : ℕ) → t < length net.transitions → k + period t ≡ suc end
        → ((v : ℕ) → v < length net.transitions → rank v < rank t → GoesOnTo (x v) from (suc end) (period v) (step v))
        → x t (suc end) ≡ move (step t) (x t k)
    next t k l e lower =
        let room = w.room t l in
        let first = w.before in
        let lowered : (i : ℕ) → i < length net.places → (get_or net.places i no_place).to.index ≡ t → (get_or net.places i no_place).tokens ≡ 0
        → GoesOnTo (x (get_or net.places i no_place).from.index) from (suc end) (period (get_or net.places i no_place).from.index) (step (get_or net.places i no_place).from.index) =
        λ i m q z. lower (get_or net.places i no_place).from.index (ends i no_place m).0 (let up = rr.rise i no_place m z in subst (λ v. rank (get_or net.places i no_place).from.index < rank v) q up) in
        let z : ℤ = value_of (x t k) +ℤ step t in
        let now : x t k ≡ At (value_of (x t k)) = is t k l (omega (arith, e, room, past)) in
        let up : IsAtMostDate (x t (suc end)) (At z) =
        tight.tight t (suc end) (At z) l (omega arith)
        (all_extended_in net (λ p. p.to.index ≡ t → IsAtMostDate (available_at x p (suc end)) (At z))
        (λ i d m q.
        let same = get_or_default net.places i d no_place m in
        let few = w.tokens_in i no_place m in
        let late : IsAtMostDate (available_at x (get_or net.places i no_place) (suc end)) (At z) =
        rw (given i (suc end) m (omega (arith, few, past)))
        (time_on i m (lowered i m (rw same at q)) t (rw same at q) k e) in
        rw same late)
        (λ v v_in q.
        let given_is : available_at x (implicit_place v) (suc end) ≡ x v (suc end - 1) =
        (let back : (suc end - 1) + 1 ≡ suc end = omega arith in
        subst (λ i. available_at x (implicit_place v) i ≡ x v (suc end - 1)) back (implicit_gives initial_date x v (suc end - 1) (omega (arith, past, room, first)))) in
        let moved : IsAtMostDate (move (step t) (x t (k - 1))) (move (step t) (x t k)) =
        move_rises (step t) (step t) (x t (k - 1)) (x t k) (omega (arith, ints)) (climbs t k l (omega (arith, e, room, past, first))) in
        let own : IsAtMostDate (x t (suc end - 1)) (At z) = rw (before_next t k l e) (subst (IsAtMostDate (move (step t) (x t (k - 1)))) (ap (move (step t)) now) moved) in
        rw given_is (subst (λ s. IsAtMostDate (x s (suc end - 1)) (At z)) (sym q) own)))
        (λ h. absurd (none t h)) in
        let some = w.at_least_one t l in
        let r : HasRest base (period t) k = rest_of base (period t) k some (omega (arith, e, room, past)) in
        let down : z ≤ℤ value_of (x t (suc end)) =
        ⊎_elim
        (λ (h : x t (base + 1 + r.rest) ≡ x t ((base + 1 + r.rest) - 1)). still_next t k l e r h)
        (λ (h : (i : ℕ) × IsMetBy net x period t (base + 1 + r.rest) i).
        met_on h.0 h.1.within (lowered h.0 h.1.within h.1.ends) t h.1.ends k e r h.1)
        (w.met t r.rest l r.below) in
        let there : x t (suc end) ≡ At (value_of (x t (suc end))) = is t (suc end) l (omega arith) in
        let rise : value_of (x t (suc end)) ≤ℤ z = subst (λ d. IsAtMostDate d (At z)) there up in
        let equal : value_of (x t (suc end)) ≡ z = omega (arith, ints, rise, down) in
        there ∙ (ap At equal ∙ sym (ap (move (step t)) now))

    by_rank : (m t : ℕ) → t < length net.transitions → rank t < m → GoesOnTo (x t) from (suc end) (period t) (step t)
    by_rank zero t l q k a b = absurd (omega (arith, q))
    by_rank (suc m) t l q k a b =
        ⊎_elim
        (λ (c : k + period t < suc end). sofar t l k a (omega (arith, c)))
        (λ (c : suc end ≤ k + period t).
        let e : k + period t ≡ suc end = omega (arith, b, c) in
        ap (x t) e ∙ next t k l e (λ v v_in low. by_rank m v v_in (omega (arith, q, low))))
        (cases_lt (k + period t) (suc end))

  goes_on : (end t : ℕ) → t < length net.transitions → GoesOnTo (x t) from end (period t) (step t)
  goes_on zero t l k a b = absurd (omega (arith, a, b))
  goes_on (suc end) t l k a b =
      ⊎_elim
      (λ (c : end < last). w.again t l k a (omega (arith, b, c)))
      (λ (c : last ≤ end). by_rank end c (λ v v_in. goes_on end v v_in) bound t l (rr.below t) k a b)
      (cases_lt end last)

pub own_periods_go_on : OwnPeriodsGoOn
own_periods_go_on net ends live none u x least numbers count time from base last period step w t l k a =
    let ranked = live_is_ranked net ends live in
    goes_on net ends none u x least ranked.0 ranked.1 ranked.2 numbers count time from base last period step w (k + period t) t l k a (omega arith)
