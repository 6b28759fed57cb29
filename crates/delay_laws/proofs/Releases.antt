-- The releases of a timetable: there are some, and only some; they never fall; past the delays they are the plan.
use Rattle.std.proofs.Common.{ℕ, zero, suc, ◌+◌, ◌-◌, ◌*◌, ◌<◌, ◌≤◌, ◌≡◌, List, [], ◌∷◌, refl, ap, subst, ◌∙◌, arith, ⊎_elim}
use Rattle.std.specs.Prelude.{All, pos}
use Rattle.std.proofs.lemmas.Bool.{cases_lt}
use Rattle.std.proofs.lemmas.List.Elements.{All-cons}
use Rattle.std.proofs.Math.Nat.{mul-le-mul_left, mul-le-mul_right}
use Rattle.periodic_laws.specs.dioid.declared.dates.Date.{Date}
use Rattle.periodic_laws.specs.dioid.declared.dates.Date.TheVariants.{At}
use Rattle.teg_net.specs.Nets.{NetLists}
use Rattle.delay_laws.specs.declared.table.Delay.{Delay}
use Rattle.delay_laws.specs.declared.table.Timetable.{Timetable}
use Rattle.delay_laws.specs.PlannedTimetables.{planned, delay_given, AreDelaysUpTo, IsPastDelays}
use Rattle.delay_laws.specs.Delays.{IsReleaseAt, IsRelease}
use Rattle.delay_laws.specs.DelayLaws.{ReleasesFollowThePlan, EachDelayPasses}
use Rattle.delay_laws.proofs.Plans.{given_most, planned_rises, past_fits}

-- one release
pub one_release : (period : ℕ) (t : Timetable) (i k d e : ℕ) → IsReleaseAt period t i k d → IsReleaseAt period t i k e → d ≡ e
one_release period t i k d e a b =
    let up = b.greatest a.attained.0 a.attained.1 a.attained.2 in
    let down = a.greatest b.attained.0 b.attained.1 b.attained.2 in
    let here = a.attained.3 in
    let there = b.attained.3 in
    omega arith

-- the first release, and the next one
first_release : (period : ℕ) (t : Timetable) (i : ℕ) → IsReleaseAt period t i 1 (planned period t i 1 + delay_given t i 1)
first_release period t i = record {
  attained = (1, omega arith, omega arith, refl);
  greatest = λ s o l. let e : s ≡ 1 = omega arith in rw e (omega arith);
}

next_release : (period : ℕ) (t : Timetable) (i k d : ℕ) → 1 ≤ k → IsReleaseAt period t i k d → (e : ℕ) × IsReleaseAt period t i (suc k) e
next_release period t i k d o h =
    let own : ℕ = planned period t i (suc k) + delay_given t i (suc k) in
    ⊎_elim
    (λ (l : d < own). (
      own,
      record {
        attained = (suc k, omega arith, omega arith, refl);
        greatest = λ s a b. ⊎_elim
            (λ (c : s < suc k). let low = h.greatest s a (omega arith) in omega arith)
            (λ (c : suc k ≤ s). let e : s ≡ suc k = omega arith in rw e (omega arith))
            (cases_lt s (suc k));
      },
    ))
    (λ (l : own ≤ d). (
      d,
      record {
        attained = (h.attained.0, h.attained.1, omega (arith, h.attained.2), h.attained.3);
        greatest = λ s a b. ⊎_elim
            (λ (c : s < suc k). h.greatest s a (omega arith))
            (λ (c : suc k ≤ s). let e : s ≡ suc k = omega arith in rw e l)
            (cases_lt s (suc k));
      },
    ))
    (cases_lt d own)

pub release_exists : (period : ℕ) (t : Timetable) (i n : ℕ) → (d : ℕ) × IsReleaseAt period t i (suc n) d
release_exists period t i zero = (planned period t i 1 + delay_given t i 1, first_release period t i)
release_exists period t i (suc n) = let before = release_exists period t i n in next_release period t i (suc n) before.0 (omega arith) before.1

-- the release of each number
pub release_date : ℕ → Timetable → ℕ → ℕ → ℕ
release_date period t i k = (release_exists period t i (k - 1)).0

pub is_release : (period : ℕ) (t : Timetable) (i k : ℕ) → 1 ≤ k → IsReleaseAt period t i k (release_date period t i k)
unfolding release_date
is_release period t i k o =
    let e : suc (k - 1) ≡ k = omega arith in
    subst (λ (z : ℕ). IsReleaseAt period t i z (release_exists period t i (k - 1)).0) e (release_exists period t i (k - 1)).1

-- the releases of the net
pub releases : ℕ → Timetable → ℕ → ℕ → Date
releases period t i k = At (pos (release_date period t i k))

pub are_releases : (net : NetLists) (period : ℕ) (t : Timetable) → IsRelease net period t (releases period t)
unfolding releases
are_releases net period t i k l o = (release_date period t i k, refl, is_release period t i k o)

-- they never fall, and stay between the plan and the greatest delay
pub release_rises : (period : ℕ) (t : Timetable) (i k d e : ℕ) → IsReleaseAt period t i k d → IsReleaseAt period t i (k + 1) e → d ≤ e
release_rises period t i k d e a b =
    let up = b.greatest a.attained.0 a.attained.1 (omega (arith, a.attained.2)) in
    let here = a.attained.3 in
    omega arith

pub release_above : (period : ℕ) (t : Timetable) (i k d : ℕ) → 1 ≤ k → IsReleaseAt period t i k d → planned period t i k ≤ d
release_above period t i k d o h = let own = h.greatest k o (omega arith) in omega arith

pub release_below : (period : ℕ) (t : Timetable) (most i k d : ℕ) → AreDelaysUpTo most t → IsReleaseAt period t i k d → d ≤ planned period t i k + most
release_below period t most i k d few h =
    let is = h.attained.3 in
    let rises = planned_rises period t i h.attained.0 k h.attained.2 in
    let low = given_most t most i h.attained.0 few in
    omega arith

-- past the delays they are the plan
pub release_planned : (period : ℕ) (t : Timetable) (i k d : ℕ) → 1 ≤ k → IsPastDelays period t i k → IsReleaseAt period t i k d → d ≡ planned period t i k
release_planned period t i k d o past h =
    let is = h.attained.3 in
    let fits = past_fits period t i h.attained.0 k h.attained.1 h.attained.2 past in
    let low = release_above period t i k d o h in
    omega arith

pub releases_follow_the_plan : ReleasesFollowThePlan
releases_follow_the_plan net period t w h i k l o past =
    let here = h i k l o in
    here.1 ∙ ap (λ (z : ℕ). At (pos z)) (release_planned period t i k here.0 o past here.2)

-- a number that comes past one delay
one_passes : (period number by k : ℕ) → 1 ≤ period → number + by ≤ k → period * number + by ≤ period * k
one_passes period number by k some l =
    let up : period * (number + by) ≤ period * k = mul-le-mul_left {m = number + by} {n = k} period l in
    let parts : period * (number + by) ≡ period * number + period * by = grind arith in
    let own : 1 * by ≤ period * by = mul-le-mul_right by some in
    omega arith

-- and past all of some rows
passes : (period : ℕ) (ds : List Delay) → 1 ≤ period → (number : ℕ) × (1 ≤ number) × ((k : ℕ) → number ≤ k → All (λ d. period * d.number + d.by ≤ period * k) ds)
passes period [] some = (1, omega arith, λ k l n d m. absurd (omega arith))
passes period (c ∷ ds) some =
    let rest = passes period ds some in (
      rest.0 + (c.number + c.by),
      omega (arith, rest.1),
      λ k l. All-cons (λ d. period * d.number + d.by ≤ period * k) c ds (one_passes period c.number c.by k some (omega arith)) (rest.2 k (omega arith)),
    )

pub each_delay_passes : EachDelayPasses
each_delay_passes period some t i =
    let p = passes period t.delays.items some in
    (p.0, p.1, λ k l n d m e. p.2 k l n d m)
