-- The delayed dating: it exists, it is one, and it stays between the plan and the plan with the greatest delay.
use Rattle.std.proofs.Common.{ℕ, ◌+◌, ◌-◌, ◌*◌, ◌<◌, ◌≤◌, ◌≡◌, true, false, ltb, cond, length, get_or, refl, sym, ap, ◌∙◌, arith, ⊎_elim}
use Rattle.std.specs.Prelude.{All, pos, negsuc}
use Rattle.std.proofs.lemmas.Bool.{cases_lt}
use Rattle.std.proofs.lemmas.Bool.Decides.{nat_tests}
use Rattle.std.proofs.lemmas.Int.{ints}
use Rattle.periodic_laws.specs.dioid.declared.dates.Date.{Date}
use Rattle.periodic_laws.specs.dioid.declared.dates.Date.TheVariants.{Early, At, Never}
use Rattle.periodic_laws.specs.dioid.Dates.{IsAtMostDate}
use Rattle.periodic_laws.specs.dioid.DateOrder.{Le}
use Rattle.periodic_laws.proofs.dioid_proofs.AtMost.{le_is, le_trans, le_never, le_antisym}
use Rattle.periodic_laws.proofs.dioid_proofs.Moves.{at_inj}
use Rattle.teg_net.specs.declared.entries.Place.{Place}
use Rattle.teg_net.specs.Nets.{NetLists}
use Rattle.periodic_laws.specs.teg_model.Systems.{System, available_in, IsFeasibleIn, IsLeastIn}
use Rattle.periodic_laws.specs.teg_model.LiveRanks.{HasEndsInRange, IsRanked}
use Rattle.periodic_laws.specs.teg_model.Datings.{extended_places, initial_date, system_with}
use Rattle.periodic_laws.specs.teg_model.LeastDatings.{AreSameOn}
use Rattle.periodic_laws.proofs.teg_model_proofs.OfNet.{all_extended, all_extended_in, ranks_extended}
use Rattle.periodic_laws.proofs.teg_model_proofs.Tokens.{available_after, available_first, available_same}
use Rattle.periodic_laws.proofs.teg_model_proofs.LeastOver.{least_over, least_over_is_least}
use Rattle.periodic_laws.proofs.teg_model_proofs.LiveRanks.{live_is_ranked}
use Rattle.periodic_laws.proofs.teg_model_proofs.DateFunctions.{Dating}
use Rattle.delay_laws.specs.declared.table.Timetable.{Timetable}
use Rattle.delay_laws.specs.PlannedTimetables.{planned, AreDelaysUpTo, IsWorkableAt, IsWorkable}
use Rattle.delay_laws.specs.Delays.{IsRelease, IsDelayedBy, AreAbovePlan, AreDelaysLeft}
use Rattle.delay_laws.specs.SettlingLaws.{natural_of_date, DelaysLeftAreWithin}
use Rattle.delay_laws.specs.DelayLaws.{DelayedDatingsExist, DelayedDatingsAreOne, DelaysAreWithin}
use Rattle.delay_laws.proofs.Releases.{one_release, releases, are_releases, release_above, release_below}

-- ---- there is one

pub delayed_datings_exist : DelayedDatingsExist
delayed_datings_exist net ends live period t =
    let ranked : IsRanked net = live_is_ranked net ends live in
    let s : System = system_with net initial_date (releases period t) in (
      least_over s ranked.0 ranked.1,
      releases period t,
      record {
        release = are_releases net period t;
        least = least_over_is_least s ranked.0 ranked.1 (ranks_extended net ranked.0 ranked.1 ranked.2);
      },
    )

-- ---- and only one

-- the dates of the first transitions, and Never past them
pub upto : ℕ → Dating → Dating
upto n y t k = cond (ltb t n) (y t k) Never

pub upto_is : (n : ℕ) (y : Dating) (t k : ℕ) → t < n → upto n y t k ≡ y t k
unfolding upto
upto_is n y t k l = let e : ltb t n ≡ true = grind (arith, nat_tests) in rw e refl

upto_not : (n : ℕ) (y : Dating) (t k : ℕ) → n ≤ t → upto n y t k ≡ Never
unfolding upto
upto_not n y t k l = let e : ltb t n ≡ false = grind (arith, nat_tests) in rw e refl

pub ends_extended : (net : NetLists) → HasEndsInRange net → All (λ p. (p.from.index < length net.transitions) × (p.to.index < length net.transitions)) (extended_places net)
ends_extended net ends = all_extended_in net (λ p. (p.from.index < length net.transitions) × (p.to.index < length net.transitions)) ends (λ t l. (l, l))

-- what keeps the places of the net and its releases makes a feasible dating
pub feasible_upto : (net : NetLists) (w y : Dating) → HasEndsInRange net
    → ((k : ℕ) → 1 ≤ k → All (λ p. IsAtMostDate (available_in initial_date y p k) (y p.to.index k)) (extended_places net))
    → ((t k : ℕ) → t < length net.transitions → 1 ≤ k → IsAtMostDate (w t k) (y t k))
    → IsFeasibleIn (system_with net initial_date w) (upto (length net.transitions) y)
feasible_upto net w y ends keeps above =
    let n : ℕ = length net.transitions in
    record {
      places = λ k o i d l. (
          let p : Place = get_or (extended_places net) i d in
          let in' = ends_extended net ends i d l in
          let own : Le (available_in initial_date y p k) (y p.to.index k) = record { holds = keeps k o i d l } in
          le_trans (le_is (available_same initial_date (upto n y) y p k (λ m. upto_is n y p.from.index (k - p.tokens) in'.0)))
          (le_trans own (le_is (sym (upto_is n y p.to.index k in'.1))))).holds;
      releases = λ t k o. (⊎_elim
          (λ (l : t < n). let own : Le (w t k) (y t k) = record { holds = above t k l o } in le_trans own (le_is (sym (upto_is n y t k l))))
          (λ (l : n ≤ t). le_trans (le_never (w t k)) (le_is (sym (upto_not n y t k l))))
          (cases_lt t n)).holds;
    }

same_releases : (net : NetLists) (period : ℕ) (t : Timetable) (w v : Dating) → IsRelease net period t w → IsRelease net period t v → AreSameOn net w v
same_releases net period t w v a b i k l o =
    let one = a i k l o in
    let two = b i k l o in
    one.1 ∙ ap (λ (z : ℕ). At (pos z)) (one_release period t i k one.0 two.0 one.2 two.2) ∙ sym two.1

-- the least dating is at most another with the same releases
at_most_other : (net : NetLists) (w v x y : Dating) → HasEndsInRange net → AreSameOn net w v → IsLeastIn (system_with net initial_date w) x → IsLeastIn (system_with net initial_date v) y
    → (i k : ℕ) → i < length net.transitions → 1 ≤ k → Le (x i k) (y i k)
at_most_other net w v x y ends same a b i k l o =
    let n : ℕ = length net.transitions in
    let f : IsFeasibleIn (system_with net initial_date w) (upto n y) = feasible_upto net w y ends b.feasible.places (λ t j m p. (
    let own : Le (v t j) (y t j) = record { holds = b.feasible.releases t j p } in
    le_trans (le_is (same t j m p)) own).holds) in
    let low : Le (x i k) (upto n y i k) = record { holds = a.least (upto n y) f i k o } in
    le_trans low (le_is (upto_is n y i k l))

pub delayed_datings_are_one : DelayedDatingsAreOne
delayed_datings_are_one net ends period t x w y v a b =
    let same : AreSameOn net w v = same_releases net period t w v a.release b.release in
    (λ i k l o. le_antisym (at_most_other net w v x y ends same a.least b.least i k l o) (at_most_other net v w y x ends (λ j m p q. sym (same j m p q)) b.least a.least i k l o), same)

-- ---- it stays near the plan

-- the plan and so much more
pub above_plan : ℕ → Timetable → ℕ → Dating
above_plan period t most i k = At (pos (planned period t i k + most))

-- the plan leaves time for the tokens of a place
pub leaves_time : (period : ℕ) (t : Timetable) (p : Place) (k : ℕ) → IsWorkableAt period t p → p.tokens < k → planned period t p.from.index (k - p.tokens) + p.hold ≤ planned period t p.to.index k
leaves_time period t p k h l =
    let time = h.leaves_time in
    let e : k - 1 ≡ p.tokens + (k - p.tokens - 1) = omega arith in
    let distributes : (a b : ℕ) → period * (a + b) ≡ period * a + period * b = λ a b. grind arith in
    let parts : period * (k - 1) ≡ period * p.tokens + period * (k - p.tokens - 1) = ap (λ (z : ℕ). period * z) e ∙ distributes p.tokens (k - p.tokens - 1) in
    omega arith

workable_keeps : (period : ℕ) (t : Timetable) (most : ℕ) (p : Place) → IsWorkableAt period t p → (k : ℕ) → 1 ≤ k
    → IsAtMostDate (available_in initial_date (above_plan period t most) p k) (above_plan period t most p.to.index k)
unfolding above_plan
workable_keeps period t most p h k o =
    ⊎_elim
    (λ (l : p.tokens < k).
    let time = leaves_time period t p k h l in
    rw (available_after initial_date (above_plan period t most) p k (At (pos (planned period t p.from.index (k - p.tokens) + most))) l refl) (omega (arith, ints)))
    (λ (l : k ≤ p.tokens). let ready = h.ready k o l in rw (available_first initial_date (above_plan period t most) p k l) (omega (arith, ints)))
    (cases_lt p.tokens k)

-- the implicit places are workable too
pub workable_extended : (net : NetLists) (period : ℕ) (t : Timetable) → IsWorkable net period t → All (IsWorkableAt period t) (extended_places net)
workable_extended net period t h = all_extended net (IsWorkableAt period t) h (λ u. record { leaves_time = omega arith; ready = λ k o l. omega arith })

plan_is_feasible : (net : NetLists) (period : ℕ) (t : Timetable) (w : Dating) (most : ℕ) → HasEndsInRange net → IsWorkable net period t → AreDelaysUpTo most t → IsRelease net period t w
    → IsFeasibleIn (system_with net initial_date w) (upto (length net.transitions) (above_plan period t most))
unfolding above_plan
plan_is_feasible net period t w most ends work few h =
    feasible_upto net w (above_plan period t most) ends
    (λ k o i d l. workable_keeps period t most (get_or (extended_places net) i d) (workable_extended net period t work i d l) k o)
    (λ i k l o.
    let here = h i k l o in
    let below = release_below period t most i k here.0 few here.2 in
    rw (here.1) (omega (arith, ints)))

-- a date between two numbers is a number
pub record IsBetween (low high : ℕ) (d : Date) : Type 0 where
  pub more : ℕ
  pub is : d ≡ At (pos (low + more))
  pub few : low + more ≤ high

between_numbers : (low high : ℕ) (d : Date) → IsAtMostDate (At (pos low)) d → IsAtMostDate d (At (pos high)) → IsBetween low high d
between_numbers low high Early a b = absurd a
between_numbers low high (At (pos n)) a b =
    let up : low ≤ n = omega (arith, ints) in
    let down : n ≤ high = omega (arith, ints) in
    record { more = n - low; is = ap (λ (z : ℕ). At (pos z)) (omega arith); few = omega arith }
between_numbers low high (At (negsuc n)) a b = absurd (omega (arith, ints))
between_numbers low high Never a b = absurd b

pub dated_between : (net : NetLists) (period : ℕ) (t : Timetable) (x w : Dating) (most : ℕ) → HasEndsInRange net → IsWorkable net period t → AreDelaysUpTo most t → IsDelayedBy net period t x w
    → (i k : ℕ) → i < length net.transitions → 1 ≤ k → IsBetween (planned period t i k) (planned period t i k + most) (x i k)
unfolding above_plan
dated_between net period t x w most ends work few h i k l o =
    let n : ℕ = length net.transitions in
    let here = h.release i k l o in
    let above = release_above period t i k here.0 o here.2 in
    let plan : Le (At (pos (planned period t i k))) (w i k) = record { holds = rw (here.1) (omega (arith, ints)) } in
    let released : Le (w i k) (x i k) = record { holds = h.least.feasible.releases i k o } in
    let upper : Le (x i k) (upto n (above_plan period t most) i k) =
    record { holds = h.least.least (upto n (above_plan period t most)) (plan_is_feasible net period t w most ends work few h.release) i k o } in
    between_numbers (planned period t i k) (planned period t i k + most) (x i k) (le_trans plan released).holds (le_trans upper (le_is (upto_is n (above_plan period t most) i k l))).holds

-- what a date has above the plan is one number
pub one_above : (low a b : ℕ) → At (pos (low + a)) ≡ At (pos (low + b)) → a ≡ b
one_above low a b e = let s : pos (low + a) ≡ pos (low + b) = at_inj _ _ e in omega (arith, ints)

pub delays_are_within : DelaysAreWithin
delays_are_within net ends period t work x w h most few = (
  λ i k. natural_of_date (x i k) - planned period t i k,
  λ i k l o.
      let b = dated_between net period t x w most ends work few h i k l o in
      let e : (planned period t i k + b.more) - planned period t i k ≡ b.more = omega arith in
      rw b.is (ap (λ (z : ℕ). At (pos (planned period t i k + z))) (sym e)),
  λ i k l o.
      let b = dated_between net period t x w most ends work few h i k l o in
      let few' = b.few in
      rw b.is (omega arith),
)

-- the delays left are told by each delayed dating
pub left_above : (net : NetLists) (period : ℕ) (t : Timetable) (x w : Dating) (delay : ℕ → ℕ → ℕ) → HasEndsInRange net → IsDelayedBy net period t x w → AreDelaysLeft net period t delay
    → AreAbovePlan net period t x delay
left_above net period t x w delay ends h left i k l o = (delayed_datings_are_one net ends period t x w left.0 left.1 h left.2).0 i k l o ∙ left.3 i k l o

pub delays_left_are_within : DelaysLeftAreWithin
delays_left_are_within net ends period t work delay left most few i k l o =
    let b = dated_between net period t left.0 left.1 most ends work few left.2 i k l o in
    let here = left.3 i k l o in
    let same = one_above (planned period t i k) b.more (delay i k) (sym b.is ∙ here) in
    let few' = b.few in
    omega arith
