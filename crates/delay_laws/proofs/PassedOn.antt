-- The greatest delay past some number is passed on to each transition that has it.
use Rattle.std.proofs.Common.{ℕ, ◌+◌, ◌-◌, ◌*◌, ◌<◌, ◌≤◌, ◌≡◌, length, get_or, sym, ap, ◌∙◌, arith, ⊎_elim, ◌+ℤ◌}
use Rattle.std.specs.Prelude.{pos}
use Rattle.std.proofs.lemmas.Int.{ints}
use Rattle.std.proofs.Math.Nat.{mul-le-mul_left}
use Rattle.periodic_laws.specs.dioid.declared.dates.Date.TheVariants.{At}
use Rattle.periodic_laws.proofs.dioid_proofs.Moves.{at_inj}
use Rattle.teg_net.specs.declared.entries.Place.{Place}
use Rattle.teg_net.specs.Circuits.{no_place}
use Rattle.periodic_laws.specs.teg_model.Systems.{available_in}
use Rattle.periodic_laws.specs.teg_model.Datings.{implicit_place, extended_places, initial_date, system_with}
use Rattle.periodic_laws.proofs.teg_model_proofs.OfNet.{which_place}
use Rattle.periodic_laws.proofs.teg_model_proofs.Tokens.{available_after}
use Rattle.periodic_laws.proofs.teg_model_proofs.LiveRanks.{live_is_ranked}
use Rattle.periodic_laws.proofs.teg_model_proofs.DateFunctions.{Dating}
use Rattle.delay_laws.specs.declared.table.Timetable.{Timetable}
use Rattle.delay_laws.specs.PlannedTimetables.{first_planned, planned, IsWorkableAt}
use Rattle.delay_laws.specs.Delays.{IsDelayedBy, AreAbovePlan}
use Rattle.delay_laws.specs.OutcomeLaws.{GreatestDelaysArePassedOn}
use Rattle.delay_laws.proofs.Releases.{each_delay_passes, releases_follow_the_plan}
use Rattle.delay_laws.proofs.Dated.{leaves_time}
use Rattle.delay_laws.proofs.Passing.{comes_on, has_past, most_past, tokens_bound, WaitsFor, waits_for}

-- what the date at the end of a place comes to, where it waits for the token
asks : (period : ℕ) (t : Timetable) (x : Dating) (p : Place) (k a b : ℕ) → p.tokens < k
    → x p.from.index (k - p.tokens) ≡ At (pos (planned period t p.from.index (k - p.tokens) + b))
    → At (pos (planned period t p.to.index k + a)) ≡ available_in initial_date x p k
    → planned period t p.to.index k + a ≡ planned period t p.from.index (k - p.tokens) + b + p.hold
asks period t x p k a b l from e =
    let made : At (pos (planned period t p.to.index k + a)) ≡ At (pos (planned period t p.from.index (k - p.tokens) + b) +ℤ pos p.hold) =
    e ∙ available_after initial_date x p k (At (pos (planned period t p.from.index (k - p.tokens) + b))) l from in
    let numbers : pos (planned period t p.to.index k + a) ≡ pos (planned period t p.from.index (k - p.tokens) + b) +ℤ pos p.hold = at_inj _ _ made in
    omega (arith, ints)

-- where the plan leaves the token just the time of the place, it does so at each number
no_spare_at : (period : ℕ) (t : Timetable) (p : Place) (k : ℕ) → p.tokens < k → planned period t p.to.index k ≡ planned period t p.from.index (k - p.tokens) + p.hold
    → first_planned t p.from.index + p.hold ≡ first_planned t p.to.index + period * p.tokens
no_spare_at period t p k l e =
    let is : k - 1 ≡ p.tokens + (k - p.tokens - 1) = omega arith in
    let distributes : (a b : ℕ) → period * (a + b) ≡ period * a + period * b = λ a b. grind arith in
    let parts : period * (k - 1) ≡ period * p.tokens + period * (k - p.tokens - 1) = ap (λ (z : ℕ). period * z) is ∙ distributes p.tokens (k - p.tokens - 1) in
    omega arith

-- the greatest delay comes over a place from the same delay, and the place has no spare time
over_place : (period : ℕ) (t : Timetable) (x : Dating) (p : Place) (k a b most : ℕ) → IsWorkableAt period t p → p.tokens < k
    → x p.from.index (k - p.tokens) ≡ At (pos (planned period t p.from.index (k - p.tokens) + b))
    → At (pos (planned period t p.to.index k + a)) ≡ available_in initial_date x p k → a ≡ most → b ≤ most
    → (b ≡ most) × (first_planned t p.from.index + p.hold ≡ first_planned t p.to.index + period * p.tokens)
over_place period t x p k a b most work l from e is few =
    let sum = asks period t x p k a b l from e in
    let time = leaves_time period t p k work l in
    (omega arith, no_spare_at period t p k l (omega arith))

-- and not over an implicit place
not_over_implicit : (period : ℕ) (t : Timetable) (x : Dating) (i k a b most : ℕ) → 1 ≤ period → 1 < k
    → x i (k - 1) ≡ At (pos (planned period t i (k - 1) + b))
    → At (pos (planned period t i k + a)) ≡ available_in initial_date x (implicit_place i) k → a ≡ most → b ≤ most → ⊥
not_over_implicit period t x i k a b most some l from e is few =
    let sum = asks period t x (implicit_place i) k a b l from e in
    let distributes : (n : ℕ) → period * (n + 1) ≡ period * n + period = λ n. grind arith in
    let at : k - 1 ≡ (k - 1 - 1) + 1 = omega arith in
    let parts : period * (k - 1) ≡ period * (k - 1 - 1) + period = ap (λ (z : ℕ). period * z) at ∙ distributes (k - 1 - 1) in
    omega arith

pub greatest_delays_are_passed_on : GreatestDelaysArePassedOn
greatest_delays_are_passed_on net ends live period some t work delay after again settled most one greatest i l has =
    let n : ℕ = length net.transitions in
    let x : Dating = settled.left.0 in
    let w : Dating = settled.left.1 in
    let h : IsDelayedBy net period t x w = settled.left.2 in
    let above : AreAbovePlan net period t x delay = settled.left.3 in
    let passes = each_delay_passes period some t i in
    let bound = tokens_bound net.places in
    let turns = settled.some in
    let r : ℕ = passes.0 + after + bound.0 in
    let k : ℕ = has.number + r * again in
    let begun = has.past in
    let rounds : r * 1 ≤ r * again = mul-le-mul_left {m = 1} {n = again} r turns in
    let far : passes.0 + after + bound.0 < k = omega arith in
    let is : delay i k ≡ most = comes_on net period t delay after again settled i has.number r l begun ∙ has.is in
    let here : x i k ≡ At (pos (planned period t i k + delay i k)) = above i k l (omega arith) in
    ⊎_elim
    (λ (e : x i k ≡ w i k).
    let plan = releases_follow_the_plan net period t w h.release i k l (omega arith) (passes.2 k (omega arith)) in
    let both : At (pos (planned period t i k + delay i k)) ≡ At (pos (planned period t i k)) = sym here ∙ e ∙ plan in
    let numbers : pos (planned period t i k + delay i k) ≡ pos (planned period t i k) = at_inj _ _ both in
    absurd (omega (arith, ints)))
    (λ (a : WaitsFor (system_with net initial_date w) x i k).
    ⊎_elim
    (λ (own : (a.index < length net.places) × (get_or (extended_places net) a.index no_place ≡ get_or net.places a.index no_place)).
    let p : Place = get_or net.places a.index no_place in
    let same : get_or (extended_places net) a.index no_place ≡ p = own.1 in
    let to : p.to.index ≡ i = ap (λ (q : Place). q.to.index) (sym same) ∙ a.to in
    let few : p.tokens ≤ bound.0 = bound.1 a.index no_place own.0 in
    let from_in : p.from.index < n = (ends a.index no_place own.0).0 in
    let asked : At (pos (planned period t p.to.index k + delay i k)) ≡ available_in initial_date x p k =
    ap (λ (z : ℕ). At (pos (planned period t z k + delay i k))) to ∙ sym here ∙ a.is ∙ ap (λ (q : Place). available_in initial_date x q k) same in
    let low = most_past net period t delay after again settled most greatest p.from.index (k - p.tokens) from_in (omega arith) in
    let both = over_place period t x p k (delay i k) (delay p.from.index (k - p.tokens)) most (work a.index no_place own.0) (omega arith)
    (above p.from.index (k - p.tokens) from_in (omega arith)) asked is low in (
      record { index = a.index },
      record {
        place = own.0;
        to = to;
        no_spare = record { same = both.1 };
        from = has_past net period t delay after again settled p.from.index (k - p.tokens) most from_in (omega arith) both.0;
      },
    ))
    (λ (none : (u : ℕ) × (get_or (extended_places net) a.index no_place ≡ implicit_place u)).
    let to : none.0 ≡ i = ap (λ (q : Place). q.to.index) (sym none.1) ∙ a.to in
    let asked : At (pos (planned period t i k + delay i k)) ≡ available_in initial_date x (implicit_place i) k =
    sym here ∙ a.is ∙ ap (λ (q : Place). available_in initial_date x q k) none.1 ∙ ap (λ (z : ℕ). available_in initial_date x (implicit_place z) k) to in
    let low = most_past net period t delay after again settled most greatest i (k - 1) l (omega arith) in
    absurd (not_over_implicit period t x i k (delay i k) (delay i (k - 1)) most some (omega arith) (above i (k - 1) l (omega arith)) asked is low))
    (which_place net a.index a.within))
    (waits_for net w x (live_is_ranked net ends live) h.least i k (omega arith))
