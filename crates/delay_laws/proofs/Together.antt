-- The delayed dating and the releases settle together.
use Rattle.std.proofs.Common.{ℕ, ◌+◌, ◌-◌, ◌*◌, ◌<◌, ◌≤◌, ◌≡◌, length, sym, ap, ◌∙◌, arith, ⊎_elim, ◌+ℤ◌}
use Rattle.std.specs.Prelude.{pos}
use Rattle.std.proofs.lemmas.Bool.{cases_lt}
use Rattle.std.proofs.lemmas.Int.{ints}
use Rattle.periodic_laws.specs.dioid.declared.dates.Date.{Date}
use Rattle.periodic_laws.specs.dioid.declared.dates.Date.TheVariants.{At}
use Rattle.periodic_laws.specs.dioid.Dates.{move}
use Rattle.periodic_laws.specs.dioid.DateOrder.{Le}
use Rattle.periodic_laws.proofs.dioid_proofs.AtMost.{le_is, le_trans}
use Rattle.teg_net.specs.Nets.{NetLists}
use Rattle.periodic_laws.specs.teg_model.Datings.{initial_date}
use Rattle.periodic_laws.proofs.teg_model_proofs.DateFunctions.{Dating}
use Rattle.periodic_laws.specs.PeriodicDates.{IsPeriodic, ArePeriodic}
use Rattle.periodic_laws.specs.LinearSystem.{LeastInArePeriodic, PeriodicDatingsSettle}
use Rattle.delay_laws.specs.declared.table.Timetable.{Timetable}
use Rattle.delay_laws.specs.PlannedTimetables.{planned}
use Rattle.delay_laws.specs.Delays.{IsRelease, IsDelayedBy, together}
use Rattle.delay_laws.specs.SettlingLaws.{DelaysSettle}
use Rattle.delay_laws.proofs.Plans.{one_more}
use Rattle.delay_laws.proofs.Releases.{release_rises, each_delay_passes, releases_follow_the_plan}
use Rattle.delay_laws.proofs.Dated.{delayed_datings_exist}
use Rattle.delay_laws.proofs.Steps.{together_first, together_second}

-- the releases of a transition never fall, and past its delays they go on by the plan
releases_periodic : (net : NetLists) (period : ℕ) (t : Timetable) (w : Dating) → 1 ≤ period → IsRelease net period t w → ArePeriodic (length net.transitions) w
releases_periodic net period t w some h i l =
    let passes = each_delay_passes period some t i in
    record {
      after = passes.0;
      period = 1;
      step = pos period;
      at_least_one = omega arith;
      rises = λ k o. (
          let one = h i k l o in
          let two = h i (k + 1) l (omega arith) in
          let up = release_rises period t i k one.0 two.0 one.2 two.2 in
          let low : Le (At (pos one.0)) (At (pos two.0)) = record { holds = omega (arith, ints) } in
          le_trans (le_is one.1) (le_trans low (le_is (sym two.1)))).holds;
      again = λ k m.
          let one = releases_follow_the_plan net period t w h i k l (omega arith) (passes.2 k (omega arith)) in
          let two = releases_follow_the_plan net period t w h i (k + 1) l (omega arith) (passes.2 (k + 1) (omega arith)) in
          let e : (k + 1) - 1 ≡ k = omega arith in
          let more = one_more period k (omega arith) in
          let next : period * ((k + 1) - 1) ≡ period * k = ap (λ (z : ℕ). period * z) e in
          let moved : pos (planned period t i (k + 1)) ≡ pos (planned period t i k) +ℤ pos period = omega (arith, ints) in
          two ∙ ap At moved ∙ ap (move (pos period)) (sym one);
    }

-- dates that are equal are periodic alike
periodic_alike : (a b : ℕ → Date) → ((k : ℕ) → 1 ≤ k → a k ≡ b k) → IsPeriodic b → IsPeriodic a
periodic_alike a b same p = record {
  after = p.after;
  period = p.period;
  step = p.step;
  at_least_one = p.at_least_one;
  rises = λ k o. (
      let low : Le (b k) (b (k + 1)) = record { holds = p.rises k o } in
      le_trans (le_is (same k o)) (le_trans low (le_is (sym (same (k + 1) (omega arith)))))).holds;
  again = λ k m. let some = p.at_least_one in same (k + p.period) (omega arith) ∙ p.again k m ∙ ap (move p.step) (sym (same k (omega arith)));
}

pub delays_settle : LeastInArePeriodic → PeriodicDatingsSettle → DelaysSettle
delays_settle periodic settle net ends live period some t =
    let n : ℕ = length net.transitions in
    let d = delayed_datings_exist net ends live period t in
    let x : Dating = d.0 in
    let w : Dating = d.1 in
    let h : IsDelayedBy net period t x w = d.2 in
    let released : ArePeriodic n w = releases_periodic net period t w some h.release in
    let dated : ArePeriodic n x = periodic net ends live initial_date w x released h.least in
    let both : ArePeriodic (n + n) (together n x w) = λ i l.
    ⊎_elim
    (λ (m : i < n). periodic_alike (together n x w i) (x i) (λ k o. together_first n x w i k m) (dated i m))
    (λ (m : n ≤ i). periodic_alike (together n x w i) (w (i - n)) (λ k o. together_second n x w i k m) (released (i - n) (omega arith)))
    (cases_lt i n) in
    let f = settle (n + n) (together n x w) both in
    (f.0, (x, w, h, f.1))
