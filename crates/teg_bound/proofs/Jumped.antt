-- What runs of the least dating tell of its shortest form.
use Rattle.std.proofs.Common.{ℕ, ℤ, ◌+◌, ◌-◌, ◌<◌, ◌≤◌, ◌≡◌, List, All, length, refl, sym, ap, ◌∙◌, arith}
use Rattle.dioid.specs.declared.dates.Date.TheVariants.{At}
use Rattle.dioid.specs.Dates.{move}
use Rattle.teg_net.specs.Nets.{NetLists, IsNet}
use Rattle.teg_net.specs.Limits.{greatest_firing_number}
use Rattle.teg_check.specs.Ranks.{IsRanking}
use Rattle.periodic_laws.specs.teg_model.Datings.{IsLeastDating}
use Rattle.periodic_laws.proofs.teg_model_proofs.DateFunctions.{Dating}
use Rattle.periodic_laws.specs.settled_laws.DateDifferences.{between}
use Rattle.periodic_laws.specs.settled_laws.SettledForms.{RepeatsAfter}
use Rattle.periodic_laws.specs.LinearSystem.{SettlesShortest}
use Rattle.jump_laws.specs.Runs.{Run, date_by_runs}
use Rattle.jump_laws.proofs.Runs.{run_rows_tell}
use Rattle.run_rows.specs.LeastRuns.{AreLeastRuns}
use Rattle.teg_bound.specs.declared.two_streams.Returned.{Returned}
use Rattle.teg_bound.specs.JumpedRows.{AreFirstMoved, AreMovedPast, AreNumbersMoved, IsNumberMoved, run_step}
use Rattle.teg_bound.specs.ReturningRows.{IsOnePart, IsShortestRepetition, shown_step}
use Rattle.teg_bound.proofs.MadeDates.{moved_by, step_of}
use Rattle.teg_bound.proofs.Returns.{numbers, goes_on}
use Rattle.teg_bound.proofs.TwoStreams.{shortest, some_in}

module _ (net : NetLists) (ok : IsNet net) (ranks : List ℕ) (ranking : IsRanking net ranks) (part : IsOnePart net)
    (runs : List Run) (asked : ℕ) (h : AreLeastRuns net asked runs) where
  module _ (x : Dating) (least : IsLeastDating net x) where
    tell : (t k : ℕ) → t < length net.transitions → 1 ≤ k → k ≤ asked → date_by_runs runs t k ≡ x t k
    tell t k l o m = run_rows_tell (length net.transitions) x asked runs (h x least) t k l o m

    number_at : (t k : ℕ) → t < length net.transitions → 1 ≤ k → (a : ℤ) × (x t k ≡ At a)
    number_at t k l o = numbers net ok ranks ranking part.alone.no_input x least t k l o

    moved_at : (period k : ℕ) (step : ℤ) → 1 ≤ k → k + period ≤ asked → IsNumberMoved net runs period step k
        → (t : ℕ) → t < length net.transitions → x t (k + period) ≡ move step (x t k)
    moved_at period k step o few moved t l =
        let here = number_at t k l o in
        let there = number_at t (k + period) l (omega (arith, o)) in
        moved_by (x t k) (x t (k + period)) here.0 there.0 step here.1 there.1
        (rw (tell t k l o (omega (arith, few)), tell t (k + period) l (omega (arith, o)) few) at (moved t l))

    at_moved : (period k : ℕ) (step : ℤ) → 1 ≤ k → k + period ≤ asked → ((t : ℕ) → t < length net.transitions → x t (k + period) ≡ move step (x t k))
        → IsNumberMoved net runs period step k
    at_moved period k step o few moved t l =
        let here = number_at t k l o in
        rw (tell t k l o (omega (arith, few)), tell t (k + period) l (omega (arith, o)) few) (step_of (x t k) (x t (k + period)) here.0 step here.1 (moved t l))

    step_is : (last period : ℕ) → 1 ≤ last → last + period ≤ asked → run_step runs last period ≡ shown_step x last period
    step_is last period o few =
        let some = some_in net ok part in
        rw (tell 0 last some o (omega (arith, few)), tell 0 (last + period) some (omega (arith, o)) few) refl

  -- a window that comes again first after a period, and the least number past which it does
  pub jumped_form : SettlesShortest net → (most : ℕ) (found : Returned) (after : ℕ) → 1 ≤ most → All (λ p. p.tokens ≤ most) net.places → most ≤ found.last
      → found.last + found.period ≤ asked → asked ≤ greatest_firing_number → AreFirstMoved net runs most found → AreMovedPast net runs most found after
      → IsShortestRepetition net (record { after = after; period = found.period })
  jumped_form settles most found after some tokens long fits few f w =
      let last : ℕ = found.last in
      let period : ℕ = found.period in
      let within = w.within in
      shortest net ranks ok ranking part settles found most
      (record {
        some = some;
        tokens = tokens;
        long = long;
        one = f.one;
        few = omega (arith, fits, few);
        again = λ x least t k l near m.
            moved_at x least period k found.step (omega (arith, near, long)) (omega (arith, m, fits)) (f.again k (omega (arith, near, long)) (omega (arith, m, long))) t l
            ∙ ap (λ s. move s (x t k)) (f.step ∙ step_is x least last period (omega (arith, some, long)) fits);
        step = λ x least. f.step ∙ step_is x least last period (omega (arith, some, long)) fits;
        first = λ p o below x least again.
            f.first p o below
            (λ k from to.
            at_moved x least p k (run_step runs last p) (omega (arith, from)) (omega (arith, to, long, below, fits))
            (λ t l. again t k l (omega (arith, from, long)) (omega (arith, to, long))
            ∙ ap (λ s. move s (x t k)) (sym (step_is x least last p (omega (arith, some, long)) (omega (arith, below, fits))))));
      })
      after
      (record {
        within = omega (arith, within);
        moved = λ x least t k l a m.
            let past : RepeatsAfter (length net.transitions) x ((after + most) - most) period (λ t. found.step) =
            goes_on net ok ranks ranking part.alone.no_input x least most (after + most) period found.step some (omega arith) tokens
            (λ u j v near to. moved_at x least period j found.step (omega (arith, near)) (omega (arith, to, within, fits)) (w.moved j (omega (arith, near)) to) u v)
            f.one in
            past.again t k l (omega (arith, a));
        first = λ x least o all. w.first o (at_moved x least period after found.step o (omega (arith, within, fits)) all);
      })
