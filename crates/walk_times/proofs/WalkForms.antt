-- The times of walks from an input are the least dates of a system whose releases repeat, and so they settle.
use Rattle.std.proofs.Common.{ℕ, pos, sym, arith}
use Rattle.dioid.proofs.DateOrder.{at_most_refl}
use Rattle.dioid.proofs.Moves.{move_zero}
use Rattle.periodic_laws.proofs.teg_model_proofs.LiveRanks.{live_is_ranked}
use Rattle.periodic_laws.proofs.teg_model_proofs.SystemWalks.{least_in_is_walk}
use Rattle.periodic_laws.specs.PeriodicDates.{IsPeriodic}
use Rattle.periodic_laws.specs.LinearSystem.{SystemsSettle}
use Rattle.walk_times.specs.WalkTimes.{WalkTimesSettle}
use Rattle.walk_times.specs.Alone.{no_tokens, released_alone}
use Rattle.walk_times.proofs.Walking.{input_within, times_from}

released_periodic : (input t : ℕ) → IsPeriodic (released_alone input t)
released_periodic input t = record {
  after = 0;
  period = 1;
  step = pos 0;
  at_least_one = omega arith;
  rises = λ k o. at_most_refl (released_alone input t k);
  again = λ k l. sym (move_zero (released_alone input t k));
}

pub walk_forms : SystemsSettle → WalkTimesSettle
walk_forms law net ends live input h =
    let ranked = live_is_ranked net ends live in
    let found = law net ends live no_tokens (released_alone input) (λ t l. released_periodic input t) in (
      found.2,
      (
        found.0,
        (λ t k l o. times_from net input t k (found.0 t k) (input_within net input h)
            (least_in_is_walk net no_tokens (released_alone input) ranked.0 ranked.1 ends ranked.2 found.0 found.1 t k l o)),
        found.3,
      ),
    )
