-- The least datings of live nets, and of systems of live nets with periodic releases.
use Rattle.std.proofs.Common.{◌≡◌, refl, ap, ℕ, ◌≤◌, ◌<◌, length}
use Rattle.std.specs.Prelude.{All}
use Rattle.std.proofs.lemmas.Option.{slice_get_past}
use Rattle.series_ops.specs.dioid.declared.dates.Date.TheVariants.{Early}
use Rattle.dioid_matrix.specs.MatrixStars.{StarsAreLeast}
use Rattle.settled_laws.specs.teg_net.Nets.{NetLists, HasEndsInRange}
use Rattle.settled_laws.specs.teg_model.Systems.{System, IsLeastIn}
use Rattle.settled_laws.specs.teg_model.Datings.{IsLeastDating, IsLeastUnder, initial_date, extended_places, system_of, system_with, listed_releases, at_input, by_transition}
use Rattle.settled_laws.proofs.teg_model_proofs.LeastOver.{least_over, least_over_is_least}
use Rattle.settled_laws.proofs.teg_model_proofs.OfNet.{all_extended_in, implicit_is, ranks_extended, feasible_in, feasible_from, least_of_system, least_of}
use Rattle.settled_laws.proofs.teg_model_proofs.LiveRanks.{live_is_ranked}
use Rattle.settled_laws.proofs.teg_model_proofs.DateFunctions.{Dating, InitialDates}
use Rattle.periodic_laws.specs.PeriodicDates.{IsPeriodic}
use Rattle.periodic_laws.specs.Equations.{gains, gain_stars}
use Rattle.periodic_laws.specs.GainColumns.{entry_of_places, right_side, column, release_gain}
use Rattle.periodic_laws.specs.RepeatNumbers.{repeats_past, repeats_in, repeats_by}
use Rattle.periodic_laws.specs.LinearSystem.{LeastDatingsSolve, LiveNetsSettle, LeastDatingsRepeat, LeastInArePeriodic, SystemsSettle}
use Rattle.periodic_laws.proofs.InputColumns.{release_holds}
use Rattle.periodic_laws.proofs.Fixed.{IsSystemOf, IsLeastOn}
use Rattle.periodic_laws.proofs.Columns.{coefficients, column_solves, column_values, column_repeats, column_settles, column_periodic}
use Rattle.periodic_laws.proofs.Inside.{inside, inside_not, inside_periodic, periodic_gain, periodic_gain_holds, periodic_settle}
use Rattle.periodic_laws.proofs.Released.{least_of_part}

extended_ends : (net : NetLists) → HasEndsInRange net → All (λ p. (p.from.index < length net.transitions) × (p.to.index < length net.transitions)) (extended_places net)
extended_ends net ok = all_extended_in net (λ p. (p.from.index < length net.transitions) × (p.to.index < length net.transitions)) ok (λ t l. (l, l))

system_is : (net : NetLists) (initial : InitialDates) (release : Dating) → HasEndsInRange net
    → ((t k : ℕ) → length net.transitions ≤ t → release t k ≡ Early) → IsSystemOf (length net.transitions) (system_with net initial release)
system_is net initial release ok none = record { ends = extended_ends net ok; own = implicit_is net; outside = none }

none_outside : (net : NetLists) (u : Dating) (t k : ℕ) → length net.transitions ≤ t → at_input net t (u t k) Early ≡ Early
none_outside net u t k l = ap (λ o. by_transition o (u t k) Early) (slice_get_past net.transitions t l)

-- the system of the net's own input lists
own_system : (net : NetLists) → HasEndsInRange net → IsSystemOf (length net.transitions) (system_of net (listed_releases net))
own_system net ends = system_is net initial_date (λ t k. at_input net t (listed_releases net t k) Early) ends (none_outside net (listed_releases net))

least_on : (net : NetLists) (u x : Dating) → IsLeastUnder net u x → IsLeastOn (length net.transitions) (system_of net u) x
least_on net u x h = record {
  feasible = feasible_in net u x h.feasible;
  least = λ y f t k l o. h.least y (feasible_from net u y f) t k l o;
}

pub solves : StarsAreLeast gains gain_stars → LeastDatingsSolve
unfolding column
solves stars net ends rise rules live =
    let n : ℕ = length net.transitions in
    let s : System = system_of net (listed_releases net) in
    let ranked = live_is_ranked net ends live in
    let of : IsSystemOf n s = own_system net ends in
    let released = release_holds net rise rules in
    record {
      entries = entry_of_places s.places;
      right = right_side s.initial s.places (release_gain net);
      coefficients = coefficients stars n s (release_gain net) of released;
      dates = column n s (release_gain net);
      least = column_solves stars n s (release_gain net) of released;
      by_star = λ i. refl;
      are_dates = λ x h. column_values stars n s (release_gain net) of released x ranked.0 ranked.1 (ranks_extended net ranked.0 ranked.1 ranked.2) (least_on net (listed_releases net) x h);
    }

pub repeats : StarsAreLeast gains gain_stars → LeastDatingsRepeat
unfolding repeats_past repeats_in repeats_by
repeats stars net ends rise rules live x h =
    let ranked = live_is_ranked net ends live in
    column_repeats stars (length net.transitions) (system_of net (listed_releases net)) (release_gain net) (own_system net ends) (release_holds net rise rules)
    ranked.0 ranked.1 (ranks_extended net ranked.0 ranked.1 ranked.2) x (least_on net (listed_releases net) x h)

pub live_settles : StarsAreLeast gains gain_stars → LiveNetsSettle
live_settles stars net ends rise rules live =
    let ranked = live_is_ranked net ends live in
    let x : Dating = least_over (system_of net (listed_releases net)) ranked.0 ranked.1 in
    let least : IsLeastDating net x = least_of_system net (listed_releases net) x (least_of net (listed_releases net) ranked.0 ranked.1 ranked.2) in
    let best = column_settles stars (length net.transitions) (system_of net (listed_releases net)) (release_gain net) (own_system net ends) (release_holds net rise rules)
    ranked.0 ranked.1 (ranks_extended net ranked.0 ranked.1 ranked.2) x (least_on net (listed_releases net) x least) in
    (best.0, (x, least, best.1))

pub systems_periodic : StarsAreLeast gains gain_stars → LeastInArePeriodic
systems_periodic stars net ok live initial release x h least =
    let n : ℕ = length net.transitions in
    let ranked = live_is_ranked net ok live in
    let periodic : (t : ℕ) → IsPeriodic (inside n release t) = inside_periodic n release h in
    column_periodic stars n (system_with net initial (inside n release)) (λ t. periodic_gain (inside n release t) (periodic t))
    (system_is net initial (inside n release) ok (λ t k l. inside_not n release t k l))
    (λ t. periodic_gain_holds (inside n release t) (periodic t))
    ranked.0 ranked.1 (ranks_extended net ranked.0 ranked.1 ranked.2) x (least_of_part n (extended_places net) initial release (extended_ends net ok) x least)

pub systems_settle : StarsAreLeast gains gain_stars → SystemsSettle
systems_settle stars net ok live initial release h =
    let ranked = live_is_ranked net ok live in
    let s : System = system_with net initial release in
    let x : Dating = least_over s ranked.0 ranked.1 in
    let least : IsLeastIn s x = least_over_is_least s ranked.0 ranked.1 (ranks_extended net ranked.0 ranked.1 ranked.2) in
    let best = periodic_settle (length net.transitions) x (systems_periodic stars net ok live initial release x h least) in
    (x, least, best.0, best.1)
