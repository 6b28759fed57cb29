use Rattle.planning_laws.proofs.GreatestTimes.{are_feasible, places_back, places_back_exist, no_token_waits, kept_by_places, periods_with_times, times_from_ratio}
use Rattle.planning_laws.proofs.laws.greatest_times_are_places_back.Goals as goal

pub returns : goal.returns
returns c =
    let by = c.periods_from_the_ratio_are_workable.ensures in
    record {
      dates = are_feasible;
      one = places_back;
      exist = places_back_exist;
      exact = no_token_waits;
      all = kept_by_places;
      periods = periods_with_times by.periods;
      ratios = times_from_ratio by.ratios;
    }
