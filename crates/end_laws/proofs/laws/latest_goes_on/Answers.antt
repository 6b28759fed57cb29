use Rattle.end_laws.proofs.Latest.{dates_by_places_go_on, latest_goes_on}
use Rattle.end_laws.proofs.laws.latest_goes_on.Goals as goal

pub returns-clause-latest : goal.returns-clause-latest
returns-clause-latest c = latest_goes_on

pub returns-clause-places : goal.returns-clause-places
returns-clause-places c = dates_by_places_go_on
