use Rattle.dating_laws.proofs.OrderOfDatings.{later_dates}
use Rattle.dating_laws.proofs.laws.later_releases_lead_to_later_dates.Goals as goal

pub returns : goal.returns
returns c = later_dates
