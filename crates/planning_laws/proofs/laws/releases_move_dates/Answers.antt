use Rattle.planning_laws.proofs.MovedReleases.{releases_move}
use Rattle.planning_laws.proofs.MovedNumbers.{numbers_move}
use Rattle.planning_laws.proofs.laws.releases_move_dates.Goals as goal

pub returns : goal.returns
returns c = record { dates = releases_move; numbers = numbers_move }
