use Rattle.due_changes.proofs.ShiftedDues.{later_dues, shifted_dues}
use Rattle.due_changes.proofs.laws.latest_dates_move_with_dues.Goals as goal

pub returns : goal.returns
returns c = record { later = later_dues; shifted = shifted_dues }
