use Rattle.jump_laws.proofs.InLists.{listed_move, listed_jump}
use Rattle.jump_laws.proofs.laws.listed_dates_jump.Goals as goal

pub returns : goal.returns
returns c = record { lists = listed_move; jump = listed_jump }
