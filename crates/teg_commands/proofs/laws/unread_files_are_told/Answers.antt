use Rattle.std.proofs.Common.{refl}
use Rattle.teg_commands.proofs.laws.unread_files_are_told.Goals as goal

pub returns : goal.returns
returns c = record { long_dues = λ net. refl; unread_dues = λ net. refl; long_timetable = λ net. refl; unread_timetable = λ net. refl }
