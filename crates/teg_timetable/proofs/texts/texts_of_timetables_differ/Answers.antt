use Rattle.teg_timetable.proofs.ReadBack.{texts_of_timetables_differ}
use Rattle.teg_timetable.proofs.texts.texts_of_timetables_differ.Goals as goal

pub returns : goal.returns
returns c = texts_of_timetables_differ
