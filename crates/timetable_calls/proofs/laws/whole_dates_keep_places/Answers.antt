use Rattle.timetable_calls.proofs.Whole.{keep_places, repeat}
use Rattle.timetable_calls.proofs.laws.whole_dates_keep_places.Goals as goal

pub returns : goal.returns
returns c = record { keep = keep_places; repeat = repeat }
