use Rattle.timetable_calls.proofs.Existing.{firsts_exist, firsts_exist_at, firsts_one, firsts_one_at}
use Rattle.timetable_calls.proofs.laws.earliest_timetables_exist.Goals as goal

pub returns : goal.returns
returns c = record { exist = firsts_exist; one = firsts_one; exist_at = firsts_exist_at; one_at = firsts_one_at }
