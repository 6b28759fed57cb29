use Rattle.std.proofs.Common.{◌≡◌, Ok, inr, subst}
use Rattle.teg_timetable.specs.delay_laws.PlannedTimetables.{IsTableOf}
use Rattle.teg_net.specs.Nets.{NetLists}
use Rattle.teg_timetable.specs.timetable_files.TimetableFiles.{lists_of_table, timetable_of}
use Rattle.teg_outcome.proofs.Telling.{tells_weaker}
use Rattle.teg_date_commands.proofs.timetable.tell_timetable.Goals as goal

pub returns-in-Ok : goal.returns-in-Ok
returns-in-Ok c =
    let table = c.in-Ok.table in
    let read = subst (λ (net : NetLists). timetable_of net c.args.bytes.now ≡ Ok (lists_of_table table)) c.net.ensures.net c.in-Ok.ensures.table in
    let kept = subst (λ (net : NetLists). IsTableOf net table) c.net.ensures.net c.in-Ok.ensures.rules in
    tells_weaker _ _ _ (λ verdict text h. inr (table, read, kept, h)) (rw (c.get-period.ensures.value, c.most_of-limit.ensures.value) at c.tell_delays.ensures)
