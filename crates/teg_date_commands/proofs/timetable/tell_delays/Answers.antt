use Rattle.std.proofs.Common.{inr, subst}
use Rattle.teg_net.specs.Nets.{NetLists}
use Rattle.teg_timetable.specs.DelayAnswers.{IsDelayRefusal}
use Rattle.teg_outcome.proofs.Telling.{tells_weaker}
use Rattle.teg_date_commands.proofs.timetable.tell_delays.Goals as goal

pub returns-in-Err : goal.returns-in-Err
returns-in-Err c =
    let refused = subst (λ (net : NetLists). IsDelayRefusal net c.args.period c.args.table.now c.args.limit c.in-Err.refusal) c.net.ensures.net c.in-Err.ensures.refused in
    tells_weaker _ _ _ (λ verdict text h. inr (c.in-Err.refusal, refused, h)) c.tell_unspread.ensures
