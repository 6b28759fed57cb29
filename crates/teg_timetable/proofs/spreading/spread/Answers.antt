use Rattle.teg_check.proofs.Liveness.{ranking_is_live}
use Rattle.teg_timetable.proofs.spreading.spread.Goals as goal

pub checked-requires-clause-live : goal.checked-requires-clause-live
checked-requires-clause-live c = ranking_is_live c.args.net.now c.args.live.now c.requires.stands

pub returns-in-Ok-clause-spread : goal.returns-in-Ok-clause-spread
returns-in-Ok-clause-spread c =
    let same = c.in-Ok.ensures.same in
    let spread = c.followed.ensures.spread in
    rw (same.0, same.1, same.2) at spread

pub returns-in-Ok-clause-about : goal.returns-in-Ok-clause-about
returns-in-Ok-clause-about c =
    let same = c.in-Ok.ensures.same in
    let about = c.followed.ensures.about in
    rw same.0 at about

pub returns-in-Ok-clause-refused : goal.returns-in-Ok-clause-refused
returns-in-Ok-clause-refused c =
    let same = c.in-Ok.ensures.same in
    let refused = c.followed.ensures.refused in
    rw (same.0, same.1, same.2) at refused

pub returns-in-Err-clause-refused : goal.returns-in-Err-clause-refused
returns-in-Err-clause-refused c = c.refusal_of.ensures c.args.net.now c.args.period c.args.table.now c.args.limit c.in-Err.ensures.refused
