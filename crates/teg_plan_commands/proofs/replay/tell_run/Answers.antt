use Rattle.teg_plan_commands.proofs.Replayed.{end_told, run_said, run_shown}
use Rattle.teg_plan_commands.proofs.replay.tell_run.Goals as goal

pub tell_seen-requires : goal.tell_seen-requires
tell_seen-requires g c = rw (← c.net.ensures.net) (end_told _ _ _ _ c.in-Ok.ensures.replayed.1.ends)

pub returns-in-Ok-clause-says : goal.returns-in-Ok-clause-says
returns-in-Ok-clause-says g c =
    let of = c.in-Ok.ensures.replayed in
    run_said _ c.args.net.now _ c.args.rows.now of.0 c.in-Ok.replayed _ _ c.net.ensures.net of.1 c.tell_seen.ensures of.2.lines

pub returns-in-Ok-clause-shown : goal.returns-in-Ok-clause-shown
returns-in-Ok-clause-shown g c =
    let of = c.in-Ok.ensures.replayed in run_shown _ _ c.args.net.now _ c.args.rows.now of.0 c.in-Ok.replayed _ c.net.ensures.net of.1 of.2

pub returns-in-Err-clause-shown : goal.returns-in-Err-clause-shown
returns-in-Err-clause-shown g c = let some = c.in-Err.ensures.replayed in (some.0, (rw c.net.ensures.net at some.1), some.2)
