use Rattle.teg_plan_commands.proofs.Replayed.{log_said, fault_said, log_shown, fault_shown}
use Rattle.teg_plan_commands.proofs.replay.tell_replay.Goals as goal

pub returns-in-Ok-clause-says : goal.returns-in-Ok-clause-says
returns-in-Ok-clause-says g c =
    log_said _ c.args.net.now _ c.args.bytes.now c.in-Ok.rows.items _ _ c.net.ensures.net c.in-Ok.ensures.rows c.as_slice.ensures.value c.tell_run.ensures.says

pub returns-in-Ok-clause-shown : goal.returns-in-Ok-clause-shown
returns-in-Ok-clause-shown g c =
    log_shown _ _ c.args.net.now _ c.args.bytes.now c.in-Ok.rows.items _ _ c.net.ensures.net c.in-Ok.ensures.rows c.as_slice.ensures.value c.tell_run.ensures.shown

pub returns-in-Err-clause-says : goal.returns-in-Err-clause-says
returns-in-Err-clause-says g c = fault_said _ c.args.net.now _ c.args.bytes.now c.in-Err.refusal _ c.net.ensures.net c.in-Err.ensures.refused c.refuse_log.ensures

pub returns-in-Err-clause-shown : goal.returns-in-Err-clause-shown
returns-in-Err-clause-shown g c = fault_shown _ c.args.net.now _ c.args.bytes.now c.in-Err.refusal _ c.net.ensures.net c.in-Err.ensures.refused c.refuse_log.ensures
