use Rattle.teg_pace_commands.proofs.slack.slacks_by.Goals as goal

pub critical-requires-clause-live : goal.critical-requires-clause-live
critical-requires-clause-live c = rw c.net.ensures.net c.net.ensures.live

pub returns-clause-none : goal.returns-clause-none
returns-clause-none c = rw (← c.net.ensures.net) c.critical.ensures.none

pub returns-clause-slacks : goal.returns-clause-slacks
returns-clause-slacks c = rw (← c.net.ensures.net) c.critical.ensures.slacks
