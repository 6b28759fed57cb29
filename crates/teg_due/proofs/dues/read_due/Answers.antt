use Rattle.teg_due.proofs.DueRules.{due_rules}
use Rattle.teg_due.proofs.dues.read_due.Goals as goal

pub returns-clause-rules : goal.returns-clause-rules
returns-clause-rules c = due_rules c.args.net.now c.args.bytes.now c.in_ok-rows.rows.items c.in_ok-rows.ensures.rows
