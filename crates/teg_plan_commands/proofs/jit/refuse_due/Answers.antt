use Rattle.std.proofs.Common.{rules, ◌≢◌, refl}
use Rattle.teg_due.specs.declared.rows.DueRefusal.TheVariants.{OutOfMemory}
use Rattle.teg_plan_commands.proofs.jit.refuse_due.Goals as goal

pub returns-in_ok-text-in-BadRow : goal.returns-in_ok-text-in-BadRow
returns-in_ok-text-in-BadRow c =
    let other : c.args.refusal.now ≢ OutOfMemory = search rules in
    (refl, other, (c.in_ok-text-in-BadRow.ensures.told tt).kept, c.in_ok-text-in-BadRow.ensures.text)
