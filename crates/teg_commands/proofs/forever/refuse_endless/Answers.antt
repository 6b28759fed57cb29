use Rattle.std.proofs.Common.{rules, ◌≢◌, ◌∙◌}
use Rattle.endless_due.specs.declared.refusal.EndlessRefusal.TheVariants.{OutOfMemory}
use Rattle.teg_commands.proofs.forever.refuse_endless.Goals as goal

pub returns-in_ok-text-in-BadRow : goal.returns-in_ok-text-in-BadRow
returns-in_ok-text-in-BadRow c =
    let other : c.args.fault.now ≢ OutOfMemory = search rules in
    (c.told.ensures.verdict, other, c.in_ok-text-in-BadRow.ensures.told c.args.net.now, c.told.ensures.text ∙ c.in_ok-text-in-BadRow.ensures.text c.args.net.now)
