use Rattle.std.proofs.Common.{rules, ◌≢◌, refl}
use Rattle.teg_calc.specs.declared.refusals.ParseRefused.TheVariants.{OutOfMemory}
use Rattle.teg_net_commands.proofs.calc.refuse_text.Goals as goal

pub returns-in_ok-text-in-Syntax : goal.returns-in_ok-text-in-Syntax
returns-in_ok-text-in-Syntax c =
    let other : c.args.refusal.now ≢ OutOfMemory = search rules in
    (refl, other, (c.in_ok-text-in-Syntax.ensures.told tt).kept, c.in_ok-text-in-Syntax.ensures.text)
