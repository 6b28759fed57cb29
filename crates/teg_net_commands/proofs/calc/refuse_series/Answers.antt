use Rattle.std.proofs.Common.{rules, ◌≢◌, refl}
use Rattle.series_form.specs.declared.forms.SeriesRefused.TheVariants.{OutOfMemory}
use Rattle.teg_net_commands.proofs.calc.refuse_series.Goals as goal

pub returns-in_ok-text-in-TooLong : goal.returns-in_ok-text-in-TooLong
returns-in_ok-text-in-TooLong c =
    let other : c.args.refusal.now ≢ OutOfMemory = search rules in
    (refl, other, (c.in_ok-text-in-TooLong.ensures.told tt).kept, c.in_ok-text-in-TooLong.ensures.text)
