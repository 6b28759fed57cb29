use Rattle.std.proofs.Common.{List, length, ap, ◌∙◌, arith}
use Rattle.teg_net.specs.declared.entries.Place.{Place}
use Rattle.teg_net.specs.Nets.{NetLists}
use Rattle.trial_net.proofs.TrialNets.{width}
use Rattle.teg_pace_commands.proofs.TrialLaws.{trial_said}
use Rattle.teg_pace_commands.proofs.trial.tell_line.Goals as goal

pub date-requires-clause-transition : goal.date-requires-clause-transition
date-requires-clause-transition c =
    omega (
      arith,
      c.get-machines.ensures.first,
      c.get-machines.ensures.value,
      rw c.net.ensures.net at c.in_ok-table.ensures.width,
      ap (λ (n : NetLists). length n.transitions) (rw (← c.get-machines.ensures.value) at c.requires.net),
      width c.get-machines.result,
    )

pub returns : goal.returns
returns c =
    rw (← c.get-machines.ensures.value)
    (trial_said c.get-machines.result c.args.net.now c.args.ratio.now c.args.slacks.now c.in_ok-table.table _ _ _ _ c.get-machines.ensures.first (rw (← c.get-machines.ensures.value) at c.requires.net)
    c.requires.ratio c.requires.slacks (rw c.net.ensures.net at c.in_ok-table.ensures.least) c.in_ok-table.ensures.count
    (ap (λ (ps : List Place). length ps) (c.places.ensures.value
    ∙ ap (λ (n : NetLists). n.places) c.net-2.ensures.net)) c.critical_count.ensures (rw c.from.ensures at c.date.ensures)
    (c.in_ok-text.ensures.told tt).kept c.in_ok-text.ensures.text)
