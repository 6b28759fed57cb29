use Rattle.std.proofs.Common.{ℕ, ◌≤◌, List, Option, Some, None}
use Rattle.std.specs.Prelude.{IfSome}
use Rattle.teg_net.specs.declared.entries.Again.{Again}
use Rattle.teg_net.specs.Limits.{greatest_input_date}
use Rattle.teg_net.specs.Nets.{EndsOrGoesOn}
use Rattle.teg_net.proofs.InputDates.{found_rules}
use Rattle.run_rows.proofs.in_time.pace_of.Goals as goal

every_in : (dates : List ℕ) (o : Option Again) → EndsOrGoesOn dates o → IfSome o (λ again. 1 ≤ again.every)
every_in dates None h = tt
every_in dates (Some a) h = h.some

gap_in : (dates : List ℕ) (o : Option Again) → EndsOrGoesOn dates o → IfSome o (λ again. again.gap ≤ greatest_input_date)
gap_in dates None h = tt
gap_in dates (Some a) h = h.gap_in

pub gaps_in-requires-clause-every : goal.gaps_in-requires-clause-every
gaps_in-requires-clause-every c =
    let net = c.args.net.now in
    let rules = c.in-Some.ensures.rules in
    every_in c.in-Some.list.now.dates c.in-Some.list.now.again (found_rules net net.inputs c.args.input.index c.in-Some.list.now rules.each_input c.in-Some.ensures.first).again

pub gaps_in-requires-clause-gap : goal.gaps_in-requires-clause-gap
gaps_in-requires-clause-gap c =
    let net = c.args.net.now in
    let rules = c.in-Some.ensures.rules in
    gap_in c.in-Some.list.now.dates c.in-Some.list.now.again (found_rules net net.inputs c.args.input.index c.in-Some.list.now rules.each_input c.in-Some.ensures.first).again
