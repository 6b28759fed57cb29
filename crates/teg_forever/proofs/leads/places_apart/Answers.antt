use Rattle.teg_forever.proofs.KeptApart.{apart_after, some_map}
use Rattle.teg_forever.proofs.leads.places_apart.Goals as goal

pub returns-clause-apart : goal.returns-clause-apart
returns-clause-apart c =
    let dates = rw (c.from-every.ensures, c.from-firings.ensures, c.from-gap.ensures) at c.in_ok-dates.ensures in
    let dues = rw (c.from-every.ensures, c.from-firings.ensures) at c.in_ok-dues.ensures in
    let slope = rw (c.from-every.ensures, c.from-firings.ensures, c.from-gap.ensures) at c.if-fast-steep.false in
    let enough = rw (c.saturating_sub.ensures, c.from-every.ensures, c.from-firings.ensures, c.from-gap.ensures) at c.times_to_gain.ensures.enough in
    some_map c.times_to_gain.result
    (λ places more. apart_after c.args.row.now c.args.cycle c.args.under c.args.over c.in_ok-dates.dates c.in_ok-dues.dues places dates dues slope more) enough
