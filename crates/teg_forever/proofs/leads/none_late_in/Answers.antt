use Rattle.teg_forever.proofs.KeptApart.{none_past, some_map}
use Rattle.teg_forever.proofs.leads.none_late_in.Goals as goal

pub returns-clause-none : goal.returns-clause-none
returns-clause-none c =
    let a = c.args.row.now in
    let h = c.row.ensures.told in
    let past = c.requires.past in
    let cycle = c.requires.cycle in
    let over = rw c.row.ensures.value at c.line_over-over.ensures in
    let apart = rw c.row-3.ensures.value at c.places_apart.ensures.apart in
    some_map c.places_apart.result (λ places. none_past h.net a.row h.row a.settled h.climbing h.steps c.args.past c.args.cycle c.args.class
    c.line_under-under.result c.line_over-over.result places past.after past.listed cycle.some cycle.rises c.requires.class c.line_under-under.ensures over)
    apart
