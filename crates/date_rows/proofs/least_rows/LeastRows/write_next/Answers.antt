use Rattle.std.proofs.Common.{◌+◌, sym, subst, ap, arith}
use Rattle.std.proofs.lemmas.List.{map-id}
use Rattle.teg_model.specs.Datings.{listed_releases, system_of}
use Rattle.date_rows.specs.Streams.{IsStreamOf}
use Rattle.date_rows.proofs.Earliest.{bounds_stay, net_keeps_bounds}
use Rattle.date_rows.proofs.Keeping.{next_goes_on}
use Rattle.date_rows.proofs.least_rows.LeastRows.write_next.Goals as goal

pub next_row-requires-clause-bounded : goal.next_row-requires-clause-bounded
next_row-requires-clause-bounded c =
    let net = c.args.net.now in
    rw c.number-number.ensures.value
    (bounds_stay (system_of net (listed_releases net)) (c.self.inside.last.number + 1) (net_keeps_bounds net c.requires.stands.rules)
    (omega (arith, c.requires.few, ap (λ a. a.last.number) c.self.view_is)))

pub returns-clause-stands : goal.returns-clause-stands
returns-clause-stands c =
    let net = c.args.net.now in
    let h = subst (IsStreamOf net) (sym c.self.view_is) c.requires.stands in
    next_goes_on net _ _ _ _ h c.push.ensures (rw (c.number-number.ensures.value, map-id c.next_row.new.row) at c.next_row.ensures.row)
