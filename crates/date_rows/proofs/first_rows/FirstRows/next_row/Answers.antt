use Rattle.std.proofs.Common.{◌+◌, sym, subst, ap, arith}
use Rattle.date_rows.specs.Streams.{AreFirstRowsOf}
use Rattle.date_rows.proofs.Earliest.{net_stays}
use Rattle.date_rows.proofs.Keeping.{next_goes_on}
use Rattle.date_rows.proofs.first_rows.FirstRows.next_row.Goals as goal

pub next_row-requires-clause-bounded : goal.next_row-requires-clause-bounded
next_row-requires-clause-bounded c =
    rw c.number-number.ensures.value
    (net_stays c.args.net.now (c.self.inside.window.number + 1) c.requires.stands.rules (omega (arith, c.requires.few, ap (λ a. a.window.number) c.self.view_is)))

pub returns-clause-stands : goal.returns-clause-stands
returns-clause-stands c =
    let net = c.args.net.now in
    let h = subst (AreFirstRowsOf net) (sym c.self.view_is) c.requires.stands in
    next_goes_on net _ _ _ _ h c.push.ensures (rw c.number-number.ensures.value at c.next_row.ensures.row)
