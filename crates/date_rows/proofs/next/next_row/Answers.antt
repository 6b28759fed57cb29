use Rattle.std.proofs.Common.{◌∙◌, arith}
use Rattle.teg_model.specs.Datings.{listed_releases, system_of}
use Rattle.date_rows.proofs.Earliest.{earliest, earliest_is_least, earliest_of_net}
use Rattle.date_rows.proofs.Keeping.{can_make_row}
use Rattle.date_rows.proofs.next.next_row.Goals as goal

pub new-requires : goal.new-requires
new-requires g c =
    can_make_row c.args.net.now c.args.order.now g.C.DateCell.most g.C.DateCell.early (g.P.Past.rows c.args.past.now) c.args.number
    c.requires.stands c.requires.next c.requires.few c.requires.bounded

pub returns-clause-row : goal.returns-clause-row
returns-clause-row g c =
    let net = c.args.net.now in
    let s = system_of net (listed_releases net) in
    let stands = c.requires.stands in
    let ranks = stands.order.0 in
    let x = earliest s ranks in
    let least = earliest_is_least net s.initial s.release ranks stands.rules stands.order.1 in
    let is = earliest_of_net net ranks stands.rules stands.order.1 in
    let row = (rw c.new.ensures at c.fill.ensures.least) x least in
    record {
      exists = (x, is);
      same = λ y h. record { full = row.full; same = λ t l. row.same t l ∙ c.least_datings_are_one.ensures.one net (listed_releases net) x y is h t c.args.number l (omega (arith, c.requires.next)) };
    }
