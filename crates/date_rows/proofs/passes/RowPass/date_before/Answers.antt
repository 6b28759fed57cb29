use Rattle.date_rows.proofs.Bounded.{implicit_within}
use Rattle.date_rows.proofs.passes.RowPass.date_before.Goals as goal

pub of-requires-clause-within : goal.of-requires-clause-within
of-requires-clause-within g c =
    let net = c.self.inside.net.now in
    rw c.first.ensures (implicit_within net (g.S.Source.initial c.self.inside.source.now)
    (g.S.Source.release c.self.inside.source.now net) g.C.DateCell.most c.self.inside.number c.args.transition.index c.self.invariant.bounded
    (rw (← c.self.view_is) at c.requires) c.self.invariant.one)
