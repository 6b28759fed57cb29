use Rattle.std.proofs.Common.{◌≡◌, length, map, refl, arith}
use Rattle.std.proofs.lemmas.List.{map-set}
use Rattle.date_rows.proofs.Beginning.{begun_more}
use Rattle.date_rows.proofs.Bounded.{release_within}
use Rattle.date_rows.proofs.passes.RowPass.begin.Goals as goal

pub later_date-requires : goal.later_date-requires
later_date-requires g c =
    let net = c.self.inside.net.now in
    rw c.release.ensures (release_within net (g.S.Source.initial c.self.inside.source.now)
    (g.S.Source.release c.self.inside.source.now net) g.C.DateCell.most c.self.inside.number c.loop-index.index c.self.invariant.bounded c.self.invariant.one)

pub loop-index-preserved : goal.loop-index-preserved
loop-index-preserved g c =
    let net = c.self.inside.net.now in
    let init = g.S.Source.initial c.self.inside.source.now in
    let rel = g.S.Source.release c.self.inside.source.now net in
    let held = g.C.DateCell.held in
    let back = (g.P.Past.rows c.self.inside.past.now).back in
    let in' = rw c.transitions-width.ensures.value at c.loop-index-test.true in
    rw (map-set held c.loop-index.row c.loop-index.index c.later_date.result)
    (begun_more init rel (length net.transitions) c.self.inside.number back (map held c.loop-index.row) c.loop-index.index (held c.later_date.result)
    in' c.loop-index.invariant (rw (c.later_date.ensures, rw (← c.self.view_is) at c.date_before-before.ensures, c.release.ensures) refl))

pub returns : goal.returns
returns g c =
    let net = c.self.inside.net.now in
    let h = c.loop-index.invariant in
    let last : c.loop-index.index ≡ length c.transitions-width.result.now = omega (arith, c.loop-index-test.false, c.loop-index.auto.index-end) in
    let end = rw c.transitions-width.ensures.value at last in
    rw (← c.self.view_is) (record { full = h.full; begun = λ t l. h.begun t (rw end l) })
