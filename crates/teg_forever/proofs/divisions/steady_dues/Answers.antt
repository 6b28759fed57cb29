use Rattle.std.proofs.Common.{rules, ◌≡◌, ◌≤◌, ◌+◌, ◌++◌, ◌∷◌, [], ℕ, length, sym, subst, arith}
use Rattle.teg_forever.specs.Divisions.{AreSteadyTo}
use Rattle.teg_forever.specs.LateFirings.{IsGoingRow}
use Rattle.teg_forever.proofs.Dividing.{steady_more}
use Rattle.teg_forever.proofs.Series.{got}
use Rattle.teg_forever.proofs.divisions.steady_dues.Goals as goal

pub steady_due-requires : goal.steady_due-requires
steady_due-requires c = subst IsGoingRow (sym c.index-rows-place.is) (c.requires c.loop-place.place c.index-rows-place.result c.loop-place-test.true)

pub loop-place-preserved : goal.loop-place-preserved
loop-place-preserved c =
    let rows = c.args.rows.now in
    let place = c.loop-place.place in
    let added : c.push.new.self.items ≡ c.loop-place.list.items ++ c.in_ok-told.told ∷ [] = search rules in
    subst (AreSteadyTo rows (place + 1)) (sym added)
    (steady_more rows place c.loop-place.list.items c.index-rows-place.result c.in_ok-told.told c.loop-place.invariant
    (got rows place c.index-rows-place.result c.loop-place-test.true c.index-rows-place.is) c.in_ok-told.ensures)

pub returns : goal.returns
returns c =
    let low : length c.args.rows.now ≤ c.loop-place.place = c.loop-place-test.false in
    let same : c.loop-place.place ≡ length c.args.rows.now = omega arith in
    subst (λ (n : ℕ). AreSteadyTo c.args.rows.now n c.loop-place.list.items) same c.loop-place.invariant
