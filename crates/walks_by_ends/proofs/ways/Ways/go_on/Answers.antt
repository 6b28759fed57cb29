use Rattle.std.proofs.Common.{ℕ, ◌+◌, ◌<◌, ◌≤◌, ◌≡◌, ◌∙◌, pos, refl, sym, ap, subst, arith, rules, ⊎_elim, to_z, of_z}
use Rattle.std.specs.Int.{w128}
use Rattle.std.specs.Prelude.{slice_index_or}
use Rattle.std.proofs.lemmas.Bool.{cases_lt}
use Rattle.dioid.specs.Dates.{move}
use Rattle.walks_by_ends.specs.LatestTimes.{walk_date}
use Rattle.walks_by_ends.proofs.ways.Ways.go_on.Goals as goal

pub loop-index-preserved : goal.loop-index-preserved
loop-index-preserved c t l = ⊎_elim
    (λ (h : t < c.loop-index.index). c.loop-index.invariant t h)
    (λ (h : c.loop-index.index ≤ t).
    let is : t ≡ c.loop-index.index = omega (arith, l, h) in
    let here : walk_date c.args.self.now c.loop-index.index (c.args.number + 1) ≡ move (slice_index_or c.args.steps.now c.loop-index.index (pos 0)) (walk_date c.args.self.now c.loop-index.index c.args.number) = search rules in
    subst (λ (j : ℕ). walk_date c.args.self.now j (c.args.number + 1) ≡ move (slice_index_or c.args.steps.now j (pos 0)) (walk_date c.args.self.now j c.args.number)) (sym is) here)
    (cases_lt t c.loop-index.index)
