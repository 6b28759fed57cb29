use Rattle.std.proofs.Common.{ℕ, ℤ, ◌+◌, ◌<◌, ◌≡◌, ◌++◌, ◌∷◌, [], List, length, pos, sym, subst, rules}
use Rattle.std.specs.Prelude.{slice_index_or}
use Rattle.walks_by_ends.specs.LatestTimes.{IsMostStep}
use Rattle.walks_by_ends.proofs.Told.{steps_more}
use Rattle.walks_by_ends.proofs.ways.Ways.steps.Goals as goal

pub loop-index-preserved : goal.loop-index-preserved
loop-index-preserved c =
    let w = c.args.self.now in
    let n = c.loop-index.index in
    let old = c.loop-index.steps.items in
    let more : c.push.new.self.items ≡ old ++ c.step.result ∷ [] = search rules in
    subst (λ (xs : List ℤ). (length xs ≡ n + 1) × ((t : ℕ) → t < n + 1 → IsMostStep w t (slice_index_or xs t (pos 0)))) (sym more)
    (steps_more w old c.step.result n c.loop-index.invariant.0 c.loop-index.invariant.1 c.step.ensures)
