use Rattle.std.proofs.Common.{◌<◌, ◌≤◌, ◌≡◌, arith, ⊎_elim}
use Rattle.std.proofs.lemmas.Bool.{cases_lt}
use Rattle.run_rows.proofs.turn.moves.Goals as goal

pub loop-index-preserved : goal.loop-index-preserved
loop-index-preserved c = λ t l.
    ⊎_elim
    (λ (m : t < c.loop-index.index). c.loop-index.invariant t m)
    (λ (m : c.loop-index.index ≤ t). let here : t ≡ c.loop-index.index = omega (arith, l, m) in rw here (c.moves_one.ensures c.if-not-moves_one.false))
    (cases_lt t c.loop-index.index)
