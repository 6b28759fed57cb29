use Rattle.std.proofs.Common.{ℕ, ◌+◌, ◌<◌, ◌≡◌, ◌∙◌, sym, arith}
use Rattle.std.proofs.lemmas.Bool.{false≢true}
use Rattle.std.specs.Prelude.{pos}
use Rattle.forever_check.specs.ReleaseWalks.{going_release}
use Rattle.forever_check.proofs.ShortestLists.{rise_is, same_rise}
use Rattle.forever_check.proofs.shortest.seems_to_go_on.Goals as goal

pub returns-then-not-rise_alike : goal.returns-then-not-rise_alike
returns-then-not-rise_alike c = λ g.
    let u = going_release c.args.dates.now c.args.again in
    let k : ℕ = c.args.past + 1 in
    let n : ℕ = c.loop-before.before + 1 in
    let at = c.loop-before.invariant in
    let one = rise_is g.0 (u k) (u (k + c.args.by)) _ _ c.pair_at-first.ensures.first c.pair_at-first.ensures.second (g.1 k (omega arith)) in
    let two = rise_is g.0 (u n) (u (n + c.args.by)) _ _ c.pair_at.ensures.first c.pair_at.ensures.second (g.1 n (omega (arith, at))) in
    absurd (false≢true (sym c.if-not-rise_alike.true ∙ c.rise_alike.ensures (same_rise g.0 _ _ _ _ one two)))
