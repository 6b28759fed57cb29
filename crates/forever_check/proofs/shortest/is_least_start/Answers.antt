use Rattle.std.proofs.Common.{ℕ, ◌+◌, ◌≡◌, ◌∙◌, sym, arith}
use Rattle.std.specs.Prelude.{pos}
use Rattle.std.proofs.lemmas.Int.{ints}
use Rattle.std.proofs.lemmas.Bool.{false≢true}
use Rattle.forever_check.specs.ReleaseWalks.{going_release}
use Rattle.forever_check.proofs.ShortestLists.{rise_is}
use Rattle.forever_check.proofs.shortest.is_least_start.Goals as goal

pub returns : goal.returns
returns c = λ yes one goes.
    let u = going_release c.args.dates.now c.args.again in
    let k : ℕ = c.args.past in
    let gap : ℕ = c.args.again.gap in
    let rise = rise_is (pos gap) (u k) (u (k + c.args.again.every)) _ _ c.pair_at.ensures.first (rw c.from-2.ensures at c.pair_at.ensures.second) goes in
    let alike = c.rise_alike.ensures (omega (arith, ints, rise)) in
    absurd (false≢true (sym c.if-rise_alike.false ∙ alike))
