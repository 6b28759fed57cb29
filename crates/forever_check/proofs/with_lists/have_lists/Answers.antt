use Rattle.std.proofs.Common.{ℕ, ◌≡◌, ◌<◌, ◌≤◌, subst, arith, ⊎_elim}
use Rattle.std.specs.Prelude.{Any}
use Rattle.std.proofs.lemmas.Bool.{cases_lt}
use Rattle.teg_net.specs.Nets.{IsInput}
use Rattle.forever_check.proofs.with_lists.have_lists.Goals as goal

pub loop-index-preserved : goal.loop-index-preserved
loop-index-preserved c = λ t l input.
    ⊎_elim
    (λ (less : t < c.loop-index.index). c.loop-index.invariant t less input)
    (λ (more : c.loop-index.index ≤ t).
    let same : c.loop-index.index ≡ t = omega (arith, l, more) in
    subst (λ (n : ℕ). IsInput c.args.net.now n → Any (λ x. x.transition.index ≡ n) c.args.lists.now) same (c.has_list.ensures c.if-not-has_list.false) input)
    (cases_lt t c.loop-index.index)
