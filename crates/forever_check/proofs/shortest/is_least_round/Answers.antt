use Rattle.std.proofs.Common.{ℕ, ◌≡◌, ◌<◌, ◌≤◌, ◌%◌, true, false, subst, arith, ⊎_elim, sym, ◌∙◌}
use Rattle.std.proofs.lemmas.Bool.{cases_lt, false≢true}
use Rattle.forever_check.specs.ReleaseWalks.{GoesOnIn}
use Rattle.forever_check.proofs.shortest.is_least_round.Goals as goal

pub loop-by-preserved : goal.loop-by-preserved
loop-by-preserved c = λ n one less divides goes.
    ⊎_elim
    (λ (old : n < c.loop-by.by). c.loop-by.invariant n one old divides goes)
    (λ (new : c.loop-by.by ≤ n).
    let same : n ≡ c.loop-by.by = omega (arith, less, new) in
    let round : c.args.again.every % c.loop-by.by ≡ 0 = subst (λ (m : ℕ). c.args.again.every % m ≡ 0) same divides in
    let on : GoesOnIn c.args.dates.now c.args.again c.args.past c.loop-by.by = subst (GoesOnIn c.args.dates.now c.args.again c.args.past) same goes in
    absurd (false≢true (sym c.if-seems_to_turn.false ∙ c.seems_to_turn.ensures round on)))
    (cases_lt n c.loop-by.by)

pub returns : goal.returns
returns c = λ yes by one less divides goes. c.loop-by.invariant by one (omega (arith, less, c.loop-by-test.false)) divides goes
