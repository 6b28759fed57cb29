use Rattle.std.proofs.Common.{ℕ, ◌+◌, ◌<◌, ◌≤◌, ◌≡◌, refl, arith, ⊎_elim, subst}
use Rattle.std.proofs.lemmas.Bool.{cases_lt}
use Rattle.dating_check.specs.ShownTables.{IsAttained}
use Rattle.dating_check.proofs.ways.are_attained.Goals as goal

pub loop-before-preserved : goal.loop-before-preserved
loop-before-preserved c = λ t k l o few.
    let rows = c.args.rows in
    let before : ℕ = c.loop-before.before in
    ⊎_elim
    (λ (q : before < k).
    let is : before + 1 ≡ k = omega (arith, few, q) in
    subst (λ (j : ℕ). IsAttained c.args.net.now rows.due.now rows.numbers rows.width rows.dates.now rows.ways.now t j) is (c.if-not-are_attained_at.ensures refl t l))
    (λ (q : k ≤ before). c.loop-before.invariant t k l o q)
    (cases_lt before k)
