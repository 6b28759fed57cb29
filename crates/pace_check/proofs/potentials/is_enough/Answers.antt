use Rattle.std.proofs.Common.{rules, ℕ, ◌≡◌, length, replicate, ap, subst, ◌∙◌, arith}
use Rattle.std.specs.Prelude.{pos}
use Rattle.pace_check.specs.PathPotentials.{ArePathPotentials}
use Rattle.pace_check.proofs.PathPotentials.{enough_is_shown, potentials_begin}
use Rattle.pace_check.proofs.potentials.is_enough.Goals as goal

pub loop-most-init : goal.loop-most-init
loop-most-init c =
    let asked = c.args.asked.now in
    let filled : c.in_ok-potentials.potentials.items ≡ replicate (length c.transitions-count.result.now) (pos 0) = c.in_ok-potentials.ensures.items_if_clones_equal (search rules) in
    potentials_begin asked.net.now asked.target asked.place asked.extra c.in_ok-potentials.potentials.items
    (filled ∙ ap (λ z. replicate (length z) (pos 0)) c.transitions-count.ensures.value)

pub returns : goal.returns
returns c =
    let asked = c.args.asked.now in
    let net = asked.net.now in
    let all : c.loop-most.most ≡ length net.transitions =
    (let long = ap (λ z. length z) c.transitions-count.ensures.value in omega (arith, c.loop-most-test.false, c.loop-most.auto.most-end, long)) in
    let are : ArePathPotentials net asked.target asked.place asked.extra (length net.transitions) c.loop-most.potentials.items =
    subst (λ (n : ℕ). ArePathPotentials net asked.target asked.place asked.extra n c.loop-most.potentials.items) all c.loop-most.invariant in (
      λ yes. c.check_enough.ensures.enough yes,
      λ enough.
          c.check_enough.ensures.potentials.1
          (rw c.deref.ensures.value (enough_is_shown net asked.target asked.place asked.extra c.loop-most.potentials.items c.rules.ensures c.requires enough are)),
    )
