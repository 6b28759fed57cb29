use Rattle.std.proofs.Common.{◌≡◌, refl, rules}
use Rattle.std.proofs.lemmas.Bool.{iff_false}
use Rattle.std.proofs.lemmas.Int.{to_z-of_z}
use mir.Val.{SFits, to_z, of_z}
use mir.Syntax.{w128}
use Rattle.teg_certificates.proofs.Deciding.{read_within}
use Rattle.teg_certificates.proofs.potentials.keeps_potential.Goals as goal

pub returns-then-not-is_inner : goal.returns-then-not-is_inner
returns-then-not-is_inner c = (λ t f g. absurd (iff_false c.is_inner.ensures c.if-not-is_inner.true (f, g)), λ h. refl)

pub returns : goal.returns
returns c =
    let both = c.is_inner.ensures.0 c.if-not-is_inner.false in
    let fits : SFits w128 c.lifted.result = search rules in
    let from : to_z w128 (of_z w128 c.potential_of-from.result) ≡ c.potential_of-from.result = read_within c.potential_of-from.result c.potential_of-from.ensures.within in
    let to : to_z w128 (of_z w128 c.potential_of-to.result) ≡ c.potential_of-to.result = read_within c.potential_of-to.result c.potential_of-to.ensures.within in
    let up : to_z w128 (of_z w128 c.lifted.result) ≡ c.lifted.result = to_z-of_z w128 c.lifted.result fits in (
      λ t f g. rw (up, to, c.lifted.ensures, c.from.ensures, from, c.potential_of-from.ensures.value, c.potential_of-to.ensures.value) at (c.is_at_most.ensures.0 t),
      λ h. c.is_at_most.ensures.1 (rw (up, to, c.lifted.ensures, c.from.ensures, from, c.potential_of-from.ensures.value, c.potential_of-to.ensures.value) (h both.0 both.1)),
    )
