-- Potentials that rounds give.
use Rattle.std.proofs.Common.{ℕ, ℤ, pos, ◌+◌, ◌<◌, ◌≡◌, ◌+ℤ◌, ◌⊎◌, List, ◌∷◌, ◌++◌, [], length, get_or, Option, Some, to_z, of_z, sym, ap, subst, ◌∙◌, arith, inl, inr, ⊎_elim, below_more}
use Rattle.std.specs.Prelude.{◌≤ℤ◌, All, IsSomeAnd}
use Rattle.std.specs.Int.{w128}
use Rattle.std.proofs.lemmas.Int.{ints, to_z-of_z}
use Rattle.std.proofs.lemmas.List.{get_or_append_left, get_or_push}
use mir.Val.{SFits}
use Rattle.teg_net.specs.ReducedTimes.{IsMagnitudeWithin}
use Rattle.teg_sizing.specs.declared.rounds.ValueCell.{ValueCell}
use Rattle.teg_sizing.specs.ValueRounds.{no_cell, value_told}
use Rattle.teg_sizing.specs.EnoughPotentials.{greatest_told, IsPotential, IsPotentialOf}

-- a value that is told is read as it is
pub read_told : (z : ℤ) → IsMagnitudeWithin greatest_told z → to_z w128 (of_z w128 z) ≡ z
read_told z h = let l = h.low in let k = h.high in let fits : SFits w128 z = omega (arith, ints) in to_z-of_z w128 z fits

pub greater_is : (a : ℤ) (o : Option ℤ) (b over s z : ℤ) → o ≡ Some b → s ≡ b +ℤ over → a ≤ℤ z → s ≤ℤ z → (z ≡ a) ⊎ (z ≡ s) → IsPotential a o over z
greater_is a o b over s z told sum low high is = record {
  low = low;
  through = λ c e. (let same : Some c ≡ Some b = sym e ∙ told in let one : c ≡ b = cc in omega (arith, ints));
  is = ⊎_elim (λ (e : z ≡ a). inl e) (λ (e : z ≡ s). inr (b, told, e ∙ sum)) is;
}

-- with the potential of one transition more
pub potentials_more :
    (apart back : List ValueCell) (over : ℤ) (old new : List ℤ) (t : ℕ) (z : ℤ) → length old ≡ t → new ≡ old ++ (z ∷ [])
    → ((k : ℕ) → k < t → IsPotentialOf (value_told apart k) (value_told back k) over (get_or old k (pos 0))) → IsPotentialOf (value_told apart t) (value_told back t) over z
    → (k : ℕ) → k < t + 1 → IsPotentialOf (value_told apart k) (value_told back k) over (get_or new k (pos 0))
potentials_more apart back over old new t z long is before here =
    below_more (λ k. IsPotentialOf (value_told apart k) (value_told back k) over (get_or new k (pos 0))) t
    (λ k l. subst (IsPotentialOf (value_told apart k) (value_told back k) over) (sym (ap (λ (x : List ℤ). get_or x k (pos 0)) is ∙ get_or_append_left old (z ∷ []) (pos 0) k (omega arith)))
    (before k l))
    (subst (IsPotentialOf (value_told apart t) (value_told back t) over) (sym (ap (λ (x : List ℤ). get_or x t (pos 0)) is ∙ get_or_push old z (pos 0) t long)) here)

-- what is told of a transition keeps its limit
pub own_within : (cells : List ValueCell) (t : ℕ) (own : ℤ) → t < length cells → All (λ c. IsSomeAnd c.value (IsMagnitudeWithin greatest_told)) cells
    → value_told cells t ≡ Some own → IsMagnitudeWithin greatest_told own
own_within cells t own l within told = subst (λ o. IsSomeAnd o (IsMagnitudeWithin greatest_told)) told (within t no_cell l)
