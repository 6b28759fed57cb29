-- The best circuit of a policy through transitions of a kind, what equal functions are, and a potential's width.
use Rattle.std.proofs.Common.{ℕ, ◌≡◌, List, subst, arith}
use Rattle.std.specs.Prelude.{ℤ, All, Any}
use Rattle.std.proofs.lemmas.Int.{ints}
use mir.Val.{SFits}
use mir.Syntax.{w128}
use Rattle.teg_net.specs.declared.entries.PlaceId.{PlaceId}
use Rattle.teg_net.specs.Nets.{NetLists}
use Rattle.teg_net.specs.Parts.{IsMember, IsPlaceOfPart, to_of}
use Rattle.teg_net.specs.ReducedTimes.{IsMagnitudeWithin}
use Rattle.teg_net.specs.Limits.{greatest_scaled_potential}
use Rattle.policy_rounds.specs.Policies.{Policy, IsBestCircuit}

pub same_functions : {A B : Type 0} (f g : A → B) → ((x : A) → f x ≡ g x) → f ≡ g
same_functions f g e = λ i. λ x. e x i

pub fits_within : (z : ℤ) → IsMagnitudeWithin greatest_scaled_potential z → SFits w128 z
fits_within z h = let l = h.low in let k = h.high in omega (arith, ints)

module _ (net : NetLists) (parts : List ℕ) (part : ℕ) where
  pub any_kind : (K L : ℕ → Type 0) → ((t : ℕ) → IsMember parts part t → K t → L t) → (d : List PlaceId)
      → All (IsPlaceOfPart net parts part) d → Any (λ p. K (to_of net p)) d → Any (λ p. L (to_of net p)) d
  any_kind K L k d h w =
      let inside : IsPlaceOfPart net parts part w.1 = subst (IsPlaceOfPart net parts part) w.3 (h w.0 w.1 w.2) in
      (w.0, w.1, w.2, w.3, k (to_of net w.1) inside.to_member w.4)

  -- the best circuit through one kind is that through another kind of the same members
  pub best_kind : (π : Policy) (K L : ℕ → Type 0) (c : List PlaceId) → ((t : ℕ) → IsMember parts part t → K t → L t)
      → ((t : ℕ) → IsMember parts part t → L t → K t) → IsBestCircuit net parts part π K c → IsBestCircuit net parts part π L c
  best_kind π K L c k l b = record {
    is = b.is;
    through = any_kind K L k c b.is.inside b.through;
    greatest = λ d h w. b.greatest d h (any_kind L K l d h.inside w);
    lowest = λ d h w e. b.lowest d h (any_kind L K l d h.inside w) e;
  }
