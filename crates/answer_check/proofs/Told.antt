-- What is told of a ratio that is named.
use Rattle.std.proofs.Common.{◌≡◌, Option, Some, None, subst}
use Rattle.std.specs.Prelude.{IsSomeAnd}

-- what holds of the value there is, holds of this value
pub of_value : {A : Type 0} (P : A → Type 0) (o : Option A) (a : A) → IsSomeAnd o P → o ≡ Some a → P a
of_value P None a h e = absurd h
of_value P (Some b) a h e = let is : b ≡ a = cc in subst P is h
