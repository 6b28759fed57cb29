-- What holds of stars by least solutions alone (chapter 4).
use Rattle.std.specs.Prelude.{◌≡◌}
use Rattle.dioid.specs.DioidAxioms.{IsAtMost}
use Rattle.dioid.specs.declared.algebra.Dioid.{Ghosts as DioidOf}
use Rattle.dioid.specs.declared.algebra.Kleene.{Ghosts as KleeneOf}

-- the star is one and a round before it; it is its own square and its own star, and rises with its element; a slides from
-- before the star of b a to after the star of a b; and the star of a sum is a product of stars
pub record StarIdentities {M : Type 0} (d : DioidOf M) (s : KleeneOf M) : Type 0 where
  pub unfolds : (a : M) → d.is_element a → d.sum d.one (d.product a (s.star a)) ≡ s.star a
  pub idempotent : (a : M) → d.is_element a → d.product (s.star a) (s.star a) ≡ s.star a
  pub twice : (a : M) → d.is_element a → s.star (s.star a) ≡ s.star a
  pub rises : (a b : M) → d.is_element a → d.is_element b → IsAtMost d.sum a b → IsAtMost d.sum (s.star a) (s.star b)
  pub slides : (a b : M) → d.is_element a → d.is_element b → d.product a (s.star (d.product b a)) ≡ d.product (s.star (d.product a b)) a
  pub of_sum : (a b : M) → d.is_element a → d.is_element b → s.star (d.sum a b) ≡ d.product (s.star a) (s.star (d.product b (s.star a)))
