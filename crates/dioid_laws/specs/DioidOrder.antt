-- The order of a dioid, in which a is at most b where a + b = b (chapter 4).
use Rattle.std.specs.Prelude.{◌≡◌, ◌↔◌}
use Rattle.dioid.specs.DioidAxioms.{IsAtMost}
use Rattle.dioid.specs.declared.algebra.Dioid.{Ghosts as DioidOf}

-- it is an order of the elements; zero is the least of them, the sum of two is their least upper bound, and the product
-- rises with each of its factors
pub record IsOrderOfSums {M : Type 0} (d : DioidOf M) : Type 0 where
  pub reflexive : (a : M) → d.is_element a → IsAtMost d.sum a a
  pub transitive : (a b c : M) → d.is_element a → d.is_element b → d.is_element c → IsAtMost d.sum a b → IsAtMost d.sum b c → IsAtMost d.sum a c
  pub antisymmetric : (a b : M) → d.is_element a → d.is_element b → IsAtMost d.sum a b → IsAtMost d.sum b a → a ≡ b
  pub zero_least : (a : M) → d.is_element a → IsAtMost d.sum d.zero a
  pub sum_least : (a b c : M) → d.is_element a → d.is_element b → d.is_element c → IsAtMost d.sum (d.sum a b) c ↔ (IsAtMost d.sum a c × IsAtMost d.sum b c)
  pub product_rises : (a b c e : M) → d.is_element a → d.is_element b → d.is_element c → d.is_element e
      → IsAtMost d.sum a b → IsAtMost d.sum c e → IsAtMost d.sum (d.product a c) (d.product b e)
