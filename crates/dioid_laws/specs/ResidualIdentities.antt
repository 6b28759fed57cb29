-- What holds of residuals and meets by the Galois law alone (chapter 4).
use Rattle.std.specs.Prelude.{◌≡◌}
use Rattle.dioid.specs.DioidAxioms.{IsAtMost}
use Rattle.dioid.specs.declared.algebra.Dioid.{Ghosts as DioidOf}
use Rattle.dioid.specs.declared.algebra.Residuated.{Ghosts as ResiduatedOf}

-- a\b is `left a b`: a (a\b) is at most b and b at most a\(a b); what was divided, multiplied and divided by the same
-- element is what was divided once, and so for products; the residual rises with its bound and falls with its divisor; the
-- residual by one is the bound, by a product one residual after the other, by a sum the meet of the residuals; and the
-- residual of a meet is the meet of the residuals
pub record ResidualIdentities {M : Type 0} (d : DioidOf M) (l : ResiduatedOf M) : Type 0 where
  pub within : (a b : M) → d.is_element a → d.is_element b → IsAtMost d.sum (d.product a (l.left a b)) b
  pub around : (a b : M) → d.is_element a → d.is_element b → IsAtMost d.sum b (l.left a (d.product a b))
  pub divided : (a b : M) → d.is_element a → d.is_element b → l.left a (d.product a (l.left a b)) ≡ l.left a b
  pub multiplied : (a b : M) → d.is_element a → d.is_element b → d.product a (l.left a (d.product a b)) ≡ d.product a b
  pub rises : (a b c : M) → d.is_element a → d.is_element b → d.is_element c → IsAtMost d.sum b c → IsAtMost d.sum (l.left a b) (l.left a c)
  pub falls : (a b c : M) → d.is_element a → d.is_element b → d.is_element c → IsAtMost d.sum a b → IsAtMost d.sum (l.left b c) (l.left a c)
  pub by_one : (b : M) → d.is_element b → l.left d.one b ≡ b
  pub by_product : (a b c : M) → d.is_element a → d.is_element b → d.is_element c → l.left (d.product a b) c ≡ l.left b (l.left a c)
  pub by_sum : (a b c : M) → d.is_element a → d.is_element b → d.is_element c → l.left (d.sum a b) c ≡ l.meet (l.left a c) (l.left b c)
  pub of_meet : (a b c : M) → d.is_element a → d.is_element b → d.is_element c → l.left a (l.meet b c) ≡ l.meet (l.left a b) (l.left a c)
