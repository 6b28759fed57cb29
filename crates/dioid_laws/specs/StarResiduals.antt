-- What holds of stars and residuals together (chapter 4): latest dates are such residuals.
use Rattle.std.specs.Prelude.{◌≡◌}
use Rattle.dioid.specs.DioidAxioms.{IsAtMost}
use Rattle.dioid.specs.declared.algebra.Dioid.{Ghosts as DioidOf}
use Rattle.dioid.specs.declared.algebra.Kleene.{Ghosts as KleeneOf}
use Rattle.dioid.specs.declared.algebra.Residuated.{Ghosts as ResiduatedOf}

-- the residual of b by the star of a is the greatest x that is at most b with a x at most x, and it is the meet of b and its
-- own residual by a; an element divided by itself is its own star; and so is a star divided by itself, which is the star
pub record StarResiduals {M : Type 0} (d : DioidOf M) (s : KleeneOf M) (l : ResiduatedOf M) : Type 0 where
  pub within : (a b : M) → d.is_element a → d.is_element b → IsAtMost d.sum (l.left (s.star a) b) b
  pub stays : (a b : M) → d.is_element a → d.is_element b → IsAtMost d.sum (d.product a (l.left (s.star a) b)) (l.left (s.star a) b)
  pub greatest : (a b x : M) → d.is_element a → d.is_element b → d.is_element x → IsAtMost d.sum x b → IsAtMost d.sum (d.product a x) x → IsAtMost d.sum x (l.left (s.star a) b)
  pub backward : (a b : M) → d.is_element a → d.is_element b → l.left (s.star a) b ≡ l.meet (l.left a (l.left (s.star a) b)) b
  pub by_itself : (a : M) → d.is_element a → s.star (l.left a a) ≡ l.left a a
  pub star_by_itself : (a : M) → d.is_element a → l.left (s.star a) (s.star a) ≡ s.star a
