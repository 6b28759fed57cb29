-- Feedback that keeps a transfer, and equations with an element before the unknown (chapters 4 and 6).
use Rattle.std.specs.Prelude.{◌≡◌, ◌↔◌}
use Rattle.dioid.specs.DioidAxioms.{IsAtMost}
use Rattle.dioid.specs.declared.algebra.Dioid.{Ghosts as DioidOf}
use Rattle.dioid.specs.declared.algebra.Kleene.{Ghosts as KleeneOf}
use Rattle.dioid.specs.declared.algebra.Residuated.{Ghosts as ResiduatedOf}
use Rattle.dioid_laws.specs.Commuting.{ProductsCommute}

-- a feedback f around h keeps h just where a round through it is within h; where products commute that is where f is at most
-- the residual of h by h h, the greatest feedback that keeps h
pub record FeedbackLaws {M : Type 0} (d : DioidOf M) (s : KleeneOf M) (l : ResiduatedOf M) : Type 0 where
  pub keeps : (h f : M) → d.is_element h → d.is_element f → d.product (s.star (d.product h f)) h ≡ h ↔ IsAtMost d.sum (d.product (d.product h f) h) h
  pub greatest : ProductsCommute d → (h f : M) → d.is_element h → d.is_element f
      → d.product (s.star (d.product h f)) h ≡ h ↔ IsAtMost d.sum f (l.left (d.product h h) h)

-- a x = b has a solution just where the greatest x with a x at most b is one
abbrev pub EquationsAreSolvedByResiduals : {M : Type 0} → DioidOf M → ResiduatedOf M → Type 0
EquationsAreSolvedByResiduals {M} d l = (a b : M) → d.is_element a → d.is_element b
    → ((x : M) × d.is_element x × (d.product a x ≡ b)) ↔ (d.product a (l.left a b) ≡ b)
