-- Feedback and equations, from least solutions and the Galois law.
use Rattle.std.proofs.Common.{◌≡◌, sym, ◌∙◌, subst, ap}
use Rattle.dioid.specs.DioidAxioms.{IsAtMost, IsClosed, DioidLaws, StarLaws, ResidualLaws}
use Rattle.dioid.specs.declared.algebra.Dioid.{Ghosts as DioidOf}
use Rattle.dioid.specs.declared.algebra.Kleene.{Ghosts as KleeneOf}
use Rattle.dioid.specs.declared.algebra.Residuated.{Ghosts as ResiduatedOf}
use Rattle.dioid_laws.specs.Commuting.{ProductsCommute}
use Rattle.dioid_laws.specs.Feedback.{FeedbackLaws, EquationsAreSolvedByResiduals}
use Rattle.dioid_matrix.proofs.Order.{Below, same, equal, trans, at_product, antisym}
use Rattle.dioid_laws.proofs.StarFacts.{one_below, product_within, star_then, turn_below}
use Rattle.dioid_laws.proofs.ResidualFacts.{into, below}

module _ {M : Type 0} (d : DioidOf M) (s : KleeneOf M) (l : ResiduatedOf M)
    (closed : IsClosed d.is_element d.zero d.one d.sum d.product) (laws : DioidLaws d.is_element d.zero d.one d.sum d.product)
    (stars : StarLaws d.is_element d.sum d.product s.star) (residuals : ResidualLaws d.is_element d.sum d.product l.left l.meet) where
  abbrev Le : M → M → Type 0
  Le a b = Below d.is_element d.sum a b

  -- a is within its star
  self : (a : M) → d.is_element a → Le a (s.star a)
  self a ea =
      let P : M → Type 0 = λ z. Le z (d.product a (s.star a)) in
      trans closed laws (subst P (laws.one_neutral_right a ea) (at_product closed laws (same closed laws ea) (one_below d s closed laws stars a ea))) (turn_below d s closed laws stars a ea)

  round_in : (h f : M) → d.is_element h → d.is_element f → d.product (s.star (d.product h f)) h ≡ h → IsAtMost d.sum (d.product (d.product h f) h) h
  round_in h f eh ef e =
      let hf = closed.product_is h f eh ef in
      let low : Le (d.product (d.product h f) h) (d.product (s.star (d.product h f)) h) = at_product closed laws (self (d.product h f) hf) (same closed laws eh) in
      subst (λ z. IsAtMost d.sum (d.product (d.product h f) h) z) e low.at_most

  kept : (h f : M) → d.is_element h → d.is_element f → IsAtMost d.sum (d.product (d.product h f) h) h → d.product (s.star (d.product h f)) h ≡ h
  kept h f eh ef m =
      let hf = closed.product_is h f eh ef in
      let turn : Le (d.product (d.product h f) h) h = record { low = closed.product_is (d.product h f) h hf eh; high = eh; at_most = m } in
      antisym closed laws (product_within d s closed laws stars (d.product h f) h h hf turn (same closed laws eh)) (star_then d s closed laws stars hf eh)

  -- where products commute, h f h is h h f
  turned : ProductsCommute d → (h f : M) → d.is_element h → d.is_element f → d.product (d.product h f) h ≡ d.product (d.product h h) f
  turned c h f eh ef = laws.product_assoc h f h eh ef eh ∙ (ap (λ (z : M). d.product h z) (c f h ef eh) ∙ sym (laws.product_assoc h h f eh eh ef))

  pub feedback_laws : FeedbackLaws d s l
  feedback_laws = record {
    keeps = λ h f eh ef. (round_in h f eh ef, kept h f eh ef);
    greatest = λ c h f eh ef.
        let hh = closed.product_is h h eh eh in
        let e = turned c h f eh ef in
        let P : M → Type 0 = λ z. IsAtMost d.sum z h in (
          (λ k. (residuals.galois (d.product h h) f h hh ef eh).0 (subst P e (round_in h f eh ef k))),
          (λ k. kept h f eh ef (subst P (sym e) ((residuals.galois (d.product h h) f h hh ef eh).1 k))),
        );
  }

module _ {M : Type 0} (d : DioidOf M) (l : ResiduatedOf M) (closed : IsClosed d.is_element d.zero d.one d.sum d.product)
    (laws : DioidLaws d.is_element d.zero d.one d.sum d.product) (residuals : ResidualLaws d.is_element d.sum d.product l.left l.meet) where
  pub solved_by_residuals : EquationsAreSolvedByResiduals d l
  solved_by_residuals a b ea eb = (
    (λ w.
        let x : M = w.0 in
        let low : Below d.is_element d.sum x (l.left a b) =
        into d l closed laws residuals ea w.1 (equal closed laws (closed.product_is a x ea w.1) w.2) in
        let up : Below d.is_element d.sum b (d.product a (l.left a b)) =
        subst (λ z. Below d.is_element d.sum z (d.product a (l.left a b))) w.2 (at_product closed laws (same closed laws ea) low) in
        antisym closed laws (below d l closed laws residuals a b ea eb) up),
    (λ e. (l.left a b, residuals.left_is a b ea eb, e)),
  )
