-- Residuals by stars.
use Rattle.std.proofs.Common.{◌≡◌, sym, subst}
use Rattle.dioid.specs.DioidAxioms.{IsClosed, DioidLaws, StarLaws, ResidualLaws}
use Rattle.dioid.specs.declared.algebra.Dioid.{Ghosts as DioidOf}
use Rattle.dioid.specs.declared.algebra.Kleene.{Ghosts as KleeneOf}
use Rattle.dioid.specs.declared.algebra.Residuated.{Ghosts as ResiduatedOf}
use Rattle.dioid_laws.specs.StarResiduals.{StarResiduals}
use Rattle.dioid_matrix.proofs.Order.{Below, same, equal, trans, least_above, at_product, antisym}
use Rattle.dioid_laws.proofs.StarFacts.{within, turn_below, product_within, star_then, then_star, squared, ungroup}
use Rattle.dioid_laws.proofs.ResidualFacts.{into, out_of, in_meet, meet_left, meet_right, below}

module _ {M : Type 0} (d : DioidOf M) (s : KleeneOf M) (l : ResiduatedOf M)
    (closed : IsClosed d.is_element d.zero d.one d.sum d.product) (laws : DioidLaws d.is_element d.zero d.one d.sum d.product)
    (stars : StarLaws d.is_element d.sum d.product s.star) (residuals : ResidualLaws d.is_element d.sum d.product l.left l.meet) where
  abbrev Le : M → M → Type 0
  Le a b = Below d.is_element d.sum a b

  -- an element is within its star
  self : (a : M) → d.is_element a → Le a (s.star a)
  self a ea = trans closed laws (then_star d s closed laws stars ea ea) (turn_below d s closed laws stars a ea)

  latest_is : (a b : M) → d.is_element a → d.is_element b → d.is_element (l.left (s.star a) b)
  latest_is a b ea eb = residuals.left_is (s.star a) b (stars.star_is a ea) eb

  rounds : (a b : M) → d.is_element a → d.is_element b → Le (d.product (s.star a) (l.left (s.star a) b)) b
  rounds a b ea eb = below d l closed laws residuals (s.star a) b (stars.star_is a ea) eb

  at_most : (a b : M) → d.is_element a → d.is_element b → Le (l.left (s.star a) b) b
  at_most a b ea eb = trans closed laws (star_then d s closed laws stars ea (latest_is a b ea eb)) (rounds a b ea eb)

  stays_in : (a b : M) → d.is_element a → d.is_element b → Le (d.product a (l.left (s.star a) b)) (l.left (s.star a) b)
  stays_in a b ea eb =
      let star = stars.star_is a ea in
      let x = latest_is a b ea eb in
      let P : M → Type 0 = λ z. Le (d.product z (l.left (s.star a) b)) b in
      into d l closed laws residuals star (closed.product_is a (l.left (s.star a) b) ea x)
      (trans closed laws (at_product closed laws (same closed laws star) (at_product closed laws (self a ea) (same closed laws x)))
      (ungroup d s closed laws stars star star x (subst P (sym (squared d s closed laws stars a ea)) (rounds a b ea eb))))

  greatest_of : (a b x : M) → d.is_element a → Le x b → Le (d.product a x) x → Le x (l.left (s.star a) b)
  greatest_of a b x ea h k = into d l closed laws residuals (stars.star_is a ea) h.low (trans closed laws (product_within d s closed laws stars a x x ea k (same closed laws h.low)) h)

  backward_of : (a b : M) → d.is_element a → d.is_element b → l.left (s.star a) b ≡ l.meet (l.left a (l.left (s.star a) b)) b
  backward_of a b ea eb =
      let x = latest_is a b ea eb in
      let ax = residuals.left_is a (l.left (s.star a) b) ea x in
      let up : Le (l.left (s.star a) b) (l.meet (l.left a (l.left (s.star a) b)) b) =
      in_meet d l closed laws residuals (into d l closed laws residuals ea x (stays_in a b ea eb)) (at_most a b ea eb) in
      let once : Le (d.product a (l.meet (l.left a (l.left (s.star a) b)) b)) (l.left (s.star a) b) =
      out_of d l closed laws residuals ea x (meet_left d l closed laws residuals ax eb) in
      antisym closed laws up (greatest_of a b (l.meet (l.left a (l.left (s.star a) b)) b) ea (meet_right d l closed laws residuals ax eb) (trans closed laws once up))

  own_star : (a : M) → d.is_element a → s.star (l.left a a) ≡ l.left a a
  own_star a ea =
      let c = residuals.left_is a a ea ea in
      let one : Le d.one (l.left a a) = into d l closed laws residuals ea closed.one_is (equal closed laws (closed.product_is a d.one ea closed.one_is) (laws.one_neutral_right a ea)) in
      let once : Le (d.product a (l.left a a)) a = below d l closed laws residuals a a ea ea in
      let twice : Le (d.product (l.left a a) (l.left a a)) (l.left a a) =
      into d l closed laws residuals ea (closed.product_is (l.left a a) (l.left a a) c c)
      (ungroup d s closed laws stars ea c c (trans closed laws (at_product closed laws once (same closed laws c)) once)) in
      antisym closed laws (within d s closed laws stars (l.left a a) (l.left a a) c (least_above closed laws twice one)) (self (l.left a a) c)

  star_over : (a : M) → d.is_element a → l.left (s.star a) (s.star a) ≡ s.star a
  star_over a ea =
      let star = stars.star_is a ea in
      antisym closed laws (at_most a (s.star a) ea star)
      (into d l closed laws residuals star star (equal closed laws (closed.product_is (s.star a) (s.star a) star star) (squared d s closed laws stars a ea)))

  pub star_residuals : StarResiduals d s l
  star_residuals = record {
    within = λ a b ea eb. (at_most a b ea eb).at_most;
    stays = λ a b ea eb. (stays_in a b ea eb).at_most;
    greatest = λ a b x ea eb ex h k.
        let low : Le x b = record { low = ex; high = eb; at_most = h } in
        let turn : Le (d.product a x) x = record { low = closed.product_is a x ea ex; high = ex; at_most = k } in
        (greatest_of a b x ea low turn).at_most;
    backward = backward_of;
    by_itself = own_star;
    star_by_itself = star_over;
  }
