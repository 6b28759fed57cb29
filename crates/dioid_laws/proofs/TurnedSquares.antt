-- Elements that commute are turned by doing nothing, square matrices of them by changing rows and columns about.
use Rattle.std.proofs.Common.{◌≡◌, ℕ, ◌≤◌, refl, inl, inr, ⊎_elim}
use Rattle.dioid.specs.DioidAxioms.{IsClosed, DioidLaws}
use Rattle.dioid.specs.declared.algebra.Dioid.{Ghosts as DioidOf}
use Rattle.dioid_laws.specs.Commuting.{ProductsCommute}
use Rattle.dioid_laws.specs.SquareMatrices.{IsSquare, square_dioid, square_product}
use Rattle.dioid_laws.specs.RightHand.{square_turned}
use Rattle.dioid_laws.proofs.Totals.{total_same}
use Rattle.dioid_laws.proofs.Turnings.{IsTurning}

pub elements_turn : {M : Type 0} (d : DioidOf M) → ProductsCommute d → IsTurning d (λ a. a)
elements_turn d commute = record {
  is = λ a e. e;
  back = λ a. refl;
  sums = λ a b ea eb. refl;
  products = commute;
}

module _ {M : Type 0} (d : DioidOf M) (n : ℕ) (closed : IsClosed d.is_element d.zero d.one d.sum d.product) (laws : DioidLaws d.is_element d.zero d.one d.sum d.product)
    (commute : ProductsCommute d) where
  turned_is : (a : ℕ → ℕ → M) → IsSquare d n a → IsSquare d n (square_turned a)
  turned_is a sa = record {
    elements = λ i j. sa.elements j i;
    outside = λ i j o. sa.outside j i (⊎_elim (λ (p : n ≤ i). inr p) (λ (p : n ≤ j). inl p) o);
  }

  products_turn : (a b : ℕ → ℕ → M) → IsSquare d n a → IsSquare d n b → square_turned (square_product d n a b) ≡ square_product d n (square_turned b) (square_turned a)
  products_turn a b sa sb =
      let each : (i k : ℕ) → square_product d n a b k i ≡ square_product d n (square_turned b) (square_turned a) i k = λ i k.
      total_same d closed laws (λ j. d.product (a k j) (b j i)) (λ j. d.product (b j i) (a k j)) n (λ j hj. commute (a k j) (b j i) (sa.elements k j) (sb.elements j i)) in
      λ t i k. each i k t

  pub squares_turn : IsTurning (square_dioid d n) square_turned
  squares_turn = record {
    is = turned_is;
    back = λ a. refl;
    sums = λ a b sa sb. refl;
    products = products_turn;
  }
