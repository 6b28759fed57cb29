-- The sum orders the elements.
use Rattle.dioid.specs.DioidAxioms.{IsAtMost, IsClosed, DioidLaws}
use Rattle.dioid.specs.declared.algebra.Dioid.{Ghosts as DioidOf}
use Rattle.dioid_laws.specs.DioidOrder.{IsOrderOfSums}
use Rattle.dioid_matrix.proofs.Order.{Below, trans, least_above, left_part, right_part, at_product, antisym}

module _ {M : Type 0} (d : DioidOf M) (closed : IsClosed d.is_element d.zero d.one d.sum d.product) (laws : DioidLaws d.is_element d.zero d.one d.sum d.product) where
  below : {a b : M} → d.is_element a → d.is_element b → IsAtMost d.sum a b → Below d.is_element d.sum a b
  below ea eb h = record { low = ea; high = eb; at_most = h }

  pub order_of_sums : IsOrderOfSums d
  order_of_sums = record {
    reflexive = laws.sum_idempotent;
    transitive = λ a b c ea eb ec h k. (trans closed laws (below ea eb h) (below eb ec k)).at_most;
    antisymmetric = λ a b ea eb h k. antisym closed laws (below ea eb h) (below eb ea k);
    zero_least = laws.zero_neutral;
    sum_least = λ a b c ea eb ec. (
      (λ h. let all : Below d.is_element d.sum (d.sum a b) c = below (closed.sum_is a b ea eb) ec h in
          ((trans closed laws (left_part closed laws ea eb) all).at_most, (trans closed laws (right_part closed laws ea eb) all).at_most)),
      (λ h. (least_above closed laws (below ea ec h.0) (below eb ec h.1)).at_most),
    );
    product_rises = λ a b c e ea eb ec ee h k. (at_product closed laws (below ea eb h) (below ec ee k)).at_most;
  }
