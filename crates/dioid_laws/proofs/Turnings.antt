-- What holds on the left holds on the right, where elements can be turned so that the factors of a product change about.
use Rattle.std.proofs.Common.{◌≡◌, sym, ◌∙◌, subst, ap}
use Rattle.dioid.specs.DioidAxioms.{IsClosed, DioidLaws, StarLaws, ResidualLaws}
use Rattle.dioid.specs.declared.algebra.Dioid.{Ghosts as DioidOf}
use Rattle.dioid.specs.declared.algebra.Kleene.{Ghosts as KleeneOf}
use Rattle.dioid.specs.declared.algebra.Residuated.{Ghosts as ResiduatedOf}
use Rattle.dioid_laws.specs.RightHand.{RightStarLaws, RightResidualLaws}
use Rattle.dioid_matrix.proofs.Order.{Below, same, trans, least_above, at_product, antisym}
use Rattle.dioid_laws.proofs.StarFacts.{round, within, turn_below, then_star, regroup, star_identities}
use Rattle.dioid_laws.proofs.ResidualFacts.{into, out_of, below}

-- turned twice an element is itself, sums are turned term by term, and the factors of a product change about
pub record IsTurning {M : Type 0} (d : DioidOf M) (T : M → M) : Type 0 where
  pub is : (a : M) → d.is_element a → d.is_element (T a)
  pub back : (a : M) → T (T a) ≡ a
  pub sums : (a b : M) → d.is_element a → d.is_element b → T (d.sum a b) ≡ d.sum (T a) (T b)
  pub products : (a b : M) → d.is_element a → d.is_element b → T (d.product a b) ≡ d.product (T b) (T a)

module _ {M : Type 0} (d : DioidOf M) (T : M → M) (closed : IsClosed d.is_element d.zero d.one d.sum d.product)
    (laws : DioidLaws d.is_element d.zero d.one d.sum d.product) (turning : IsTurning d T) where
  abbrev Le : M → M → Type 0
  Le a b = Below d.is_element d.sum a b

  -- the order stays
  turned : {a b : M} → Le a b → Le (T a) (T b)
  turned {a} {b} h = record {
    low = turning.is a h.low;
    high = turning.is b h.high;
    at_most = sym (turning.sums a b h.low h.high) ∙ ap T h.at_most;
  }

  back_up : {a b : M} → Le a (T (T b)) → Le a b
  back_up {a} {b} h = let P : M → Type 0 = λ z. Le a z in subst P (turning.back b) h

  -- and one too
  one_stays : T d.one ≡ d.one
  one_stays =
      let u = turning.is d.one closed.one_is in
      sym (laws.one_neutral_right (T d.one) u)
      ∙ (ap (d.product (T d.one)) (sym (turning.back d.one))
      ∙ (sym (turning.products (T d.one) d.one u closed.one_is) ∙ (ap T (laws.one_neutral_right (T d.one) u) ∙ turning.back d.one)))

  -- a product and a sum
  turned_equation : (x a b : M) → d.is_element x → d.is_element a → d.is_element b → T (d.sum (d.product x a) b) ≡ d.sum (d.product (T a) (T x)) (T b)
  turned_equation x a b ex ea eb = turning.sums (d.product x a) b (closed.product_is x a ex ea) eb ∙ ap (λ z. d.sum z (T b)) (turning.products x a ex ea)

  module _ (s : KleeneOf M) (stars : StarLaws d.is_element d.sum d.product s.star) where
    star_turns : (a : M) → d.is_element a → d.product a (s.star a) ≡ d.product (s.star a) a
    star_turns a ea =
        ap (λ z. d.product a (s.star z)) (sym (laws.one_neutral_left a ea))
        ∙ ((star_identities d s closed laws stars).slides a d.one ea closed.one_is ∙ ap (λ z. d.product (s.star z) a) (laws.one_neutral_right a ea))

    round_before : (a : M) → d.is_element a → Le (d.sum (d.product (s.star a) a) d.one) (s.star a)
    round_before a ea = let P : M → Type 0 = λ z. Le (d.sum z d.one) (s.star a) in subst P (star_turns a ea) (round d s closed laws stars a ea)

    -- the star of what is turned, turned back, is within each x that has x a and one within it
    other_within : (a x : M) → d.is_element a → d.is_element x → Le (d.sum (d.product x a) d.one) x → Le (T (s.star (T a))) x
    other_within a x ea ex h =
        let P : M → Type 0 = λ z. Le z (T x) in
        let e : T (d.sum (d.product x a) d.one) ≡ d.sum (d.product (T a) (T x)) d.one = turned_equation x a d.one ex ea closed.one_is ∙ ap (d.sum (d.product (T a) (T x))) one_stays in
        back_up (turned (within d s closed laws stars (T a) (T x) (turning.is a ea) (subst P e (turned h))))

    star_within_other : (a : M) → d.is_element a → Le (s.star a) (T (s.star (T a)))
    star_within_other a ea =
        let et = turning.is a ea in
        let star = stars.star_is (T a) et in
        let P : M → Type 0 = λ z. Le z (T (s.star (T a))) in
        let e : T (d.sum (d.product (s.star (T a)) (T a)) d.one) ≡ d.sum (d.product a (T (s.star (T a)))) d.one =
        turned_equation (s.star (T a)) (T a) d.one star et closed.one_is
        ∙ (ap (λ z. d.sum (d.product z (T (s.star (T a)))) (T d.one)) (turning.back a) ∙ ap (d.sum (d.product a (T (s.star (T a))))) one_stays) in
        within d s closed laws stars a (T (s.star (T a))) ea (subst P e (turned (round_before (T a) et)))

    -- so it is the star
    other_same : (a : M) → d.is_element a → T (s.star (T a)) ≡ s.star a
    other_same a ea = antisym closed laws (other_within a (s.star a) ea (stars.star_is a ea) (round_before a ea)) (star_within_other a ea)

    least_before : (a b x : M) → d.is_element a → d.is_element b → d.is_element x → Le (d.sum (d.product x a) b) x → Le (d.product b (s.star a)) x
    least_before a b x ea eb ex h =
        let ta = turning.is a ea in
        let tb = turning.is b eb in
        let star = stars.star_is (T a) ta in
        let P : M → Type 0 = λ z. Le z (T x) in
        let once : Le (d.sum (d.product (T a) (T x)) (T b)) (T x) = subst P (turned_equation x a b ex ea eb) (turned h) in
        let there : Le (d.product (s.star (T a)) (T b)) (T x) = record {
          low = closed.product_is (s.star (T a)) (T b) star tb;
          high = turning.is x ex;
          at_most = stars.least (T a) (T b) (T x) ta tb (turning.is x ex) once.at_most;
        } in
        let e : T (d.product (s.star (T a)) (T b)) ≡ d.product b (s.star a) =
        turning.products (s.star (T a)) (T b) star tb
        ∙ (ap (λ z. d.product z (T (s.star (T a)))) (turning.back b) ∙ ap (d.product b) (other_same a ea)) in
        let Q : M → Type 0 = λ z. Le z x in
        subst Q e (back_up (turned there))

    solves_before : (a b : M) → d.is_element a → d.is_element b → Le (d.sum (d.product (d.product b (s.star a)) a) b) (d.product b (s.star a))
    solves_before a b ea eb =
        let star = stars.star_is a ea in
        let P : M → Type 0 = λ z. Le z (s.star a) in
        let turn : Le (d.product (s.star a) a) (s.star a) = subst P (star_turns a ea) (turn_below d s closed laws stars a ea) in
        least_above closed laws
        (regroup d s closed laws stars eb star ea (at_product closed laws (same closed laws eb) turn))
        (then_star d s closed laws stars ea eb)

    pub right_star_laws : RightStarLaws d s
    right_star_laws = record {
      turns = star_turns;
      solves = λ a b ea eb. (solves_before a b ea eb).at_most;
      least = λ a b x ea eb ex h.
          let low : Le (d.sum (d.product x a) b) x = record { low = closed.sum_is (d.product x a) b (closed.product_is x a ex ea) eb; high = ex; at_most = h } in
          (least_before a b x ea eb ex low).at_most;
    }

  module _ (l : ResiduatedOf M) (residuals : ResidualLaws d.is_element d.sum d.product l.left l.meet) where
    -- b / a
    abbrev pub right_of : M → M → M
    right_of a b = T (l.left (T a) (T b))

    right_is : (a b : M) → d.is_element a → d.is_element b → d.is_element (right_of a b)
    right_is a b ea eb = turning.is (l.left (T a) (T b)) (residuals.left_is (T a) (T b) (turning.is a ea) (turning.is b eb))

    into_right : {x a b : M} → d.is_element x → d.is_element a → Le (d.product x a) b → Le x (right_of a b)
    into_right {x} {a} {b} ex ea h =
        let P : M → Type 0 = λ z. Le z (T b) in
        let there : Le (T x) (l.left (T a) (T b)) = into d l closed laws residuals (turning.is a ea) (turning.is x ex) (subst P (turning.products x a ex ea) (turned h)) in
        let Q : M → Type 0 = λ z. Le z (right_of a b) in
        subst Q (turning.back x) (turned there)

    out_right : {x a b : M} → d.is_element a → d.is_element b → Le x (right_of a b) → Le (d.product x a) b
    out_right {x} {a} {b} ea eb h =
        let ta = turning.is a ea in
        let tb = turning.is b eb in
        let there : Le (d.product (T a) (T x)) (T b) = out_of d l closed laws residuals ta tb (back_up (turned h)) in
        let e : T (d.product (T a) (T x)) ≡ d.product x a =
        turning.products (T a) (T x) ta (turning.is x h.low) ∙ (ap (λ z. d.product z (T (T a))) (turning.back x) ∙ ap (d.product x) (turning.back a)) in
        let P : M → Type 0 = λ z. Le z b in
        subst P e (back_up (turned there))

    below_right : (a b : M) → d.is_element a → d.is_element b → Le (d.product (right_of a b) a) b
    below_right a b ea eb = out_right ea eb (same closed laws (right_is a b ea eb))

    -- x (a c) and (x a) c
    joined : {x a c b : M} → d.is_element x → d.is_element a → d.is_element c → Le (d.product (d.product x a) c) b → Le (d.product x (d.product a c)) b
    joined {x} {a} {c} {b} ex ea ec h = let P : M → Type 0 = λ z. Le z b in subst P (laws.product_assoc x a c ex ea ec) h

    apart : {x a c b : M} → d.is_element x → d.is_element a → d.is_element c → Le (d.product x (d.product a c)) b → Le (d.product (d.product x a) c) b
    apart {x} {a} {c} {b} ex ea ec h = let P : M → Type 0 = λ z. Le z b in subst P (sym (laws.product_assoc x a c ex ea ec)) h

    by_products : (a b c : M) → d.is_element a → d.is_element b → d.is_element c → right_of (d.product a c) b ≡ right_of a (right_of c b)
    by_products a b c ea eb ec =
        let eac = closed.product_is a c ea ec in
        let one = right_is (d.product a c) b eac eb in
        let inner = right_is c b ec eb in
        let two = right_is a (right_of c b) ea inner in
        antisym closed laws
        (into_right one ea (into_right (closed.product_is _ a one ea) ec (apart one ea ec (below_right (d.product a c) b eac eb))))
        (into_right two eac (joined two ea ec (out_right ec eb (below_right a (right_of c b) ea inner))))

    on_both : (a b c : M) → d.is_element a → d.is_element b → d.is_element c → right_of c (l.left a b) ≡ l.left a (right_of c b)
    on_both a b c ea eb ec =
        let el = residuals.left_is a b ea eb in
        let er = right_is c b ec eb in
        let one = right_is c (l.left a b) ec el in
        let two = residuals.left_is a (right_of c b) ea er in
        antisym closed laws
        (into d l closed laws residuals ea one
        (into_right (closed.product_is a _ ea one) ec
        (apart ea one ec (trans closed laws (at_product closed laws (same closed laws ea) (below_right c (l.left a b) ec el)) (below d l closed laws residuals a b ea eb)))))
        (into_right two ec
        (into d l closed laws residuals ea (closed.product_is _ c two ec)
        (joined ea two ec (out_right ec eb (below d l closed laws residuals a (right_of c b) ea er)))))

    pub right_residual_laws : RightResidualLaws d l right_of
    right_residual_laws = record {
      right_is = right_is;
      galois = λ x a b ex ea eb. (
        (λ h. let k : Le (d.product x a) b = record { low = closed.product_is x a ex ea; high = eb; at_most = h } in (into_right ex ea k).at_most),
        (λ h. let k : Le x (right_of a b) = record { low = ex; high = right_is a b ea eb; at_most = h } in (out_right ea eb k).at_most),
      );
      by_product = by_products;
      both_sides = on_both;
    }
