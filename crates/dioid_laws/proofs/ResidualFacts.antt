-- Identities of residuals, from the Galois law.
use Rattle.std.proofs.Common.{◌≡◌, sym, subst}
use Rattle.dioid.specs.DioidAxioms.{IsClosed, DioidLaws, ResidualLaws}
use Rattle.dioid.specs.declared.algebra.Dioid.{Ghosts as DioidOf}
use Rattle.dioid.specs.declared.algebra.Residuated.{Ghosts as ResiduatedOf}
use Rattle.dioid_laws.specs.ResidualIdentities.{ResidualIdentities}
use Rattle.dioid_matrix.proofs.Order.{Below, same, equal, trans, least_above, left_part, right_part, at_product, antisym}

module _ {M : Type 0} (d : DioidOf M) (l : ResiduatedOf M) (closed : IsClosed d.is_element d.zero d.one d.sum d.product)
    (laws : DioidLaws d.is_element d.zero d.one d.sum d.product) (residuals : ResidualLaws d.is_element d.sum d.product l.left l.meet) where
  abbrev Le : M → M → Type 0
  Le a b = Below d.is_element d.sum a b

  -- ---- the Galois law and the meet, between elements

  -- a x is at most b: so x is at most a\b
  pub into : {a x b : M} → d.is_element a → d.is_element x → Le (d.product a x) b → Le x (l.left a b)
  into {a} {x} {b} ea ex h = record {
    low = ex;
    high = residuals.left_is a b ea h.high;
    at_most = (residuals.galois a x b ea ex h.high).0 h.at_most;
  }

  pub out_of : {a x b : M} → d.is_element a → d.is_element b → Le x (l.left a b) → Le (d.product a x) b
  out_of {a} {x} {b} ea eb h = record {
    low = closed.product_is a x ea h.low;
    high = eb;
    at_most = (residuals.galois a x b ea h.low eb).1 h.at_most;
  }

  pub in_meet : {x a b : M} → Le x a → Le x b → Le x (l.meet a b)
  in_meet {x} {a} {b} h k = record {
    low = h.low;
    high = residuals.meet_is a b h.high k.high;
    at_most = (residuals.meet_greatest x a b h.low h.high k.high).1 (h.at_most, k.at_most);
  }

  pub meet_left : {a b : M} → d.is_element a → d.is_element b → Le (l.meet a b) a
  meet_left {a} {b} ea eb = let e = residuals.meet_is a b ea eb in record {
    low = e;
    high = ea;
    at_most = ((residuals.meet_greatest (l.meet a b) a b e ea eb).0 (laws.sum_idempotent (l.meet a b) e)).0;
  }

  pub meet_right : {a b : M} → d.is_element a → d.is_element b → Le (l.meet a b) b
  meet_right {a} {b} ea eb = let e = residuals.meet_is a b ea eb in record {
    low = e;
    high = eb;
    at_most = ((residuals.meet_greatest (l.meet a b) a b e ea eb).0 (laws.sum_idempotent (l.meet a b) e)).1;
  }

  -- ---- the identities

  pub below : (a b : M) → d.is_element a → d.is_element b → Le (d.product a (l.left a b)) b
  below a b ea eb = out_of ea eb (same closed laws (residuals.left_is a b ea eb))

  above : (a b : M) → d.is_element a → d.is_element b → Le b (l.left a (d.product a b))
  above a b ea eb = into ea eb (same closed laws (closed.product_is a b ea eb))

  risen : {a b c : M} → d.is_element a → Le b c → Le (l.left a b) (l.left a c)
  risen {a} {b} {c} ea h = into ea (residuals.left_is a b ea h.low) (trans closed laws (below a b ea h.low) h)

  fallen : {a b c : M} → d.is_element c → Le a b → Le (l.left b c) (l.left a c)
  fallen {a} {b} {c} ec h =
      let e = residuals.left_is b c h.high ec in
      into h.low e (trans closed laws (at_product closed laws h (same closed laws e)) (below b c h.high ec))

  divided_again : (a b : M) → d.is_element a → d.is_element b → l.left a (d.product a (l.left a b)) ≡ l.left a b
  divided_again a b ea eb = antisym closed laws (risen ea (below a b ea eb)) (above a (l.left a b) ea (residuals.left_is a b ea eb))

  multiplied_again : (a b : M) → d.is_element a → d.is_element b → d.product a (l.left a (d.product a b)) ≡ d.product a b
  multiplied_again a b ea eb = antisym closed laws (below a (d.product a b) ea (closed.product_is a b ea eb)) (at_product closed laws (same closed laws ea) (above a b ea eb))

  by_unit : (b : M) → d.is_element b → l.left d.one b ≡ b
  by_unit b eb =
      let e = residuals.left_is d.one b closed.one_is eb in
      let P : M → Type 0 = λ z. Le z b in
      antisym closed laws (subst P (laws.one_neutral_left (l.left d.one b) e) (below d.one b closed.one_is eb))
      (into closed.one_is eb (equal closed laws (closed.product_is d.one b closed.one_is eb) (laws.one_neutral_left b eb)))

  by_products : (a b c : M) → d.is_element a → d.is_element b → d.is_element c → l.left (d.product a b) c ≡ l.left b (l.left a c)
  by_products a b c ea eb ec =
      let eab = closed.product_is a b ea eb in
      let one = residuals.left_is (d.product a b) c eab ec in
      let two = residuals.left_is b (l.left a c) eb (residuals.left_is a c ea ec) in
      let P : M → Type 0 = λ z. Le z c in
      antisym closed laws
      (into eb one (into ea (closed.product_is b _ eb one) (subst P (laws.product_assoc a b _ ea eb one) (below (d.product a b) c eab ec))))
      (into eab two (subst P (sym (laws.product_assoc a b _ ea eb two)) (out_of ea ec (below b (l.left a c) eb (residuals.left_is a c ea ec)))))

  by_sums : (a b c : M) → d.is_element a → d.is_element b → d.is_element c → l.left (d.sum a b) c ≡ l.meet (l.left a c) (l.left b c)
  by_sums a b c ea eb ec =
      let la = residuals.left_is a c ea ec in
      let lb = residuals.left_is b c eb ec in
      let m = residuals.meet_is (l.left a c) (l.left b c) la lb in
      let P : M → Type 0 = λ z. Le z c in
      antisym closed laws
      (in_meet (fallen ec (left_part closed laws ea eb)) (fallen ec (right_part closed laws ea eb)))
      (into (closed.sum_is a b ea eb) m (subst P (sym (laws.right_distributes a b _ ea eb m)) (least_above closed laws (out_of ea ec (meet_left la lb)) (out_of eb ec (meet_right la lb)))))

  of_meets : (a b c : M) → d.is_element a → d.is_element b → d.is_element c → l.left a (l.meet b c) ≡ l.meet (l.left a b) (l.left a c)
  of_meets a b c ea eb ec =
      let lb = residuals.left_is a b ea eb in
      let lc = residuals.left_is a c ea ec in
      antisym closed laws
      (in_meet (risen ea (meet_left eb ec)) (risen ea (meet_right eb ec)))
      (into ea (residuals.meet_is (l.left a b) (l.left a c) lb lc) (in_meet (out_of ea eb (meet_left lb lc)) (out_of ea ec (meet_right lb lc))))

  pub residual_identities : ResidualIdentities d l
  residual_identities = record {
    within = λ a b ea eb. (below a b ea eb).at_most;
    around = λ a b ea eb. (above a b ea eb).at_most;
    divided = divided_again;
    multiplied = multiplied_again;
    rises = λ a b c ea eb ec h. let k : Le b c = record { low = eb; high = ec; at_most = h } in (risen ea k).at_most;
    falls = λ a b c ea eb ec h. let k : Le a b = record { low = ea; high = eb; at_most = h } in (fallen ec k).at_most;
    by_one = by_unit;
    by_product = by_products;
    by_sum = by_sums;
    of_meet = of_meets;
  }
