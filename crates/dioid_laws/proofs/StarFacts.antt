-- Identities of stars, from least solutions.
use Rattle.std.proofs.Common.{◌≡◌, sym, ◌∙◌, subst}
use Rattle.dioid.specs.DioidAxioms.{IsAtMost, IsClosed, DioidLaws, StarLaws}
use Rattle.dioid.specs.declared.algebra.Dioid.{Ghosts as DioidOf}
use Rattle.dioid.specs.declared.algebra.Kleene.{Ghosts as KleeneOf}
use Rattle.dioid_laws.specs.StarIdentities.{StarIdentities}
use Rattle.dioid_matrix.proofs.Order.{Below, same, trans, least_above, left_part, right_part, both, at_product, antisym}

module _ {M : Type 0} (d : DioidOf M) (s : KleeneOf M) (closed : IsClosed d.is_element d.zero d.one d.sum d.product)
    (laws : DioidLaws d.is_element d.zero d.one d.sum d.product) (stars : StarLaws d.is_element d.sum d.product s.star) where
  abbrev Le : M → M → Type 0
  Le a b = Below d.is_element d.sum a b

  -- a round and one are within the star
  pub round : (a : M) → d.is_element a → Le (d.sum (d.product a (s.star a)) d.one) (s.star a)
  round a e =
      let star = stars.star_is a e in
      let P : M → Type 0 = λ z. IsAtMost d.sum (d.sum (d.product a z) d.one) z in
      record {
        low = closed.sum_is _ _ (closed.product_is a (s.star a) e star) closed.one_is;
        high = star;
        at_most = subst P (laws.one_neutral_right (s.star a) star) (stars.solves a d.one e closed.one_is);
      }

  -- the star is within each x that has a round and one within it
  pub within : (a x : M) → d.is_element a → Le (d.sum (d.product a x) d.one) x → Le (s.star a) x
  within a x e h =
      let star = stars.star_is a e in
      let P : M → Type 0 = λ z. IsAtMost d.sum z x in
      record {
        low = star;
        high = h.high;
        at_most = subst P (laws.one_neutral_right (s.star a) star) (stars.least a d.one x e closed.one_is h.high h.at_most);
      }

  pub one_below : (a : M) → d.is_element a → Le d.one (s.star a)
  one_below a e = trans closed laws (right_part closed laws (closed.product_is a (s.star a) e (stars.star_is a e)) closed.one_is) (round a e)

  pub turn_below : (a : M) → d.is_element a → Le (d.product a (s.star a)) (s.star a)
  turn_below a e = trans closed laws (left_part closed laws (closed.product_is a (s.star a) e (stars.star_is a e)) closed.one_is) (round a e)

  unfolded : (a : M) → d.is_element a → d.sum d.one (d.product a (s.star a)) ≡ s.star a
  unfolded a e =
      let star = stars.star_is a e in
      let turn = closed.product_is a (s.star a) e star in
      let back : Le (s.star a) (d.sum (d.product a (s.star a)) d.one) =
      within a (d.sum (d.product a (s.star a)) d.one) e (both closed laws (at_product closed laws (same closed laws e) (round a e)) (same closed laws closed.one_is)) in
      laws.sum_commutes d.one (d.product a (s.star a)) closed.one_is turn ∙ antisym closed laws (round a e) back

  -- the product with the star is within x where a round of x and b are
  pub product_within : (a b x : M) → d.is_element a → Le (d.product a x) x → Le b x → Le (d.product (s.star a) b) x
  product_within a b x e h k = record {
    low = closed.product_is (s.star a) b (stars.star_is a e) k.low;
    high = h.high;
    at_most = stars.least a b x e k.low h.high (least_above closed laws h k).at_most;
  }

  pub squared : (a : M) → d.is_element a → d.product (s.star a) (s.star a) ≡ s.star a
  squared a e =
      let star = stars.star_is a e in
      let P : M → Type 0 = λ z. Le z (d.product (s.star a) (s.star a)) in
      let up : Le (s.star a) (d.product (s.star a) (s.star a)) = subst P (laws.one_neutral_right (s.star a) star) (at_product closed laws (same closed laws star) (one_below a e)) in
      antisym closed laws (product_within a (s.star a) (s.star a) e (turn_below a e) (same closed laws star)) up

  starred : (a : M) → d.is_element a → s.star (s.star a) ≡ s.star a
  starred a e =
      let star = stars.star_is a e in
      let Q : M → Type 0 = λ z. Le z (s.star a) in
      let down : Le (s.star (s.star a)) (s.star a) = within (s.star a) (s.star a) star (least_above closed laws (subst Q (sym (squared a e)) (same closed laws star)) (one_below a e)) in
      let P : M → Type 0 = λ z. Le z (d.product (s.star a) (s.star (s.star a))) in
      let up : Le (s.star a) (d.product (s.star a) (s.star (s.star a))) =
      subst P (laws.one_neutral_right (s.star a) star) (at_product closed laws (same closed laws star) (one_below (s.star a) star)) in
      antisym closed laws down (trans closed laws up (turn_below (s.star a) star))

  risen : (a b : M) → d.is_element a → d.is_element b → IsAtMost d.sum a b → IsAtMost d.sum (s.star a) (s.star b)
  risen a b e f h =
      let star = stars.star_is b f in
      let low : Le a b = record { low = e; high = f; at_most = h } in
      (within a (s.star b) e (least_above closed laws (trans closed laws (at_product closed laws low (same closed laws star)) (turn_below b f)) (one_below b f))).at_most

  -- a (b c) is at most x where (a b) c is, and back
  pub ungroup : {a b c x : M} → d.is_element a → d.is_element b → d.is_element c → Le (d.product (d.product a b) c) x → Le (d.product a (d.product b c)) x
  ungroup {a} {b} {c} {x} ea eb ec h = let P : M → Type 0 = λ z. Le z x in subst P (laws.product_assoc a b c ea eb ec) h

  pub regroup : {a b c x : M} → d.is_element a → d.is_element b → d.is_element c → Le (d.product a (d.product b c)) x → Le (d.product (d.product a b) c) x
  regroup {a} {b} {c} {x} ea eb ec h = let P : M → Type 0 = λ z. Le z x in subst P (sym (laws.product_assoc a b c ea eb ec)) h

  -- (a + b) c is at most x where a c and b c are
  spread_right : {a b c x : M} → d.is_element a → d.is_element b → d.is_element c → Le (d.product a c) x → Le (d.product b c) x → Le (d.product (d.sum a b) c) x
  spread_right {a} {b} {c} {x} ea eb ec h k = let P : M → Type 0 = λ z. Le z x in subst P (sym (laws.right_distributes a b c ea eb ec)) (least_above closed laws h k)

  -- a (1 + b x) is at most x where a and (a b) x are
  around : (a b : M) → d.is_element a → d.is_element b → (x : M) → Le a x → Le (d.product (d.product a b) x) x → Le (d.product a (d.sum d.one (d.product b x))) x
  around a b ea eb x h k =
      let P : M → Type 0 = λ z. Le z x in
      let first : Le (d.product a d.one) x = subst P (sym (laws.one_neutral_right a ea)) h in
      subst P (sym (laws.left_distributes a d.one (d.product b x) ea closed.one_is (closed.product_is b x eb h.high))) (least_above closed laws first (ungroup ea eb h.high k))

  -- b is at most b times a star
  pub then_star : {a b : M} → d.is_element a → d.is_element b → Le b (d.product b (s.star a))
  then_star {a} {b} ea eb =
      let P : M → Type 0 = λ z. Le z (d.product b (s.star a)) in
      subst P (laws.one_neutral_right b eb) (at_product closed laws (same closed laws eb) (one_below a ea))

  -- b is at most a star times b
  pub star_then : {a b : M} → d.is_element a → d.is_element b → Le b (d.product (s.star a) b)
  star_then {a} {b} ea eb =
      let P : M → Type 0 = λ z. Le z (d.product (s.star a) b) in
      subst P (laws.one_neutral_left b eb) (at_product closed laws (one_below a ea) (same closed laws eb))

  -- a round of the star is one of its values
  one_more : {a b : M} → d.is_element a → d.is_element b → Le (d.product a (d.product (s.star a) b)) (d.product (s.star a) b)
  one_more {a} {b} ea eb = ungroup ea (stars.star_is a ea) eb (at_product closed laws (turn_below a ea) (same closed laws eb))

  forth : (a b : M) → d.is_element a → d.is_element b → Le (d.product (s.star (d.product a b)) a) (d.product a (s.star (d.product b a)))
  forth a b ea eb =
      let eba = closed.product_is b a eb ea in
      let star = stars.star_is (d.product b a) eba in
      product_within (d.product a b) a (d.product a (s.star (d.product b a))) (closed.product_is a b ea eb)
      (regroup ea eb (closed.product_is a (s.star (d.product b a)) ea star)
      (at_product closed laws (same closed laws ea) (ungroup eb ea star (turn_below (d.product b a) eba))))
      (then_star eba ea)

  -- the star of b a is at most one and b, rounds of a b, and a
  loops_within : (a b : M) → d.is_element a → d.is_element b → Le (s.star (d.product b a)) (d.sum d.one (d.product b (d.product (s.star (d.product a b)) a)))
  loops_within a b ea eb =
      let eab = closed.product_is a b ea eb in
      let eba = closed.product_is b a eb ea in
      let loops = closed.product_is (s.star (d.product a b)) a (stars.star_is (d.product a b) eab) ea in
      let rest = closed.product_is b (d.product (s.star (d.product a b)) a) eb loops in
      let all : Le (d.product b (d.product (s.star (d.product a b)) a)) (d.sum d.one (d.product b (d.product (s.star (d.product a b)) a))) = right_part closed laws closed.one_is rest in
      within (d.product b a) (d.sum d.one (d.product b (d.product (s.star (d.product a b)) a))) eba
      (least_above closed laws
      (regroup eb ea (closed.sum_is d.one _ closed.one_is rest)
      (trans closed laws
      (at_product closed laws (same closed laws eb) (around a b ea eb (d.product (s.star (d.product a b)) a) (star_then eab ea) (one_more eab ea)))
      all))
      (left_part closed laws closed.one_is rest))

  slid : (a b : M) → d.is_element a → d.is_element b → d.product a (s.star (d.product b a)) ≡ d.product (s.star (d.product a b)) a
  slid a b ea eb =
      let eab = closed.product_is a b ea eb in
      let back : Le (d.product a (s.star (d.product b a))) (d.product (s.star (d.product a b)) a) =
      trans closed laws (at_product closed laws (same closed laws ea) (loops_within a b ea eb)) (around a b ea eb (d.product (s.star (d.product a b)) a) (star_then eab ea) (one_more eab ea)) in
      antisym closed laws back (forth a b ea eb)

  starred_sum : (a b : M) → d.is_element a → d.is_element b → s.star (d.sum a b) ≡ d.product (s.star a) (s.star (d.product b (s.star a)))
  starred_sum a b ea eb =
      let ec = closed.sum_is a b ea eb in
      let star = stars.star_is a ea in
      let eba = closed.product_is b (s.star a) eb star in
      let out = stars.star_is (d.product b (s.star a)) eba in
      let all = stars.star_is (d.sum a b) ec in
      let both_ways = closed.product_is (s.star a) (s.star (d.product b (s.star a))) star out in
      let a_round : Le (d.product a (s.star (d.sum a b))) (s.star (d.sum a b)) =
      trans closed laws (at_product closed laws (left_part closed laws ea eb) (same closed laws all)) (turn_below (d.sum a b) ec) in
      let b_round : Le (d.product b (s.star (d.sum a b))) (s.star (d.sum a b)) =
      trans closed laws (at_product closed laws (right_part closed laws ea eb) (same closed laws all)) (turn_below (d.sum a b) ec) in
      let down : Le (s.star (d.sum a b)) (d.product (s.star a) (s.star (d.product b (s.star a)))) =
      within (d.sum a b) (d.product (s.star a) (s.star (d.product b (s.star a)))) ec
      (least_above closed laws
      (spread_right ea eb both_ways
      (one_more ea out)
      (trans closed laws (ungroup eb star out (turn_below (d.product b (s.star a)) eba)) (star_then ea out)))
      (trans closed laws (one_below (d.product b (s.star a)) eba) (star_then ea out))) in
      let up : Le (d.product (s.star a) (s.star (d.product b (s.star a)))) (s.star (d.sum a b)) =
      product_within a (s.star (d.product b (s.star a))) (s.star (d.sum a b)) ea a_round
      (within (d.product b (s.star a)) (s.star (d.sum a b)) eba
      (least_above closed laws
      (regroup eb star all (trans closed laws (at_product closed laws (same closed laws eb) (product_within a (s.star (d.sum a b)) (s.star (d.sum a b)) ea a_round (same closed laws all))) b_round))
      (one_below (d.sum a b) ec))) in
      antisym closed laws down up

  pub star_identities : StarIdentities d s
  star_identities = record { unfolds = unfolded; idempotent = squared; twice = starred; rises = risen; slides = slid; of_sum = starred_sum }
