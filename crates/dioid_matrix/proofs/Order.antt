-- The order of a dioid, between elements.
use Rattle.std.proofs.Common.{◌≡◌, ℕ, zero, suc, ◌<◌, ap, sym, ◌∙◌, arith, subst, ⊎_elim}
use Rattle.std.proofs.Math.Nat.{eq-or-lt_of_le}
use Rattle.dioid.specs.DioidAxioms.{IsClosed, DioidLaws}
use Rattle.dioid.specs.declared.algebra.Dioid.{Ghosts as DioidOf}
use Rattle.dioid_matrix.specs.Sums.{total_of_first}

-- a and b are elements, and a is at most b
pub record Below {M : Type 0} (is_element : M → Type 0) (sum : M → M → M) (a b : M) : Type 0 where
  pub low : is_element a
  pub high : is_element b
  pub at_most : sum a b ≡ b

module _ {M : Type 0} {is_element : M → Type 0} {none one : M} {sum product : M → M → M} (closed : IsClosed is_element none one sum product) (laws : DioidLaws is_element none one sum product) where
  pub same : {a : M} → is_element a → Below is_element sum a a
  same {a} e = record { low = e; high = e; at_most = laws.sum_idempotent a e }

  -- equal elements
  pub equal : {a b : M} → is_element a → a ≡ b → Below is_element sum a b
  equal {a} {b} e h = let P : M → Type 0 = λ z. Below is_element sum a z in subst P h (same e)

  pub trans : {a b c : M} → Below is_element sum a b → Below is_element sum b c → Below is_element sum a c
  trans {a} {b} {c} h k = record {
    low = h.low;
    high = k.high;
    at_most = ap (sum a) (sym k.at_most) ∙ sym (laws.sum_assoc a b c h.low h.high k.high) ∙ ap (λ z. sum z c) h.at_most ∙ k.at_most;
  }

  pub least_above : {a b c : M} → Below is_element sum a c → Below is_element sum b c → Below is_element sum (sum a b) c
  least_above {a} {b} {c} h k = record {
    low = closed.sum_is a b h.low k.low;
    high = h.high;
    at_most = laws.sum_assoc a b c h.low k.low h.high ∙ ap (sum a) k.at_most ∙ h.at_most;
  }

  pub left_part : {a b : M} → is_element a → is_element b → Below is_element sum a (sum a b)
  left_part {a} {b} ea eb = record {
    low = ea;
    high = closed.sum_is a b ea eb;
    at_most = sym (laws.sum_assoc a a b ea ea eb) ∙ ap (λ z. sum z b) (laws.sum_idempotent a ea);
  }

  pub right_part : {a b : M} → is_element a → is_element b → Below is_element sum b (sum a b)
  right_part {a} {b} ea eb = record {
    low = eb;
    high = closed.sum_is a b ea eb;
    at_most = ap (sum b) (laws.sum_commutes a b ea eb) ∙ sym (laws.sum_assoc b b a eb eb ea) ∙ ap (λ z. sum z a) (laws.sum_idempotent b eb) ∙ laws.sum_commutes b a eb ea;
  }

  pub both : {a b c d : M} → Below is_element sum a b → Below is_element sum c d → Below is_element sum (sum a c) (sum b d)
  both h k = least_above (trans h (left_part h.high k.high)) (trans k (right_part h.high k.high))

  pub at_product : {a b c d : M} → Below is_element sum a b → Below is_element sum c d → Below is_element sum (product a c) (product b d)
  at_product {a} {b} {c} {d} h k = trans {b = product a d}
      (record {
        low = closed.product_is a c h.low k.low;
        high = closed.product_is a d h.low k.high;
        at_most = sym (laws.left_distributes a c d h.low k.low k.high) ∙ ap (product a) k.at_most;
      })
      (record {
        low = closed.product_is a d h.low k.high;
        high = closed.product_is b d h.high k.high;
        at_most = sym (laws.right_distributes a b d h.low h.high k.high) ∙ ap (λ z. product z d) h.at_most;
      })

  pub antisym : {a b : M} → Below is_element sum a b → Below is_element sum b a → a ≡ b
  antisym {a} {b} h k = sym k.at_most ∙ laws.sum_commutes b a h.high h.low ∙ h.at_most

-- ---- sums

module _ {M : Type 0} (d : DioidOf M) (closed : IsClosed d.is_element d.zero d.one d.sum d.product) (laws : DioidLaws d.is_element d.zero d.one d.sum d.product) where
  pub total_is : (f : ℕ → M) (n : ℕ) → ((i : ℕ) → d.is_element (f i)) → d.is_element (total_of_first d f n)
  total_is f zero e = closed.zero_is
  total_is f (suc n) e = closed.sum_is _ _ (total_is f n e) (e n)

  pub term_below : (f : ℕ → M) (n j : ℕ) → ((i : ℕ) → d.is_element (f i)) → j < n → Below d.is_element d.sum (f j) (total_of_first d f n)
  term_below f zero j e h = absurd (omega arith)
  term_below f (suc n) j e h = ⊎_elim
      (λ q. let P : ℕ → Type 0 = λ k. Below d.is_element d.sum (f k) (d.sum (total_of_first d f n) (f n)) in subst P (sym q) (right_part closed laws (total_is f n e) (e n)))
      (λ l. trans closed laws (term_below f n j e l) (left_part closed laws (total_is f n e) (e n)))
      (eq-or-lt_of_le {n = j} {m = n} (omega arith))

  pub total_below : (f : ℕ → M) (n : ℕ) (c : M) → d.is_element c → ((j : ℕ) → j < n → Below d.is_element d.sum (f j) c) → Below d.is_element d.sum (total_of_first d f n) c
  total_below f zero c e h = record { low = closed.zero_is; high = e; at_most = laws.zero_neutral c e }
  total_below f (suc n) c e h = least_above closed laws (total_below f n c e (λ j k. h j (omega arith))) (h n (omega arith))
