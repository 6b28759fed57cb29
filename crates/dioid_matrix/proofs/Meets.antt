-- One more row of a residual.
use Rattle.std.proofs.Common.{◌≡◌, ℕ, zero, suc, ◌<◌, ◌≤◌, ◌+◌, refl, ap, sym, ◌∙◌, arith, subst, add-one, ◌*◌, ◌/◌, ◌%◌, List}
use Rattle.dioid.specs.declared.algebra.Dioid.{Ghosts as DioidOf}
use Rattle.dioid.specs.declared.algebra.Residuated.{Ghosts as ResiduatedOf}
use Rattle.dioid_matrix.specs.Residuals.{meet_below, lefts, LeftMeetFits, RowFits, residual_of, ResidueFits, IsResidual}
use Rattle.dioid.specs.DioidAxioms.{IsAtMost, IsClosed, DioidLaws, ResidualLaws}
use Rattle.dioid_matrix.specs.Tables.{Table, table_of, entry_of, AreElements}
use Rattle.dioid_matrix.proofs.Greatest.{residuals_are_greatest}
use Rattle.dioid_matrix.proofs.Places.{entries_held, fits_held}
use Rattle.dioid_matrix.proofs.Filled.{HoldsEach}

meet_suc : {M : Type 0} (l : ResiduatedOf M) (f : ℕ → M) (i : ℕ) → 0 < i → meet_below l f (suc i) ≡ l.meet (meet_below l f i) (f i)
meet_suc l f zero h = absurd (omega arith)
meet_suc l f (suc i) h = refl

module _ {M : Type 0} (d : DioidOf M) (l : ResiduatedOf M) (a b : ℕ → M) where
  pub first_meet : (x y p : M) → x ≡ a 0 → y ≡ b 0 → p ≡ l.left x y → p ≡ meet_below l (lefts d l a b) 1
  first_meet x y p hx hy hp = rw (hx, hy) at hp

  pub meet_more : (i : ℕ) (before x y p after : M) → 0 < i → before ≡ meet_below l (lefts d l a b) i → x ≡ a i → y ≡ b i
      → p ≡ l.left x y → after ≡ l.meet before p → after ≡ meet_below l (lefts d l a b) (i + 1)
  meet_more i before x y p after hi hb hx hy hp ha = rw add-one
      (ha ∙ ap (λ z. l.meet z p) hb ∙ ap (l.meet (meet_below l (lefts d l a b) i)) (hp ∙ ap (λ z. l.left z y) hx ∙ ap (l.left (a i)) hy) ∙ sym (meet_suc l (lefts d l a b) i hi))

  pub first_fits : (x y : M) → x ≡ a 0 → y ≡ b 0 → l.left_fits x y → RowFits d l a b 0
  first_fits x y hx hy h = let fits = rw (hx, hy) at h in (fits, λ none. absurd (omega (arith, none)))

  pub first_misfits : (x y : M) → x ≡ a 0 → y ≡ b 0 → ¬ l.left_fits x y → ¬ RowFits d l a b 0
  first_misfits x y hx hy h f = let misfits = rw (hx, hy) at h in misfits f.0

  pub row_fits : (i : ℕ) (before x y p : M) → before ≡ meet_below l (lefts d l a b) i → x ≡ a i → y ≡ b i → p ≡ l.left x y → l.left_fits x y → l.meet_fits before p → RowFits d l a b i
  row_fits i before x y p hb hx hy hp fits fit =
      let pp : p ≡ l.left (a i) (b i) = hp ∙ ap (λ z. l.left z y) hx ∙ ap (l.left (a i)) hy in (
        subst (λ (z : M). l.left_fits z (b i)) hx (subst (λ (z : M). l.left_fits x z) hy fits),
        λ _. subst (λ (z : M). l.meet_fits z (l.left (a i) (b i))) hb (subst (λ (z : M). l.meet_fits before z) pp fit),
      )

  pub row_misfits : (i : ℕ) (before x y : M) → 0 < i → before ≡ meet_below l (lefts d l a b) i → x ≡ a i → y ≡ b i → ¬ LeftMeetFits l before x y → ¬ RowFits d l a b i
  row_misfits i before x y hi hb hx hy h f = let misfits = rw (hb, hx, hy) at h in misfits (f.0, f.1 hi)

module _ {M : Type 0} (d : DioidOf M) (l : ResiduatedOf M) (closed : IsClosed d.is_element d.zero d.one d.sum d.product)
    (laws : DioidLaws d.is_element d.zero d.one d.sum d.product) (residuals : ResidualLaws d.is_element d.sum d.product l.left l.meet) (a b : Table M) where
  -- the list of the entries of the residual
  pub residual_table : a.rows ≡ b.rows → 1 ≤ a.rows → AreElements d a.entries → AreElements d b.entries → (xs : List M) →
      HoldsEach d (a.columns * b.columns)
      (λ place. ResidueFits d l a.rows (entry_of d a) (entry_of d b) (place / b.columns) (place % b.columns))
      (λ place. residual_of d l a.rows (entry_of d a) (entry_of d b) (place / b.columns) (place % b.columns)) xs
      → IsResidual d l a b (table_of a.columns b.columns xs)
  residual_table goes some ea eb xs h =
      let fits = λ (j k : ℕ). ResidueFits d l a.rows (entry_of d a) (entry_of d b) j k in
      let value : ℕ → ℕ → M = residual_of d l a.rows (entry_of d a) (entry_of d b) in
      let is : (j k : ℕ) → j < a.columns → k < b.columns → entry_of d (table_of a.columns b.columns xs) j k ≡ value j k = entries_held d a.columns b.columns fits value xs h in
      let greatest = residuals_are_greatest d l closed laws residuals a.rows a.columns b.columns (entry_of d a) (entry_of d b) some (λ i j. ea (i * a.columns + j)) (λ i k. eb (i * b.columns + k)) in
      record {
        goes = goes;
        rows = refl;
        columns = refl;
        entries = is;
        fit = fits_held d a.columns b.columns fits value xs h;
        greatest = λ x ex. (
          (λ p j k hj hk. subst (λ (z : M). IsAtMost d.sum (x j k) z) (sym (is j k hj hk)) ((greatest x ex).0 p j k hj hk)),
          (λ p. (greatest x ex).1 (λ j k hj hk. subst (λ (z : M). IsAtMost d.sum (x j k) z) (is j k hj hk) (p j k hj hk))),
        );
      }
