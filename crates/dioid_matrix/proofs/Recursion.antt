-- The tables of the recursion, one after the other.
use Rattle.std.proofs.Common.{◌≡◌, ℕ, zero, suc, ◌<◌, ◌≤◌, ◌*◌, ◌+◌, ◌⊎◌, inl, inr, cond, eqb, refl, ap, sym, ◌∙◌, arith, subst, List, length, add-one, below_more, ⊎_elim, Result, Ok, Err, Vec}
use Rattle.dioid.specs.DioidAxioms.{IsAtMost, IsClosed, DioidLaws, StarLaws}
use Rattle.dioid.specs.declared.algebra.Dioid.{Ghosts as DioidOf}
use Rattle.dioid.specs.declared.algebra.Kleene.{Ghosts as KleeneOf}
use Rattle.dioid_matrix.specs.EntryLists.{AnswersList, IsAfterPass, PassRefused, IsAfterLastPass, LastRefused}
use Rattle.dioid_matrix.specs.Products.{AnswersProduct}
use Rattle.dioid_matrix.specs.MatrixStars.{steps_of, star_of, IsLeastSolution}
use Rattle.dioid_matrix.specs.Sums.{total_of_first, dot}
use Rattle.dioid_matrix.specs.Tables.{Table, table_of, entry_of, AreElements, IsFirstMisfit}
use Rattle.dioid_matrix.specs.Turns.{LoopFits, WayFits, loop_of, EntryFits, StepsFit, IsStar, StarRefused, AnswersSolve}
use Rattle.dioid_matrix.specs.declared.refusals.MatrixRefused.{MatrixRefused}
use Rattle.dioid_matrix.specs.declared.refusals.MatrixRefused.TheVariants.{Count, Shape, Range, OutOfMemory}
use Rattle.dioid_matrix.proofs.Least.{stars_are_least}

-- ---- equal columns

total_same : {M : Type 0} (d : DioidOf M) (f g : ℕ → M) (n : ℕ) → ((j : ℕ) → j < n → f j ≡ g j) → total_of_first d f n ≡ total_of_first d g n
total_same d f g zero h = refl
total_same d f g (suc n) h = ap (λ z. d.sum z (f n)) (total_same d f g n (λ j l. h j (omega arith))) ∙ ap (d.sum (total_of_first d g n)) (h n (omega arith))

least_same : {M : Type 0} (d : DioidOf M) (n : ℕ) (a : ℕ → ℕ → M) (b x y : ℕ → M) → ((i : ℕ) → i < n → x i ≡ y i) → IsLeastSolution d n a b x → IsLeastSolution d n a b y
least_same {M} d n a b x y e h =
    let row : (i : ℕ) → dot d n (a i) x ≡ dot d n (a i) y = λ i. total_same d (λ j. d.product (a i j) (x j)) (λ j. d.product (a i j) (y j)) n (λ j hj. ap (d.product (a i j)) (e j hj)) in
    record {
      element = λ i hi. subst (λ (z : M). d.is_element z) (e i hi) (h.element i hi);
      solves = λ i hi. subst (λ (z : M). IsAtMost d.sum (d.sum (dot d n (a i) y) (b i)) z) (e i hi) (subst (λ (z : M). IsAtMost d.sum (d.sum z (b i)) (x i)) (row i) (h.solves i hi));
      equal = λ i hi. ap (λ z. d.sum z (b i)) (sym (row i)) ∙ h.equal i hi ∙ e i hi;
      least = λ z ez hz i hi. subst (λ (w : M). IsAtMost d.sum w (z i)) (e i hi) (h.least z ez hz i hi);
    }

before_row : (i row j column size : ℕ) → (i < row) ⊎ ((i ≡ row) × (j < column)) → row < size → i < size
before_row i row j column size order h = ⊎_elim (λ l. omega arith) (λ p. omega (arith, p.0)) order

four : {M : Type 0} (P : M → M → M → M → Type 0) {a b c d w x y z : M} → a ≡ w → b ≡ x → c ≡ y → d ≡ z → P a b c d → P w x y z
four {M} P {a} {b} {c} {d} {w} {x} {y} {z} ea eb ec ed h =
    subst (λ (v : M). P v x y z) ea (subst (λ (v : M). P a v y z) eb (subst (λ (v : M). P a b v z) ec (subst (λ (v : M). P a b c v) ed h)))

misfit_same : (size : ℕ) (fits other : ℕ → ℕ → Type 0) (row column : ℕ) → ((i j : ℕ) → i < size → j < size → fits i j → other i j)
    → ((i j : ℕ) → i < size → j < size → other i j → fits i j) → IsFirstMisfit size size fits row column → IsFirstMisfit size size other row column
misfit_same size fits other row column to from h = record {
  in_rows = h.in_rows;
  in_columns = h.in_columns;
  before = λ i j hj order. to i j (before_row i row j column size order h.in_rows) hj (h.before i j hj order);
  here = λ f. h.here (from row column h.in_rows h.in_columns f);
}

module _ {M : Type 0} (d : DioidOf M) (s : KleeneOf M) (size : ℕ) (xs : List M) where
  -- the old entry, the way in, the pivot and the way out fit
  abbrev TurnFits : M → M → M → M → Type 0
  TurnFits old into around out = LoopFits d s around out × WayFits d old into (loop_of d s around out)

  -- the table after the first k steps
  pub record IsAfter (k : ℕ) (t : List M) : Type 0 where
    pub entries : (i j : ℕ) → i < size → j < size → entry_of d (table_of size size t) i j ≡ steps_of d s (entry_of d (table_of size size xs)) k i j
    pub fit : StepsFit d s size (entry_of d (table_of size size xs)) k

  -- what is said of the table's entries is said of the recursion
  on_steps : (P : M → M → M → M → Type 0) (k i j : ℕ) (t : List M) → IsAfter k t → k < size → i < size → j < size
      → P (entry_of d (table_of size size t) i j) (entry_of d (table_of size size t) i k) (entry_of d (table_of size size t) k k) (entry_of d (table_of size size t) k j)
      → P (steps_of d s (entry_of d (table_of size size xs)) k i j) (steps_of d s (entry_of d (table_of size size xs)) k i k)
      (steps_of d s (entry_of d (table_of size size xs)) k k k) (steps_of d s (entry_of d (table_of size size xs)) k k j)
  on_steps P k i j t h hk hi hj p = four P (h.entries i j hi hj) (h.entries i k hi hk) (h.entries k k hk hk) (h.entries k j hk hj) p

  pub after_pass : (k : ℕ) (t u : List M) → k < size → IsAfter k t → IsAfterPass d s size (entry_of d (table_of size size t)) k (table_of size size u) → IsAfter (k + 1) u
  after_pass k t u hk h p = record {
    entries = λ i j hi hj. rw add-one (on_steps (λ w x y z. entry_of d (table_of size size u) i j ≡ d.sum w (d.product x (d.product (s.star y) z))) k i j t h hk hi hj (p.entries i j hi hj));
    fit = λ m i j hm hi hj. below_more (λ m. (i j : ℕ) → i < size → j < size → EntryFits d s (steps_of d s (entry_of d (table_of size size xs)) m) m i j) k (λ m l i j hi hj. h.fit m i j l hi hj)
        (λ i j hi hj. on_steps (λ w x y z. TurnFits w x y z) k i j t h hk hi hj (p.fit i j hi hj)) m hm i j hi hj;
  }

  pub refused_pass : (k : ℕ) (t : List M) → k < size → IsAfter k t → (e : MatrixRefused) → PassRefused d s size (entry_of d (table_of size size t)) k e → StarRefused d s (table_of size size xs) e
  refused_pass k t hk h (Count wanted given) p = p
  refused_pass k t hk h (Shape columns rows) p = absurd p
  refused_pass k t hk h (Range step row column) p = (
    refl,
    inl (
      k,
      hk,
      p.0,
      h.fit,
      misfit_same size _ _ row column
          (λ i j hi hj f. on_steps (λ w x y z. TurnFits w x y z) k i j t h hk hi hj f)
          (λ i j hi hj f. four (λ w x y z. TurnFits w x y z) (sym (h.entries i j hi hj)) (sym (h.entries i k hi hk)) (sym (h.entries k k hk hk)) (sym (h.entries k j hk hj)) f)
          p.1,
    ),
  )
  refused_pass k t hk h OutOfMemory p = p

  pub refused_last : (t : List M) → IsAfter size t → (e : MatrixRefused) → LastRefused d size (entry_of d (table_of size size t)) e → StarRefused d s (table_of size size xs) e
  refused_last t h (Count wanted given) p = p
  refused_last t h (Shape columns rows) p = absurd p
  refused_last t h (Range step row column) p = (
    refl,
    inr (
      p.0,
      h.fit,
      misfit_same size _ _ row column
          (λ i j hi hj f q. subst (λ (z : M). d.sum_fits z d.one) (h.entries i j hi hj) (f q))
          (λ i j hi hj f q. subst (λ (z : M). d.sum_fits z d.one) (sym (h.entries i j hi hj)) (f q))
          p.1,
    ),
  )
  refused_last t h OutOfMemory p = p

  module _ (closed : IsClosed d.is_element d.zero d.one d.sum d.product) (laws : DioidLaws d.is_element d.zero d.one d.sum d.product) (stars : StarLaws d.is_element d.sum d.product s.star) where
    star_done : 1 ≤ size → size ≤ 4096 → AreElements d xs → (t u : List M) → IsAfter size t → length u ≡ size * size → AreElements d u
        → IsAfterLastPass d size (entry_of d (table_of size size t)) (table_of size size u) → IsStar d s (table_of size size xs) (table_of size size u)
    star_done some few known t u h len are l =
        let a : ℕ → ℕ → M = entry_of d (table_of size size xs) in
        let r : ℕ → ℕ → M = entry_of d (table_of size size u) in
        let is : (i j : ℕ) → i < size → j < size → r i j ≡ star_of d s size a i j = λ i j hi hj. l.entries i j hi hj ∙ ap (λ z. cond (eqb i j) (d.sum z d.one) z) (h.entries i j hi hj) in
        record {
          square = refl;
          rows = refl;
          columns = refl;
          table = record { some_rows = some; few_rows = few; some_columns = some; few_columns = few; filled = len; elements = are };
          entries = is;
          least = λ b eb. least_same d size a b (λ i. dot d size (star_of d s size a i) b) (λ i. dot d size (r i) b)
              (λ i hi. total_same d (λ j. d.product (star_of d s size a i j) (b j)) (λ j. d.product (r i j) (b j)) size (λ j hj. ap (λ z. d.product z (b j)) (sym (is i j hi hj))))
              (stars_are_least d s closed laws stars size a b (λ i j. known (i * size + j)) eb).1;
          steps_fit = h.fit;
          last_fits = λ i j hi hj q. subst (λ (z : M). d.sum_fits z d.one) (h.entries i j hi hj) (l.fit i j hi hj q);
        }

    pub answers_star : {Z : Type 0} → 1 ≤ size → size ≤ 4096 → AreElements d xs → (t : List M) → IsAfter size t → (r : Result (Vec M Z) MatrixRefused)
        → AnswersList d size size (IsAfterLastPass d size (entry_of d (table_of size size t))) (LastRefused d size (entry_of d (table_of size size t))) r
        → AnswersList d size size (IsStar d s (table_of size size xs)) (StarRefused d s (table_of size size xs)) r
    answers_star some few known t h (Ok v) l = (l.0, l.1, star_done some few known t v.items h l.0 l.1 l.2)
    answers_star some few known t h (Err e) l = refused_last t h e l

module _ {M : Type 0} (d : DioidOf M) (s : KleeneOf M) (a b r : Table M) where
  -- the star by b
  pub answers_solve : IsStar d s a r → AreElements d b.entries → (x : Result (Table M) MatrixRefused) → AnswersProduct d r b x → AnswersSolve d s a b x
  answers_solve star known (Ok x) p = record {
    star = r;
    is_star = star;
    product = p;
    least = λ j hj.
        least_same d a.rows (entry_of d a) (λ i. entry_of d b i j) (λ i. dot d a.rows (entry_of d r i) (λ k. entry_of d b k j)) (λ i. entry_of d x i j)
        (λ i hi. sym (p.entries i j (omega (arith, star.rows, hi)) hj ∙ ap (λ n. dot d n (entry_of d r i) (λ k. entry_of d b k j)) star.columns))
        (star.least (λ i. entry_of d b i j) (λ i. known (i * b.columns + j)));
  }
  answers_solve star known (Err e) p = inr (r, star, p)
