-- One step of the recursion, place by place.
use Rattle.std.proofs.Common.{◌≡◌, ℕ, ◌<◌, ◌≤◌, ◌*◌, ◌+◌, ◌/◌, ◌%◌, inr, refl, ap, sym, ◌∙◌, arith, subst, ⊎_elim, List, length, get_or}
use Rattle.std.proofs.lemmas.Bool.{cases_lt}
use Rattle.std.proofs.lemmas.List.{get_or_read}
use Rattle.std.proofs.lemmas.Nat.{mul-add-lt, div-add-mod'}
use Rattle.dioid.specs.declared.algebra.Dioid.{Ghosts as DioidOf}
use Rattle.dioid.specs.declared.algebra.Kleene.{Ghosts as KleeneOf}
use Rattle.dioid_matrix.specs.EntryLists.{AreLoops}
use Rattle.dioid_matrix.specs.Tables.{table_of, entry_of}
use Rattle.dioid_matrix.specs.Turns.{loop_of, LoopFits, EntryFits}
use Rattle.dioid_matrix.proofs.Cells.{row_below}
use Rattle.dioid_matrix.proofs.Places.{at_place, earlier}
use Rattle.dioid_matrix.proofs.Filled.{HoldsEach}

three : {M : Type 0} (P : M → M → M → Type 0) {a b c w x y : M} → a ≡ w → b ≡ x → c ≡ y → P a b c → P w x y
three {M} P {a} {b} {c} {w} {x} {y} ea eb ec h = subst (λ (v : M). P v x y) ea (subst (λ (v : M). P a v y) eb (subst (λ (v : M). P a b v) ec h))

-- what holds of a value that was read holds of the entry
pub at_entry : {M : Type 0} (d : DioidOf M) (size : ℕ) (xs : List M) (P : M → Type 0) (place : ℕ) (old : M) → length xs ≡ size * size
    → place < size * size → old ≡ get_or xs place old → P old → P (entry_of d (table_of size size xs) (place / size) (place % size))
at_entry d size xs P place old len hp ho h = subst P (get_or_read xs place old (rw len hp) ho d.zero ∙ ap (λ m. get_or xs m d.zero) (sym (div-add-mod' place size))) h

-- the loops of the first columns, after which one does not fit or none is left
pub loops_end : {M : Type 0} (d : DioidOf M) (s : KleeneOf M) (size : ℕ) (r : ℕ → ℕ → M) (k count : ℕ) (loops : List M)
    → HoldsEach d count (λ j. LoopFits d s (r k k) (r k j)) (λ j. loop_of d s (r k k) (r k j)) loops → count ≤ size
    → (count < size → ¬ LoopFits d s (r k k) (r k count)) → AreLoops d s size r k loops
loops_end d s size r k count loops h few last = record {
  few = omega (arith, h.len);
  values = λ j hj. h.values j (omega (arith, h.len, hj));
  fit = λ j hj. h.fit j (omega (arith, h.len, hj));
  last = λ left f. last (omega (arith, h.len, left)) (subst (λ (n : ℕ). LoopFits d s (r k k) (r k n)) h.len f);
}

module _ {M : Type 0} (d : DioidOf M) (s : KleeneOf M) (size k : ℕ) (xs loops : List M)
    (are : AreLoops d s size (entry_of d (table_of size size xs)) k loops) (hk : k < size) (len : length xs ≡ size * size) where
  -- the same of the values that a turn takes
  pub at_turn : (P : M → M → M → Type 0) (place : ℕ) (old into around : M) → place < size * size → place % size < length loops
      → old ≡ get_or xs place old → into ≡ get_or xs (place / size * size + k) into → around ≡ get_or loops (place % size) around
      → P old into around
      → P (entry_of d (table_of size size xs) (place / size) (place % size)) (entry_of d (table_of size size xs) (place / size) k)
      (loop_of d s (entry_of d (table_of size size xs) k k) (entry_of d (table_of size size xs) k (place % size)))
  at_turn P place old into around hp hl ho hi ha h =
      let row : place / size < size = let b : place / size + 1 ≤ size = row_below place size size (omega arith) hp in omega (arith, b) in
      let eo : old ≡ get_or xs (place / size * size + place % size) d.zero = get_or_read xs place old (rw len hp) ho d.zero ∙ ap (λ m. get_or xs m d.zero) (sym (div-add-mod' place size)) in
      let ei : into ≡ get_or xs (place / size * size + k) d.zero = get_or_read xs _ into (rw len (mul-add-lt (place / size) size k size row hk)) hi d.zero in
      three P eo ei (get_or_read loops _ around hl ha d.zero ∙ are.values (place % size) hl) h

  -- where no loop is left, this entry's is the first that does not fit
  pub loop_misfits : (place : ℕ) → place < size * size
      → ((p : ℕ) → p < place → EntryFits d s (entry_of d (table_of size size xs)) k (p / size) (p % size)) → length loops ≤ place % size
      → ¬ EntryFits d s (entry_of d (table_of size size xs)) k (place / size) (place % size)
  loop_misfits place hp before hl f =
      let r : ℕ → ℕ → M = entry_of d (table_of size size xs) in
      let row : place / size < size = let b : place / size + 1 ≤ size = row_below place size size (omega arith) hp in omega (arith, b) in
      let column : place % size < size = omega arith in
      let gap : length loops < size = omega (arith, hl, column) in
      ⊎_elim
      (λ l. are.last gap (at_place (λ m n. EntryFits d s r k m n) (place / size) (length loops) size gap
      (before (place / size * size + length loops) (earlier (place / size) (length loops) size place gap (inr (refl, l))))).0)
      (λ m. let same : place % size ≡ length loops = omega (arith, hl, m) in are.last gap (subst (λ (n : ℕ). LoopFits d s (r k k) (r k n)) same f.0))
      (cases_lt (length loops) (place % size))

-- the same of the values that were read in two lists
pub at_both : {M : Type 0} (d : DioidOf M) (rows columns : ℕ) (xs ys : List M) (P : M → M → Type 0) (place : ℕ) (x y : M)
    → length xs ≡ rows * columns → length ys ≡ rows * columns → place < rows * columns → x ≡ get_or xs place x → y ≡ get_or ys place y → P x y
    → P (entry_of d (table_of rows columns xs) (place / columns) (place % columns)) (entry_of d (table_of rows columns ys) (place / columns) (place % columns))
at_both {M} d rows columns xs ys P place x y lx ly hp hx hy h =
    let ex : x ≡ get_or xs (place / columns * columns + place % columns) d.zero = get_or_read xs place x (rw lx hp) hx d.zero ∙ ap (λ m. get_or xs m d.zero) (sym (div-add-mod' place columns)) in
    let ey : y ≡ get_or ys (place / columns * columns + place % columns) d.zero = get_or_read ys place y (rw ly hp) hy d.zero ∙ ap (λ m. get_or ys m d.zero) (sym (div-add-mod' place columns)) in
    subst (λ (v : M). P v (get_or ys (place / columns * columns + place % columns) d.zero)) ex (subst (λ (v : M). P x v) ey h)
