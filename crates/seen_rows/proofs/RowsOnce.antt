-- Rows of which each is seen once, by the column and the number of each.
use Rattle.std.proofs.Common.{ℕ, ◌+◌, ◌<◌, ◌≡◌, ◌≢◌, ◌∙◌, ◌==◌, ◌&&◌, ◌||◌, List, Bool, true, false, length, get_or, refl, sym, ap, subst, arith, ⊎_elim, inl, inr}
use Rattle.std.specs.Prelude.{◌⊎◌}
use Rattle.std.proofs.lemmas.Bool.{and_parts, cases_eq, eqb-true}
use Rattle.std.proofs.lemmas.Bool.Decides.{nat_tests}
use Rattle.std.proofs.lemmas.List.{get_or_default}
use Rattle.csv_records.specs.Seen.{SeenNumbers, is_seen}

module _ {R : Type 0} (column number : R → ℕ) where
  -- the rows are not both of one column and of one number
  abbrev pub AreOther : R → R → Type 0
  AreOther r s = column r ≡ column s → number r ≢ number s

  -- no two of the first rows are of one column and number
  abbrev pub AreOtherUpTo : List R → ℕ → Type 0
  AreOtherUpTo rows n = (i j : ℕ) (d : R) → i < j → j < n → AreOther (get_or rows i d) (get_or rows j d)

  -- the table has seen the row
  abbrev pub HasSeen : SeenNumbers → R → Type 0
  HasSeen seen r = is_seen seen (column r) (number r) ≡ true

  -- the table has seen the first rows
  abbrev pub HasSeenUpTo : SeenNumbers → List R → ℕ → Type 0
  HasSeenUpTo seen rows n = (i : ℕ) (d : R) → i < n → HasSeen seen (get_or rows i d)

  -- one of the first rows is of this column and number
  abbrev pub IsAmong : List R → (n t k : ℕ) → Type 0
  IsAmong rows n t k = (i : ℕ) × (i < n) × ((d : R) → (column (get_or rows i d) ≡ t) × (number (get_or rows i d) ≡ k))

  -- and no others
  abbrev pub HasSeenOnly : SeenNumbers → List R → ℕ → Type 0
  HasSeenOnly seen rows n = (t k : ℕ) → t < seen.width → is_seen seen t k ≡ true → IsAmong rows n t k

  -- the table has seen the first rows and no others, and no two of them are of one column and number
  abbrev pub AreSeenOnce : SeenNumbers → List R → ℕ → Type 0
  AreSeenOnce seen rows n = HasSeenUpTo seen rows n × HasSeenOnly seen rows n × AreOtherUpTo rows n

  -- each of the rows has a column of the table
  abbrev pub HaveColumns : SeenNumbers → List R → Type 0
  HaveColumns seen rows = (i : ℕ) (d : R) → i < length rows → column (get_or rows i d) < seen.width

  -- the table has seen this column and number too
  abbrev pub HasSeenMore : (old new : SeenNumbers) → (t k : ℕ) → Type 0
  HasSeenMore old new t k = (u m : ℕ) → u < old.width → is_seen new u m ≡ (is_seen old u m || ((t == u) && (k == m)))

  -- a row that was seen is not one that was not
  other : (seen : SeenNumbers) (r s : R) → HasSeen seen r → is_seen seen (column s) (number s) ≡ false → AreOther r s
  other seen r s marked fresh e f = cc

  module _ (rows : List R) (n : ℕ) (d : R) where
    -- the row behind them is not of the column and number of one of them
    one_more_other : (seen : SeenNumbers) → n < length rows → HasSeenUpTo seen rows n
        → is_seen seen (column (get_or rows n d)) (number (get_or rows n d)) ≡ false
        → AreOtherUpTo rows n → AreOtherUpTo rows (n + 1)
    one_more_other seen inside all fresh before i j e lt within =
        ⊎_elim
        (λ (q : j ≡ n). subst (λ (k : ℕ). AreOther (get_or rows i e) (get_or rows k e)) (sym q)
        (other seen (get_or rows i e) (get_or rows n e) (all i e (omega (arith, q, lt)))
        (subst (λ (r : R). is_seen seen (column r) (number r) ≡ false) (get_or_default rows n d e inside) fresh)))
        (λ (q : j ≢ n). before i j e lt (omega (arith, q, within)))
        (cases_eq j n)

    -- and is seen then
    one_more_seen : (old new : SeenNumbers) → n < length rows → HaveColumns old rows
        → HasSeenMore old new (column (get_or rows n d)) (number (get_or rows n d))
        → HasSeenUpTo old rows n → HasSeenUpTo new rows (n + 1)
    one_more_seen old new inside within more before i e lt =
        let r : R = get_or rows i e in
        ⊎_elim
        (λ (q : i ≡ n).
        let same : get_or rows n d ≡ r = get_or_default rows n d e inside ∙ ap (λ (k : ℕ). get_or rows k e) (sym q) in
        let here : column r < old.width = within i e (omega (arith, q, inside)) in
        subst (λ (s : R). HasSeen new s) same
        (more (column (get_or rows n d)) (number (get_or rows n d)) (subst (λ (s : R). column s < old.width) (sym same) here)
        ∙ added (is_seen old (column (get_or rows n d)) (number (get_or rows n d))) (column (get_or rows n d)) (number (get_or rows n d))))
        (λ (q : i ≢ n).
        let seen : HasSeen old r = before i e (omega (arith, q, lt)) in
        more (column r) (number r) (within i e (omega (arith, lt, inside)))
        ∙ ap (λ (b : Bool). b || ((column (get_or rows n d) == column r) && (number (get_or rows n d) == number r))) seen)
        (cases_eq i n)
      where
        added : (b : Bool) (u m : ℕ) → (b || ((u == u) && (m == m))) ≡ true
        added b u m = grind (arith, nat_tests)

    -- and no other is
    one_more_only : (old new : SeenNumbers) → n < length rows → new.width ≡ old.width
        → HasSeenMore old new (column (get_or rows n d)) (number (get_or rows n d))
        → HasSeenOnly old rows n → HasSeenOnly new rows (n + 1)
    one_more_only old new inside wide more before u m within seen =
        let t : ℕ = column (get_or rows n d) in
        let k : ℕ = number (get_or rows n d) in
        let low : u < old.width = omega (arith, within, wide) in
        ⊎_elim
        (λ (e : is_seen old u m ≡ true). let there = before u m low e in (there.0, omega (arith, there.1), there.2))
        (λ (e : ((t == u) && (k == m)) ≡ true). (n, omega arith, λ z. (let at = same t k e in let own = get_or_default rows n z d inside in (ap column own ∙ at.0, ap number own ∙ at.1))))
        (or_splits (is_seen old u m) ((t == u) && (k == m)) (sym (more u m low) ∙ seen))
      where
        or_splits : (a b : Bool) → (a || b) ≡ true → (a ≡ true) ⊎ (b ≡ true)
        or_splits true b e = inl refl
        or_splits false b e = inr e

        same : (t k : ℕ) → ((t == u) && (k == m)) ≡ true → (t ≡ u) × (k ≡ m)
        same t k e = (let both = and_parts (t == u) (k == m) e in (eqb-true t u both.0, eqb-true k m both.1))

    -- a row that was not seen, and is seen then
    pub one_more : (old new : SeenNumbers) → n < length rows → HaveColumns old rows → new.width ≡ old.width
        → HasSeenMore old new (column (get_or rows n d)) (number (get_or rows n d))
        → is_seen old (column (get_or rows n d)) (number (get_or rows n d)) ≡ false
        → AreSeenOnce old rows n → AreSeenOnce new rows (n + 1)
    one_more old new inside within wide more fresh before = (
      one_more_seen old new inside within more before.0,
      one_more_only old new inside wide more before.1,
      one_more_other old inside before.0 fresh before.2,
    )

    -- a row that was seen is of the column and number of an earlier one
    pub seen_twice : (seen : SeenNumbers) → n < length rows → HaveColumns seen rows → AreSeenOnce seen rows n
        → is_seen seen (column (get_or rows n d)) (number (get_or rows n d)) ≡ true
        → IsAmong rows n (column (get_or rows n d)) (number (get_or rows n d))
    seen_twice seen inside within before is = before.1 (column (get_or rows n d)) (number (get_or rows n d)) (within n d inside) is
