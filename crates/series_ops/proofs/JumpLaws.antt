-- The greatest sums of two lists of which the second never falls: a place of the first with the number of the place before
-- has no greater sum, so its jumps are enough.
use Rattle.std.proofs.Common.{◌≡◌, ap, arith, ℕ, ℤ, pos, zero, suc, ◌+◌, ◌-◌, ◌≤◌, ◌<◌, sym, ◌∙◌, subst, ⊎_elim, inl, inr, List, [], ◌∷◌, ◌++◌}
use Rattle.std.proofs.Common.{length, get_or, map, Bool, true}
use Rattle.std.specs.Prelude.{◌≤ℤ◌}
use Rattle.std.specs.Int.{int_max}
use Rattle.std.proofs.lemmas.Bool.{cases_lt}
use Rattle.std.proofs.lemmas.List.{get_or_push, get_or_append_left, length-append}
use Rattle.dioid.specs.declared.dates.Date.{Date}
use Rattle.dioid.specs.DateOrder.{Le}
use Rattle.dioid.proofs.AtMost.{le_is, le_trans, le_antisym, le_later_left, le_later_right, later_le, product_le}
use Rattle.series_ops.specs.Cells.{date_of_far_cell, IsListed, AreStillListed, AreJumps, AreRising, AreStairs, IsJumpListed, IsLastUpTo}
use Rattle.series_ops.specs.ListFunctions.{value_listed}
use Rattle.series_ops.specs.Splits.{greatest_from, split_of}
use Rattle.series_ops.proofs.ScaleLaws.{date_rises, date_greater, dated_at}
use Rattle.series_ops.proofs.Scales.{long_scale}
use Rattle.series_ops.proofs.SplitLaws.{le_greatest_from, greatest_from_le}

-- ---- one more number

pub stairs_pushed : (j i : List ℕ) (a b : Bool) (l m : List ℤ) (z : ℤ) → AreStairs j a l → AreStillListed j i → IsJumpListed i l z → (b ≡ true → a ≡ true) → (b ≡ true → IsLastUpTo l z)
    → m ≡ l ++ z ∷ [] → AreStairs i b m
stairs_pushed j i a b l m z h more next still up em = subst (λ (x : List ℤ). AreStairs i b x) (sym em) (record {
  jumps = λ k w. ⊎_elim
      (λ low. ⊎_elim
      (λ e. inl (get_or_append_left l (z ∷ []) (pos 0) (suc k) low ∙ e ∙ sym (get_or_append_left l (z ∷ []) (pos 0) k (omega arith))))
      (λ u. inr (more (suc k) u))
      (h.jumps k low))
      (λ high.
      let size : length (l ++ z ∷ []) ≡ length l + 1 = length-append l (z ∷ []) in
      let here : length l ≡ suc k = omega arith in
      let last : length l - 1 ≡ k = omega arith in
      ⊎_elim
      (λ e. inl (get_or_push l z (pos 0) (suc k) here ∙ e ∙ ap (λ (x : ℕ). get_or l x (pos 0)) last ∙ sym (get_or_append_left l (z ∷ []) (pos 0) k (omega arith))))
      (λ u. inr (subst (λ (x : ℕ). IsListed i x) here u))
      (next (omega arith)))
      (cases_lt (suc k) (length l));
  rises = λ e k w. ⊎_elim
      (λ low.
      let one : get_or (l ++ z ∷ []) k (pos 0) ≡ get_or l k (pos 0) = get_or_append_left l (z ∷ []) (pos 0) k (omega arith) in
      let two : get_or (l ++ z ∷ []) (suc k) (pos 0) ≡ get_or l (suc k) (pos 0) = get_or_append_left l (z ∷ []) (pos 0) (suc k) low in
      rw (one, two) (h.rises (still e) k low))
      (λ high.
      let size : length (l ++ z ∷ []) ≡ length l + 1 = length-append l (z ∷ []) in
      let here : length l ≡ suc k = omega arith in
      let last : length l - 1 ≡ k = omega arith in
      let one : get_or (l ++ z ∷ []) k (pos 0) ≡ get_or l k (pos 0) = get_or_append_left l (z ∷ []) (pos 0) k (omega arith) in
      let two : get_or (l ++ z ∷ []) (suc k) (pos 0) ≡ z = get_or_push l z (pos 0) (suc k) here in
      rw (one, two) (subst (λ (x : ℕ). get_or l x (pos 0) ≤ℤ z) last (up e (omega arith))))
      (cases_lt (suc k) (length l));
})

-- ---- sums

module _ (l r : List ℤ) (j : List ℕ) (k p m : ℕ) where
  abbrev sums : ℕ → Date
  sums = split_of (value_listed (map date_of_far_cell l)) (value_listed (map date_of_far_cell r)) k

  -- the number found: the sum at the first place and those at the first n of the jumps are at most it, and it is one of the sums
  pub record IsFound (best : ℤ) (n : ℕ) : Type 0 where
    pub within : Le (date_of_far_cell best) (greatest_from sums p m)
    pub first : Le (sums p) (date_of_far_cell best)
    pub jumps : (i : ℕ) → i < n → p < get_or j i 0 → get_or j i 0 < p + m → Le (sums (get_or j i 0)) (date_of_far_cell best)

  pub found_first : (best : ℤ) → 0 < m → date_of_far_cell best ≡ sums p → IsFound best 0
  found_first best some e =
      let here : p + 0 ≡ p = omega arith in
      record {
        within = le_trans (le_is (e ∙ ap sums (sym here))) (le_greatest_from sums p m 0 some);
        first = le_is (sym e);
        jumps = λ i w. absurd (omega arith);
      }

  -- a jump at one of the places
  pub found_jump : (best sum new next : ℤ) (n : ℕ) → IsFound best n → p < get_or j n 0 → get_or j n 0 < p + m
      → date_of_far_cell sum ≡ sums (get_or j n 0) → new ≡ int_max best sum → next ≡ new → IsFound next (n + 1)
  found_jump best sum new next n h low high es en ex =
      let i : ℕ = get_or j n 0 in
      let there : p + (get_or j n 0 - p) ≡ get_or j n 0 = omega arith in
      let both = ap date_of_far_cell (ex ∙ en) ∙ date_greater long_scale best sum in
      let old : Le (date_of_far_cell best) (date_of_far_cell next) = le_trans (le_later_left (date_of_far_cell best) (date_of_far_cell sum)) (le_is (sym both)) in
      record {
        within = le_trans (le_is both) (later_le h.within (le_trans (le_is (es ∙ ap sums (sym there))) (le_greatest_from sums p m (get_or j n 0 - p) (omega arith))));
        first = le_trans h.first old;
        jumps = λ q w a b. ⊎_elim
            (λ less. le_trans (h.jumps q less a b) old)
            (λ more.
            let e : q ≡ n = omega arith in
            le_trans (le_is (ap (λ (z : ℕ). sums (get_or j z 0)) e ∙ sym es)) (le_trans (le_later_right (date_of_far_cell best) (date_of_far_cell sum)) (le_is (sym both))))
            (cases_lt q n);
      }

  -- and one elsewhere
  pub found_other : (best : ℤ) (n : ℕ) → IsFound best n → (p < get_or j n 0 → get_or j n 0 < p + m → ⊥) → IsFound best (n + 1)
  found_other best n h out = record {
    within = h.within;
    first = h.first;
    jumps = λ q w a b. ⊎_elim
        (λ less. h.jumps q less a b)
        (λ more.
        let e : q ≡ n = omega arith in
        absurd (out (subst (λ (z : ℕ). p < get_or j z 0) e a) (subst (λ (z : ℕ). get_or j z 0 < p + m) e b)))
        (cases_lt q n);
  }

  -- all of them
  pub found_all : (best : ℤ) → p + m ≤ length l → m ≤ suc k - p → k < length r → 0 < m → AreJumps j l → AreRising r → IsFound best (length j) → date_of_far_cell best ≡ greatest_from sums p m
  found_all best wl fits wr some jumps rising h = le_antisym h.within (greatest_from_le sums p m (date_of_far_cell best) each) where
    each : (i : ℕ) → i < m → Le (sums (p + i)) (date_of_far_cell best)
    each zero w = let here : p + 0 ≡ p = omega arith in le_trans (le_is (ap sums here)) h.first
    each (suc i) w =
        let next : p + suc i ≡ suc (p + i) = omega arith in
        le_trans (le_is (ap sums next)) (⊎_elim
        (λ same.
        let first : value_listed (map date_of_far_cell l) (suc (p + i)) ≡ value_listed (map date_of_far_cell l) (p + i) =
        dated_at long_scale l (suc (p + i)) (omega arith) ∙ ap date_of_far_cell same ∙ sym (dated_at long_scale l (p + i) (omega arith)) in
        let back : suc (k - suc (p + i)) ≡ k - (p + i) = omega arith in
        let up : get_or r (k - suc (p + i)) (pos 0) ≤ℤ get_or r (k - (p + i)) (pos 0) =
        subst (λ (z : ℕ). get_or r (k - suc (p + i)) (pos 0) ≤ℤ get_or r z (pos 0)) back (rising (k - suc (p + i)) (omega arith)) in
        let rises : Le (date_of_far_cell (get_or r (k - suc (p + i)) (pos 0))) (date_of_far_cell (get_or r (k - (p + i)) (pos 0))) =
        record { holds = date_rises long_scale (get_or r (k - suc (p + i)) (pos 0)) (get_or r (k - (p + i)) (pos 0)) up } in
        le_trans (product_le (le_is first) (le_trans (le_is (dated_at long_scale r (k - suc (p + i)) (omega arith)))
        (le_trans rises (le_is (sym (dated_at long_scale r (k - (p + i)) (omega arith)))))))
        (each i (omega arith)))
        (λ listed.
        let inside = listed.inside in
        let is : get_or j listed.place 0 ≡ suc (p + i) = listed.is in
        let low : p < get_or j listed.place 0 = omega arith in
        let high : get_or j listed.place 0 < p + m = omega arith in
        le_trans (le_is (ap sums (sym is))) (h.jumps listed.place inside low high))
        (jumps (p + i) (omega arith)))
