-- One date of rows lowered.
use Rattle.std.proofs.Common.{ℕ, pos, ◌+◌, ◌-◌, ◌*◌, ◌<◌, ◌≤◌, ◌≡◌, ◌≢◌, Bool, true, false, leb, List, length, get_or, set, refl, sym, ap, subst, ◌∙◌, arith, ⊎_elim}
use Rattle.std.specs.Prelude.{if◌then◌else◌, nat_le}
use Rattle.std.proofs.lemmas.Bool.{cases_lt, cases_eq}
use Rattle.std.proofs.lemmas.Bool.Decides.{nat_tests}
use Rattle.std.proofs.lemmas.Int.{ints}
use Rattle.std.proofs.lemmas.List.{get_or-set_same, get_or-set_other}
use Rattle.std.proofs.lemmas.List.Elements.{All-set}
use Rattle.dioid.specs.declared.dates.Date.{Date}
use Rattle.dioid.specs.declared.dates.Date.TheVariants.{Early, At, Never}
use Rattle.dioid.specs.Dates.{IsAtMostDate, delayed, earlier_of}
use Rattle.dioid.proofs.DateOrder.{at_most_is, earlier_left, earlier_greatest, earlier_either}
use Rattle.latest_laws.proofs.BackwardSolutions.{rows_below}
use Rattle.dating_certificates.specs.CheckedRows.{date_up_to}
use Rattle.dating_certificates.proofs.DatesUpTo.{told_in}
use Rattle.dating_check.specs.MadeRows.{AreFrom, date_index}

-- ---- cells

pub cell_in : (w t k n : ℕ) → t < w → 1 ≤ k → k ≤ n → date_index w t k < n * w
cell_in w t k n l o m =
    let last : n - 1 + 1 ≡ n = omega (arith, o, m) in
    subst (λ (z : ℕ). date_index w t k < z * w) last (rows_below w (n - 1) (k - 1) t (omega (arith, m)) l)

cell_before : (w t v j k : ℕ) → t < w → 1 ≤ j → j < k → date_index w t j < date_index w v k
cell_before w t v j k l o m =
    let low : date_index w t j < (k - 1) * w = cell_in w t j (k - 1) l o (omega (arith, m)) in
    omega (arith, low)

-- two firings have two cells
pub cells_apart : (w t v j k : ℕ) → t < w → v < w → 1 ≤ j → 1 ≤ k → date_index w t j ≡ date_index w v k → (t ≡ v) × (j ≡ k)
cells_apart w t v j k l m o p e =
    ⊎_elim
    (λ (a : j < k). let low = cell_before w t v j k l o a in absurd (omega (arith, low, e)))
    (λ (a : k ≤ j).
    ⊎_elim
    (λ (b : k < j). let low = cell_before w v t k j m p b in absurd (omega (arith, low, e)))
    (λ (b : j ≤ k).
    let same : j ≡ k = omega (arith, a, b) in
    let row : (j - 1) * w ≡ (k - 1) * w = ap (λ (z : ℕ). (z - 1) * w) same in
    (omega (arith, row, e), same))
    (cases_lt k j))
    (cases_lt j k)

-- ---- one date lowered

-- the rows with the date of a firing lowered to this one
abbrev pub lowered : ℕ → List Date → ℕ → ℕ → Date → List Date
lowered w dates t k d = set dates (date_index w t k) (earlier_of (get_or dates (date_index w t k) Early) d)

-- where one date is at most another, so it is with never past a number
within_rises : (test : Bool) (a b : Date) → IsAtMostDate a b → IsAtMostDate (if test then a else Never) (if test then b else Never)
within_rises true a b h = h
within_rises false a b h = tt

module _ (w n : ℕ) (dates : List Date) (t k : ℕ) (d : Date) (full : length dates ≡ n * w) (t_in : t < w) (some : 1 ≤ k) (k_in : k ≤ n) where
  there : date_index w t k < length dates
  there = (let low = cell_in w t k n t_in some k_in in omega (arith, low, full))

  -- the date that is lowered
  pub lowered_here : date_up_to n w (lowered w dates t k d) t k ≡ earlier_of (date_up_to n w dates t k) d
  lowered_here = told_in n w (lowered w dates t k d) t k k_in
      ∙ (get_or-set_same dates (date_index w t k) (earlier_of (get_or dates (date_index w t k) Early) d) Early there ∙ ap (λ (z : Date). earlier_of z d) (sym (told_in n w dates t k k_in)))

  -- the others
  pub lowered_other : (v s : ℕ) → date_index w v s ≢ date_index w t k → date_up_to n w (lowered w dates t k d) v s ≡ date_up_to n w dates v s
  lowered_other v s ne = ap (λ (z : Date). if nat_le s n then z else Never) (get_or-set_other dates (date_index w t k) (date_index w v s) (earlier_of (get_or dates (date_index w t k) Early) d) Early ne)

  -- no date comes later
  pub lowered_below : (v s : ℕ) → IsAtMostDate (date_up_to n w (lowered w dates t k d) v s) (date_up_to n w dates v s)
  lowered_below v s =
      ⊎_elim
      (λ (e : date_index w v s ≡ date_index w t k).
      let own : Date = get_or dates (date_index w t k) Early in
      let new : get_or (lowered w dates t k d) (date_index w v s) Early ≡ earlier_of own d =
      ap (λ (i : ℕ). get_or (lowered w dates t k d) i Early) e ∙ get_or-set_same dates (date_index w t k) (earlier_of own d) Early there in
      let old : get_or dates (date_index w v s) Early ≡ own = ap (λ (i : ℕ). get_or dates i Early) e in
      within_rises (nat_le s n) (get_or (lowered w dates t k d) (date_index w v s) Early) (get_or dates (date_index w v s) Early) (rw (new, old) (earlier_left own d)))
      (λ (ne : date_index w v s ≢ date_index w t k). at_most_is (date_up_to n w (lowered w dates t k d) v s) (date_up_to n w dates v s) (lowered_other v s ne))
      (cases_eq (date_index w v s) (date_index w t k))

  -- what is at most both is at most what is left
  pub lowered_above : (v s : ℕ) (z : Date) → v < w → 1 ≤ s → IsAtMostDate z (date_up_to n w dates v s) → (v ≡ t → s ≡ k → IsAtMostDate z d)
      → IsAtMostDate z (date_up_to n w (lowered w dates t k d) v s)
  lowered_above v s z v_in from_one old new =
      ⊎_elim
      (λ (e : date_index w v s ≡ date_index w t k).
      let same = cells_apart w v t s k v_in t_in from_one some e in
      let here : date_up_to n w (lowered w dates t k d) v s ≡ earlier_of (date_up_to n w dates v s) d = rw (same.0, same.1) lowered_here in
      rw here (earlier_greatest (date_up_to n w dates v s) d z old (new same.0 same.1)))
      (λ (ne : date_index w v s ≢ date_index w t k). rw (lowered_other v s ne) old)
      (cases_eq (date_index w v s) (date_index w t k))

-- ---- how far dates are below 0

from_weaker : (a b : ℕ) (d : Date) → a ≤ b → IsAtMostDate (At (pos 0)) (delayed a d) → IsAtMostDate (At (pos 0)) (delayed b d)
from_weaker a b Early l h = h
from_weaker a b (At z) l h = omega (arith, ints, l, h)
from_weaker a b Never l h = tt

pub all_weaker : (a b : ℕ) (dates : List Date) → a ≤ b → AreFrom a dates → AreFrom b dates
all_weaker a b dates l h i d m = from_weaker a b (get_or dates i d) l (h i d m)

-- past the numbers it is never
past : (w n : ℕ) (dates : List Date) (t k : ℕ) → n < k → date_up_to n w dates t k ≡ Never
past w n dates t k l = let b : leb k n ≡ false = grind (arith, nat_tests) in rw b refl

-- a date of the rows
pub up_to_from : (w n : ℕ) (dates : List Date) (fall t k : ℕ) → length dates ≡ n * w → t < w → 1 ≤ k → AreFrom fall dates → IsAtMostDate (At (pos 0)) (delayed fall (date_up_to n w dates t k))
up_to_from w n dates fall t k full t_in some h =
    ⊎_elim
    (λ (q : n < k). rw (past w n dates t k q) tt)
    (λ (q : k ≤ n). rw (told_in n w dates t k q) (h (date_index w t k) Early (let low = cell_in w t k n t_in some q in omega (arith, low, full))))
    (cases_lt n k)

pub lowered_from : (w n : ℕ) (dates : List Date) (fall t k : ℕ) (d : Date) → length dates ≡ n * w → t < w → 1 ≤ k → k ≤ n → AreFrom fall dates → IsAtMostDate (At (pos 0)) (delayed fall d)
    → AreFrom fall (lowered w dates t k d)
lowered_from w n dates fall t k d full t_in some k_in h low =
    let own : Date = get_or dates (date_index w t k) Early in
    let here : IsAtMostDate (At (pos 0)) (delayed fall own) = h (date_index w t k) Early (let in' = cell_in w t k n t_in some k_in in omega (arith, in', full)) in
    let new : IsAtMostDate (At (pos 0)) (delayed fall (earlier_of own d)) = ⊎_elim (λ (e : earlier_of own d ≡ own). rw e here) (λ (e : earlier_of own d ≡ d). rw e low) (earlier_either own d) in
    All-set (λ z. IsAtMostDate (At (pos 0)) (delayed fall z)) dates (date_index w t k) (earlier_of own d) new h

-- a hold before a date
pub held_from : (fall hold : ℕ) (d e : Date) → delayed hold d ≡ e → hold ≤ 1000000000 → IsAtMostDate (At (pos 0)) (delayed fall e) → IsAtMostDate (At (pos 0)) (delayed (fall + 1000000000) d)
held_from fall hold d e is small h = held d (rw is h) where
  held : (d : Date) → IsAtMostDate (At (pos 0)) (delayed fall (delayed hold d)) → IsAtMostDate (At (pos 0)) (delayed (fall + 1000000000) d)
  held Early low = low
  held (At z) low = omega (arith, ints, low, small)
  held Never low = tt

pub room_for : (fall greatest : ℕ) (d : Date) → fall ≤ greatest → IsAtMostDate (At (pos 0)) (delayed fall d) → IsAtMostDate (At (pos 0)) (delayed greatest d)
room_for fall greatest d l h = from_weaker fall greatest d l h
