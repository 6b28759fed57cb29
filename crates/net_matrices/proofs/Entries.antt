-- The entry for two transitions, by the places between them.
use Rattle.std.proofs.Common.{ℕ, ℤ, zero, suc, pos, ◌<◌, ◌≤◌, ◌≡◌, List, [], ◌∷◌, Bool, true, false, eqb, ltb, cond, ◌&&◌, refl, sym, arith, ⊎_elim}
use Rattle.std.specs.Prelude.{All}
use Rattle.std.proofs.lemmas.Bool.{cases_lt}
use Rattle.std.proofs.lemmas.Bool.Decides.{nat_tests}
use Rattle.std.proofs.lemmas.List.Elements.{All-tail}
use Rattle.series_ops.specs.dioid.declared.dates.Date.{Date}
use Rattle.series_ops.specs.dioid.declared.dates.Date.TheVariants.{Early, At}
use Rattle.series_ops.specs.dioid.DateOrder.{Le}
use Rattle.series_ops.proofs.dioid_proofs.AtMost.{le_is, le_trans, early_le, le_later_left, le_later_right, later_le}
use Rattle.series_ops.specs.series_laws.SeriesForms.{monomial_at}
use Rattle.teg_net.specs.declared.entries.Place.{Place}
use Rattle.teg_settle.specs.periodic_laws.Equations.{entry_of_place, entry_at}

pub monomial_from : (n : ℕ) (t : ℤ) (k : ℕ) → n ≤ k → monomial_at n t k ≡ At t
monomial_from n t k l = let e : ltb k n ≡ false = grind (arith, nat_tests) in rw e refl

pub monomial_before : (n : ℕ) (t : ℤ) (k : ℕ) → k < n → monomial_at n t k ≡ Early
monomial_before n t k l = let e : ltb k n ≡ true = grind (arith, nat_tests) in rw e refl

both_true : (a b c d : ℕ) → a ≡ b → c ≡ d → eqb a b && eqb c d ≡ true
both_true a b c d e f = grind (arith, nat_tests)

both_hold : (a b c d : ℕ) → eqb a b && eqb c d ≡ true → (a ≡ b) × (c ≡ d)
both_hold a b c d h = (grind (arith, nat_tests), grind (arith, nat_tests))

-- the place asks for no more than c at shift k
abbrev pub IsAsked : ℕ → ℕ → ℕ → Date → Place → Type 0
IsAsked i j k c p = p.to.index ≡ i → p.from.index ≡ j → p.tokens ≤ k → Le (At (pos p.hold)) c

-- each place from j to i is counted
pub le_entry : (ps : List Place) (i j k : ℕ) → All (IsAsked i j k (entry_at ps i j k)) ps
le_entry [] i j k q d l = absurd (omega arith)
le_entry (p ∷ ps) i j k zero d l = λ e f m.
    let t : eqb p.to.index i && eqb p.from.index j ≡ true = both_true p.to.index i p.from.index j e f in
    let is : entry_of_place p i j k ≡ At (pos p.hold) = rw t (monomial_from p.tokens (pos p.hold) k m) in
    le_trans (le_is (sym is)) (le_later_left (entry_of_place p i j k) (entry_at ps i j k))
le_entry (p ∷ ps) i j k (suc q) d l = λ e f m. le_trans (le_entry ps i j k q d (omega arith) e f m) (le_later_right (entry_of_place p i j k) (entry_at ps i j k))

place_le : (p : Place) (i j k : ℕ) (c : Date) → IsAsked i j k c p → Le (entry_of_place p i j k) c
place_le p i j k c h = cases (eqb p.to.index i && eqb p.from.index j) refl where
  cases : (b : Bool) → (eqb p.to.index i && eqb p.from.index j) ≡ b → Le (cond b (monomial_at p.tokens (pos p.hold) k) Early) c
  cases true e =
      let both = both_hold p.to.index i p.from.index j e in
      ⊎_elim
      (λ (w : k < p.tokens). le_trans (le_is (monomial_before p.tokens (pos p.hold) k w)) (early_le c))
      (λ (w : p.tokens ≤ k). le_trans (le_is (monomial_from p.tokens (pos p.hold) k w)) (h both.0 both.1 w))
      (cases_lt k p.tokens)
  cases false e = early_le c

-- and nothing else
pub entry_le : (ps : List Place) (i j k : ℕ) (c : Date) → All (IsAsked i j k c) ps → Le (entry_at ps i j k) c
entry_le [] i j k c h = early_le c
entry_le (p ∷ ps) i j k c h = later_le (place_le p i j k c (h 0 p (omega arith))) (entry_le ps i j k c (All-tail (IsAsked i j k c) p ps h))
