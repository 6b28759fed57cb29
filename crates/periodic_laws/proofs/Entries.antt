-- The entries and the right side of the linear system, at each shift.
use Rattle.std.proofs.Common.{◌≡◌, refl, ap, arith, ℕ, pos, zero, suc, ◌+◌, ◌≤◌, ◌<◌, sym, ⊎_elim, Bool, true, false, cond, eqb, ◌&&◌, List, [], ◌∷◌}
use Rattle.std.specs.Prelude.{All}
use Rattle.std.proofs.lemmas.Bool.{cases_lt}
use Rattle.std.proofs.lemmas.Bool.Decides.{nat_tests}
use Rattle.std.proofs.lemmas.List.Elements.{All-tail}
use Rattle.series_ops.specs.dioid.declared.dates.Date.{Date}
use Rattle.series_ops.specs.dioid.declared.dates.Date.TheVariants.{Early, At}
use Rattle.series_ops.specs.dioid.DateOrder.{Le}
use Rattle.series_ops.proofs.dioid_proofs.AtMost.{le_is, le_trans, early_le, le_later_left, le_later_right, later_le}
use Rattle.series_ops.specs.series_laws.Pointwise.{sum_at}
use Rattle.series_ops.specs.declared.gains.Gain.{Gain}
use Rattle.series_ops.specs.Gains.{gain_zero}
use Rattle.settled_laws.specs.teg_net.declared.entries.Place.{Place}
use Rattle.settled_laws.proofs.teg_model_proofs.DateFunctions.{InitialDates}
use Rattle.periodic_laws.specs.Equations.{stair, entry_of_place, entry_at, tokens_at, start_place_at, start_at}
use Rattle.periodic_laws.specs.GainColumns.{stair_gain, place_gain, entry_of_places, tokens_gain, start_place, start_of_places, right_side}
use Rattle.periodic_laws.proofs.Values.{Holds, zero_holds, sum_holds, stair_holds}

-- what a place adds, as a function
abbrev pub delay_at : Place → ℕ → Date
delay_at p k = stair p.tokens (At (pos p.hold)) k

-- ---- entries

place_holds : (p : Place) (i j : ℕ) → Holds (place_gain p i j) (entry_of_place p i j)
unfolding place_gain
place_holds p i j = elim (eqb p.to.index i && eqb p.from.index j) as (λ b. Holds (cond b (stair_gain p.tokens (At (pos p.hold))) gain_zero) (λ k. cond b (delay_at p k) Early)) [
  | true ↦ stair_holds p.tokens (At (pos p.hold))
  | false ↦ zero_holds
]

pub entry_holds : (ps : List Place) (i j : ℕ) → Holds (entry_of_places ps i j) (entry_at ps i j)
unfolding entry_of_places
entry_holds [] i j = zero_holds
entry_holds (p ∷ ps) i j = sum_holds (place_gain p i j) (entry_of_places ps i j) (entry_of_place p i j) (entry_at ps i j) (place_holds p i j) (entry_holds ps i j)

both_true : (a b c d : ℕ) → a ≡ b → c ≡ d → eqb a b && eqb c d ≡ true
both_true a b c d e f = grind (arith, nat_tests)

both_hold : (a b c d : ℕ) → eqb a b && eqb c d ≡ true → (a ≡ b) × (c ≡ d)
both_hold a b c d h = (grind (arith, nat_tests), grind (arith, nat_tests))

-- each place from j to i is counted
pub le_entry : (ps : List Place) (i j k : ℕ) → All (λ p. p.to.index ≡ i → p.from.index ≡ j → Le (delay_at p k) (entry_at ps i j k)) ps
le_entry [] i j k q d l = absurd (omega arith)
le_entry (p ∷ ps) i j k zero d l = λ e f.
    let t : eqb p.to.index i && eqb p.from.index j ≡ true = both_true p.to.index i p.from.index j e f in
    let is : entry_of_place p i j k ≡ delay_at p k = rw t refl in
    le_trans (le_is (sym is)) (le_later_left (entry_of_place p i j k) (entry_at ps i j k))
le_entry (p ∷ ps) i j k (suc q) d l = λ e f. le_trans (le_entry ps i j k q d (omega arith) e f) (le_later_right (entry_of_place p i j k) (entry_at ps i j k))

place_le : (p : Place) (i j k : ℕ) (c : Date) → (p.to.index ≡ i → p.from.index ≡ j → Le (delay_at p k) c) → Le (entry_of_place p i j k) c
place_le p i j k c h = cases (eqb p.to.index i && eqb p.from.index j) refl where
  cases : (b : Bool) → (eqb p.to.index i && eqb p.from.index j) ≡ b → Le (cond b (delay_at p k) Early) c
  cases true e = let both = both_hold p.to.index i p.from.index j e in h both.0 both.1
  cases false e = early_le c

-- and nothing else
pub entry_le : (ps : List Place) (i j k : ℕ) (c : Date) → All (λ p. p.to.index ≡ i → p.from.index ≡ j → Le (delay_at p k) c) ps → Le (entry_at ps i j k) c
entry_le [] i j k c h = early_le c
entry_le (p ∷ ps) i j k c h = later_le (place_le p i j k c (h 0 p (omega arith))) (entry_le ps i j k c (All-tail (λ p. p.to.index ≡ i → p.from.index ≡ j → Le (delay_at p k) c) p ps h))

-- ---- initial tokens

tokens_hold : (dates : ℕ → Date) (m : ℕ) → Holds (tokens_gain dates m) (tokens_at dates m)
unfolding tokens_gain
tokens_hold dates zero = zero_holds
tokens_hold dates (suc m) = sum_holds (tokens_gain dates m) (stair_gain m (dates (m + 1))) (tokens_at dates m) (stair m (dates (m + 1))) (tokens_hold dates m) (stair_holds m (dates (m + 1)))

le_tokens : (dates : ℕ → Date) (m c k : ℕ) → c < m → Le (stair c (dates (c + 1)) k) (tokens_at dates m k)
le_tokens dates zero c k h = absurd (omega arith)
le_tokens dates (suc m) c k h = ⊎_elim
    (λ (l : c < m). le_trans (le_tokens dates m c k l) (le_later_left (tokens_at dates m k) (stair m (dates (m + 1)) k)))
    (λ (l : m ≤ c). let e : c ≡ m = omega arith in le_trans (le_is (ap (λ (z : ℕ). stair z (dates (z + 1)) k) e)) (le_later_right (tokens_at dates m k) (stair m (dates (m + 1)) k)))
    (cases_lt c m)

tokens_le : (dates : ℕ → Date) (m k : ℕ) (z : Date) → ((c : ℕ) → c < m → Le (stair c (dates (c + 1)) k) z) → Le (tokens_at dates m k) z
tokens_le dates zero k z h = early_le z
tokens_le dates (suc m) k z h = later_le (tokens_le dates m k z (λ c l. h c (omega arith))) (h m (omega arith))

start_place_holds : (initial : InitialDates) (p : Place) (i : ℕ) → Holds (start_place initial p i) (start_place_at initial p i)
unfolding start_place
start_place_holds initial p i = elim (eqb p.to.index i) as (λ b. Holds (cond b (tokens_gain (initial p) p.tokens) gain_zero) (λ k. cond b (tokens_at (initial p) p.tokens k) Early)) [
  | true ↦ tokens_hold (initial p) p.tokens
  | false ↦ zero_holds
]

pub start_holds : (initial : InitialDates) (ps : List Place) (i : ℕ) → Holds (start_of_places initial ps i) (start_at initial ps i)
unfolding start_of_places
start_holds initial [] i = zero_holds
start_holds initial (p ∷ ps) i = sum_holds (start_place initial p i) (start_of_places initial ps i) (start_place_at initial p i)
    (start_at initial ps i) (start_place_holds initial p i) (start_holds initial ps i)

-- each initial token is counted
pub le_start : (initial : InitialDates) (ps : List Place) (i k : ℕ) → All (λ p. p.to.index ≡ i → (c : ℕ) → c < p.tokens → Le (stair c (initial p (c + 1)) k) (start_at initial ps i k)) ps
le_start initial [] i k q d l = absurd (omega arith)
le_start initial (p ∷ ps) i k zero d l = λ e c h.
    let t : eqb p.to.index i ≡ true = grind (arith, nat_tests) in
    let is : start_place_at initial p i k ≡ tokens_at (initial p) p.tokens k = rw t refl in
    le_trans (le_tokens (initial p) p.tokens c k h) (le_trans (le_is (sym is)) (le_later_left (start_place_at initial p i k) (start_at initial ps i k)))
le_start initial (p ∷ ps) i k (suc q) d l = λ e c h. le_trans (le_start initial ps i k q d (omega arith) e c h) (le_later_right (start_place_at initial p i k) (start_at initial ps i k))

start_place_le : (initial : InitialDates) (p : Place) (i k : ℕ) (z : Date) → (p.to.index ≡ i → (c : ℕ) → c < p.tokens → Le (stair c (initial p (c + 1)) k) z) → Le (start_place_at initial p i k) z
start_place_le initial p i k z h = cases (eqb p.to.index i) refl where
  cases : (b : Bool) → eqb p.to.index i ≡ b → Le (cond b (tokens_at (initial p) p.tokens k) Early) z
  cases true e = let is : p.to.index ≡ i = grind (arith, nat_tests) in tokens_le (initial p) p.tokens k z (h is)
  cases false e = early_le z

pub start_le : (initial : InitialDates) (ps : List Place) (i k : ℕ) (z : Date)
    → All (λ p. p.to.index ≡ i → (c : ℕ) → c < p.tokens → Le (stair c (initial p (c + 1)) k) z) ps → Le (start_at initial ps i k) z
start_le initial [] i k z h = early_le z
start_le initial (p ∷ ps) i k z h = later_le (start_place_le initial p i k z (h 0 p (omega arith)))
    (start_le initial ps i k z (All-tail (λ p. p.to.index ≡ i → (c : ℕ) → c < p.tokens → Le (stair c (initial p (c + 1)) k) z) p ps h))

-- ---- the right side

pub right_side_holds : (initial : InitialDates) (ps : List Place) (releases : ℕ → Gain) (i : ℕ) (release : ℕ → Date)
    → Holds (releases i) release → Holds (right_side initial ps releases i) (sum_at (start_at initial ps i) release)
unfolding right_side
right_side_holds initial ps releases i release h = sum_holds (start_of_places initial ps i) (releases i) (start_at initial ps i) release (start_holds initial ps i) h
