-- Delays of which no two are of one departure: each is the one that is given to its departure.
use Rattle.std.proofs.Common.{ℕ, zero, suc, ◌<◌, ◌≡◌, ◌≢◌, List, [], ◌∷◌, true, false, eqb, ◌&&◌, length, get_or, refl, ap, arith, ⊎_elim, inl, inr}
use Rattle.std.specs.Prelude.{AllPairs, ◌⊎◌}
use Rattle.std.proofs.lemmas.Bool.Decides.{eqb_tells}
use Rattle.delay_laws.specs.declared.table.Delay.{Delay}
use Rattle.delay_laws.specs.PlannedTimetables.{delay_in}

-- no two are of one departure
abbrev pub AreApartDelays : List Delay → Type 0
AreApartDelays ds = AllPairs (λ c d. c.transition.index ≡ d.transition.index → c.number ≢ d.number) ds

-- a delay is of a departure or not
is_of : (d : Delay) (i s : ℕ) → (((eqb d.transition.index i && eqb d.number s) ≡ true) × (d.transition.index ≡ i) × (d.number ≡ s))
    ⊎ (((eqb d.transition.index i && eqb d.number s) ≡ false) × (d.transition.index ≡ i → d.number ≢ s))
is_of d i s =
    ⊎_elim
    (λ (a : (eqb d.transition.index i ≡ true) × (d.transition.index ≡ i)). ⊎_elim
    (λ (b : (eqb d.number s ≡ true) × (d.number ≡ s)). inl (rw (a.0, b.0) refl, a.1, b.1))
    (λ (b : (eqb d.number s ≡ false) × (d.number ≢ s)). inr (rw (a.0, b.0) refl, λ e. b.1))
    (eqb_tells d.number s))
    (λ (a : (eqb d.transition.index i ≡ false) × (d.transition.index ≢ i)). inr (rw a.0 refl, λ e. absurd (a.1 e)))
    (eqb_tells d.transition.index i)

pub given_is : (ds : List Delay) (j : ℕ) (own : Delay) → AreApartDelays ds → j < length ds → get_or ds j own ≡ own → delay_in ds own.transition.index own.number ≡ own.by
given_is [] j own apart l at = absurd (omega (arith, l))
given_is (d ∷ ds) zero own apart l at =
    ⊎_elim
    (λ (a : ((eqb d.transition.index own.transition.index && eqb d.number own.number) ≡ true) × (d.transition.index ≡ own.transition.index) × (d.number ≡ own.number)).
    rw a.0 (ap (λ (z : Delay). z.by) at))
    (λ (a : ((eqb d.transition.index own.transition.index && eqb d.number own.number) ≡ false) × (d.transition.index ≡ own.transition.index → d.number ≢ own.number)).
    absurd (a.1 (ap (λ (z : Delay). z.transition.index) at) (ap (λ (z : Delay). z.number) at)))
    (is_of d own.transition.index own.number)
given_is (d ∷ ds) (suc j) own apart l at =
    ⊎_elim
    (λ (a : ((eqb d.transition.index own.transition.index && eqb d.number own.number) ≡ true) × (d.transition.index ≡ own.transition.index) × (d.number ≡ own.number)).
    let differ = rw at at (apart 0 (suc j) own (omega arith) l) in
    absurd (differ a.1 a.2))
    (λ (a : ((eqb d.transition.index own.transition.index && eqb d.number own.number) ≡ false) × (d.transition.index ≡ own.transition.index → d.number ≢ own.number)).
    rw a.0 (given_is ds j own (λ i k z m n. apart (suc i) (suc k) z (omega (arith, m)) (omega (arith, n))) (omega (arith, l)) at))
    (is_of d own.transition.index own.number)
