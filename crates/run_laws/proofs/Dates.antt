-- The dates of the firings of one transition in a run, and one more firing.
use Rattle.std.proofs.Common.{ℕ, zero, suc, ◌<◌, ◌≤◌, ◌≡◌, ◌≢◌, List, [], ◌∷◌, ◌++◌, Option, Some, None, true, false, eqb, length, get_or, refl, arith, ⊎_elim}
use Rattle.std.specs.Prelude.{slice_get}
use Rattle.std.proofs.lemmas.Bool.{cases_Bool}
use Rattle.std.proofs.lemmas.Bool.Decides.{nat_tests}
use Rattle.run_laws.specs.declared.fired.Fired.{Fired}
use Rattle.run_laws.specs.Runs.{dates_of_transition, IsThereBy}

-- a firing of the transition adds its date
pub dates_of_own : (run : List Fired) (f : Fired) (t : ℕ) → f.transition.index ≡ t → dates_of_transition (run ++ f ∷ []) t ≡ dates_of_transition run t ++ f.date ∷ []
dates_of_own [] f t e = let is : eqb f.transition.index t ≡ true = grind (arith, nat_tests) in rw is refl
dates_of_own (g ∷ run) f t e =
    let more = dates_of_own run f t e in
    ⊎_elim
    (λ (q : eqb g.transition.index t ≡ true). rw (q, more) refl)
    (λ (q : eqb g.transition.index t ≡ false). rw (q, more) refl)
    (cases_Bool (eqb g.transition.index t))

-- and one of another transition nothing
pub dates_of_other : (run : List Fired) (f : Fired) (t : ℕ) → f.transition.index ≢ t → dates_of_transition (run ++ f ∷ []) t ≡ dates_of_transition run t
dates_of_other [] f t e = let is : eqb f.transition.index t ≡ false = grind (arith, nat_tests) in rw is refl
dates_of_other (g ∷ run) f t e =
    let more = dates_of_other run f t e in
    ⊎_elim
    (λ (q : eqb g.transition.index t ≡ true). rw (q, more) refl)
    (λ (q : eqb g.transition.index t ≡ false). rw (q, more) refl)
    (cases_Bool (eqb g.transition.index t))

pub length_dates : (run : List Fired) (t : ℕ) → length (dates_of_transition run t) ≤ length run
length_dates [] t = omega arith
length_dates (f ∷ run) t =
    let more = length_dates run t in
    ⊎_elim
    (λ (q : eqb f.transition.index t ≡ true). rw q (omega arith))
    (λ (q : eqb f.transition.index t ≡ false). rw q (omega arith))
    (cases_Bool (eqb f.transition.index t))

pub get_there : (xs : List ℕ) (i x : ℕ) → slice_get xs i ≡ Some x → (i < length xs) × (get_or xs i 0 ≡ x)
get_there [] i x e = cc
get_there (y ∷ xs) zero x e = (omega arith, cc)
get_there (y ∷ xs) (suc i) x e = let more = get_there xs i x e in (omega (arith, more.0), more.1)

pub get_last : (xs : List ℕ) (i : ℕ) → i < length xs → slice_get xs i ≡ Some (get_or xs i 0)
get_last [] i l = absurd (omega arith)
get_last (x ∷ xs) zero l = refl
get_last (x ∷ xs) (suc i) l = get_last xs i (omega arith)

-- what is there by a date is there by a later one
pub later_there : (a b : ℕ) (o : Option ℕ) → a ≤ b → IsThereBy a o → IsThereBy b o
later_there a b None l h = h
later_there a b (Some d) l h = omega (arith, l, h)
