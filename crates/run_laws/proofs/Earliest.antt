-- The token of an implicit place: it is there from the firing before on.
use Rattle.std.proofs.Common.{ℕ, suc, ◌+◌, ◌-◌, ◌≡◌, List, [], ◌∷◌, Some, true, ltb, length, refl, arith}
use Rattle.std.proofs.lemmas.Bool.Decides.{nat_tests}
use Rattle.teg_model.specs.Datings.{implicit_place}
use Rattle.run_laws.specs.declared.fired.Fired.{Fired}
use Rattle.run_laws.specs.Runs.{dates_of_transition, next_number, token_date}
use Rattle.run_laws.specs.Earliest.{last_listed_date}
use Rattle.run_laws.proofs.Dates.{get_last}

of_dates : (run : List Fired) (t : ℕ) (dates : List ℕ) → dates_of_transition run t ≡ dates → token_date run (implicit_place t) (next_number run t) ≡ Some (last_listed_date (dates_of_transition run t))
of_dates run t [] e = rw e refl
of_dates run t (x ∷ xs) e =
    rw e
    (let at = get_last (x ∷ xs) (length xs) (omega arith) in
    let one : suc (length xs) + 1 - 1 - 1 ≡ length xs = omega arith in
    let two : suc (length xs) - 1 ≡ length xs = omega arith in
    let test : ltb 1 (suc (length xs) + 1) ≡ true = grind (arith, nat_tests) in
    let none : (n : ℕ) → n + 0 ≡ n = λ n. omega arith in
    rw (test, one, two, at, none) refl)

-- the date of the firing before, and 0 where there is none
pub implicit_date : (run : List Fired) (t : ℕ) → token_date run (implicit_place t) (next_number run t) ≡ Some (last_listed_date (dates_of_transition run t))
implicit_date run t = of_dates run t (dates_of_transition run t) refl
