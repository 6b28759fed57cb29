-- Earliest runs beside each other, and beside other legal runs.
use Rattle.std.proofs.Common.{ℕ, pos, ◌+◌, ◌-◌, ◌<◌, ◌≤◌, ◌≡◌, List, Some, length, get_or, sym, arith, ⊎_elim}
use Rattle.std.specs.Prelude.{slice_get}
use Rattle.std.proofs.lemmas.Bool.{cases_lt}
use Rattle.std.proofs.lemmas.Int.{ints}
use Rattle.std.proofs.lemmas.List.{ext_get_or}
use Rattle.teg_model.specs.dioid.declared.dates.Date.TheVariants.{At, Never}
use Rattle.teg_model.specs.dioid.Dates.{IsAtMostDate}
use Rattle.teg_net.specs.Nets.{NetLists}
use Rattle.teg_model.proofs.DateFunctions.{Dating}
use Rattle.run_laws.specs.declared.fired.Fired.{Fired}
use Rattle.run_laws.specs.Runs.{dates_of_transition, firing_date}
use Rattle.game_laws.specs.EarliestRunsExist.{IsWholeUpTo, EarliestRunsAreAlike, EarliestRunsAreFirst}
use Rattle.run_laws.proofs.Dates.{get_there, get_last}
use Rattle.game_laws.proofs.Gathering.{all_dated}
use Rattle.game_laws.proofs.Numbering.{earliest_whole}
use Rattle.run_laws.proofs.Least.{not_early}

-- each date of the first list stands at its place in the second
dates_in : (net : NetLists) (x : Dating) (most : ℕ) (run other : List Fired) → IsWholeUpTo net x most run → IsWholeUpTo net x most other → (t i : ℕ) → t < length net.transitions
    → i < length (dates_of_transition run t) → (i < length (dates_of_transition other t)) × (get_or (dates_of_transition other t) i 0 ≡ get_or (dates_of_transition run t) i 0)
dates_in net x most run other h g t i l m =
    let date : ℕ = get_or (dates_of_transition run t) i 0 in
    let one : i + 1 - 1 ≡ i = omega arith in
    let here : firing_date run t (i + 1) ≡ Some date = rw one (get_last (dates_of_transition run t) i m) in
    let dated = h.dated t (i + 1) date l (omega arith) here in
    let there : slice_get (dates_of_transition other t) i ≡ Some date = rw one at (g.all t (i + 1) date l (omega arith) (omega (arith, m, h.no_more t l)) dated) in
    get_there (dates_of_transition other t) i date there

no_longer : (net : NetLists) (x : Dating) (most : ℕ) (run other : List Fired) → IsWholeUpTo net x most run → IsWholeUpTo net x most other → (t : ℕ) → t < length net.transitions
    → length (dates_of_transition run t) ≤ length (dates_of_transition other t)
no_longer net x most run other h g t l =
    ⊎_elim
    (λ (q : length (dates_of_transition other t) < length (dates_of_transition run t)).
    let more = (dates_in net x most run other h g t (length (dates_of_transition other t)) l q).0 in
    absurd (omega (arith, more)))
    (λ (q : length (dates_of_transition run t) ≤ length (dates_of_transition other t)). q)
    (cases_lt (length (dates_of_transition other t)) (length (dates_of_transition run t)))

pub earliest_alike : EarliestRunsAreAlike
earliest_alike net x most run other least e f t l =
    let h = earliest_whole net x most run least e in
    let g = earliest_whole net x most other least f in
    ext_get_or 0 (dates_of_transition run t) (dates_of_transition other t)
    (omega (arith, no_longer net x most run other h g t l, no_longer net x most other run g h t l))
    (λ i m. sym (dates_in net x most run other h g t i l m).1)

pub earliest_first : EarliestRunsAreFirst
earliest_first net x most run other ends live least e legal t k date l o m q =
    let h = earliest_whole net x most run least e in
    let low : IsAtMostDate (x t k) (At (pos date)) = not_early net x other ends live least legal t k date l o q in
    ⊎_elim
    (λ (n : x t k ≡ Never). absurd (rw n at low))
    (λ (n : (first : ℕ) × (x t k ≡ At (pos first))).
    let first : IsAtMostDate (At (pos n.0)) (At (pos date)) = rw n.1 at low in
    (n.0, h.all t k n.0 l o m n.1, omega (arith, ints, first)))
    (all_dated net x least.feasible t k l o)
