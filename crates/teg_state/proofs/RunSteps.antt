-- The dates of a transition in a run, and how often it fired.
use Rattle.std.proofs.Common.{ℕ, ◌<◌, ◌≤◌, ◌≡◌, ◌≢◌, List, [], ◌∷◌, ◌++◌, true, false, eqb, length, get_or, set, refl, sym, ◌∙◌, arith, ⊎_elim}
use Rattle.std.specs.Prelude.{All}
use Rattle.std.proofs.lemmas.Bool.{cases_Bool, cases_eq}
use Rattle.std.proofs.lemmas.List.{length-set, get_or-set_same, get_or-set_other}
use Rattle.std.proofs.lemmas.List.Elements.{All-cons, All-nil, All-tail}
use Rattle.run_laws.specs.declared.fired.Fired.{Fired}
use Rattle.run_laws.specs.Runs.{dates_of_transition}
use Rattle.run_laws.proofs.Dates.{dates_of_own, dates_of_other}
use Rattle.state_laws.specs.NetsLeft.{count_in}
use Rattle.teg_state.specs.Histories.{AreDatesByTransition}

pub dates_few : (run : List Fired) (t most : ℕ) → All (λ f. f.date ≤ most) run → All (λ d. d ≤ most) (dates_of_transition run t)
dates_few [] t most h = All-nil (λ d. d ≤ most)
dates_few (f ∷ run) t most h =
    let more = dates_few run t most (All-tail (λ g. g.date ≤ most) f run h) in
    ⊎_elim
    (λ (q : eqb f.transition.index t ≡ true). rw q (All-cons (λ d. d ≤ most) f.date (dates_of_transition run t) (h 0 f (omega arith)) more))
    (λ (q : eqb f.transition.index t ≡ false). rw q more)
    (cases_Bool (eqb f.transition.index t))

pub count_few : (run : List Fired) (t : ℕ) → count_in run t ≤ length run
count_few [] t = omega arith
count_few (f ∷ run) t =
    let more = count_few run t in
    ⊎_elim
    (λ (q : eqb f.transition.index t ≡ true). rw q (omega (arith, more)))
    (λ (q : eqb f.transition.index t ≡ false). rw q (omega (arith, more)))
    (cases_Bool (eqb f.transition.index t))

-- ---- a run with the dates of each transition beside it

-- one more firing of a transition whose dates are kept
pub columns_more : (run : List Fired) (columns : List (List ℕ)) (f : Fired) → AreDatesByTransition run columns → f.transition.index < length columns
    → AreDatesByTransition (run ++ f ∷ []) (set columns f.transition.index (get_or columns f.transition.index [] ++ f.date ∷ []))
columns_more run columns f h in' t l =
    let own : ℕ = f.transition.index in
    let column : List ℕ = get_or columns own [] ++ f.date ∷ [] in
    let long : length (set columns own column) ≡ length columns = length-set columns own column in
    ⊎_elim
    (λ (e : own ≡ t).
    let here = get_or-set_same columns own column [] in' in
    let was = h own in' in
    rw (dates_of_own run f t e, ← e, here, was) refl)
    (λ (e : own ≢ t).
    let e2 : t ≢ own = λ q. e (sym q) in
    get_or-set_other columns own t column [] e2 ∙ h t (rw long at l) ∙ sym (dates_of_other run f t e))
    (cases_eq own t)

-- and of one whose dates are not
pub columns_same : (run : List Fired) (columns : List (List ℕ)) (f : Fired) → AreDatesByTransition run columns → length columns ≤ f.transition.index
    → AreDatesByTransition (run ++ f ∷ []) columns
columns_same run columns f h out t l =
    let other : f.transition.index ≢ t = omega (arith, out, l) in
    h t l ∙ sym (dates_of_other run f t other)
