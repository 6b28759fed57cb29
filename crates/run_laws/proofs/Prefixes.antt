-- Legal runs, from their first firing on.
use Rattle.std.proofs.Common.{ℕ, zero, suc, ◌+◌, ◌<◌, ◌≤◌, ◌≡◌, List, [], ◌∷◌, ◌++◌, length, take, get_or, subst, arith, ⊎_elim}
use Rattle.std.proofs.lemmas.Bool.{cases_lt}
use Rattle.std.proofs.lemmas.List.{take_all, take_more, take_at, take-append-le, take-take, get_or_append_left, get_or_push, get_or-take, length_push, length-take-le}
use Rattle.teg_net.specs.Nets.{NetLists}
use Rattle.run_laws.specs.declared.fired.Fired.{Fired}
use Rattle.run_laws.specs.Runs.{IsLegalAfter, IsLegalRun}

abbrev pub no_firing : Fired
no_firing = record { transition = record { index = 0 }; date = 0 }

along_to : (net : NetLists) (P : List Fired → Type 0) → P [] → ((before : List Fired) (f : Fired) → P before → IsLegalAfter net before f → P (before ++ f ∷ []))
    → (run : List Fired) → IsLegalRun net run → (n : ℕ) → n ≤ length run → P (take n run)
along_to net P first step run legal zero l = first
along_to net P first step run legal (suc n) l =
    let before = along_to net P first step run legal n (omega arith) in
    let e : suc n ≡ n + 1 = omega arith in
    rw e (rw (take_more run n no_firing (omega arith)) (step (take n run) (get_or run n no_firing) before (legal n no_firing (omega arith))))

-- what holds of no firing, and stays with each legal one, holds of a legal run
pub along : (net : NetLists) (P : List Fired → Type 0) → P [] → ((before : List Fired) (f : Fired) → P before → IsLegalAfter net before f → P (before ++ f ∷ []))
    → (run : List Fired) → IsLegalRun net run → P run
along net P first step run legal = subst P (take_all (length run) run (omega arith)) (along_to net P first step run legal (length run) (omega arith))

pub legal_begins : (net : NetLists) → IsLegalRun net []
legal_begins net i d l = absurd (omega arith)

pub legal_push : (net : NetLists) (run : List Fired) (f : Fired) → IsLegalRun net run → IsLegalAfter net run f → IsLegalRun net (run ++ f ∷ [])
legal_push net run f h g i d l =
    let long = length_push run f in
    ⊎_elim
    (λ (q : i < length run). rw (take-append-le i run (f ∷ []) (omega arith), get_or_append_left run (f ∷ []) d i q) (h i d q))
    (λ (q : length run ≤ i).
    let e : length run ≡ i = omega arith in
    rw (take_at run (f ∷ []) i e, get_or_push run f d i e) g)
    (cases_lt i (length run))

-- the first firings of a legal run are one
pub legal_take : (net : NetLists) (run : List Fired) (n : ℕ) → n ≤ length run → IsLegalRun net run → IsLegalRun net (take n run)
legal_take net run n few h i d l =
    let in' : i < n = omega (arith, l, length-take-le n run few) in
    rw (take-take i n run (omega arith), get_or-take n run i d in') (h i d (omega arith))
