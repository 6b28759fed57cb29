-- Runs of the least dating, one after another.
use Rattle.std.proofs.Common.{ℕ, ◌+◌, ◌-◌, ◌<◌, ◌≤◌, ◌≡◌, List, [], ◌∷◌, ◌++◌, length, refl, sym, subst, ◌∙◌, arith, ⊎_elim}
use Rattle.std.specs.Prelude.{All}
use Rattle.std.proofs.lemmas.Bool.{cases_lt}
use Rattle.std.proofs.lemmas.List.{get_or_append_left, get_or-append_right, length-append}
use Rattle.std.proofs.lemmas.List.Elements.{All-append}
use Rattle.teg_net.specs.Nets.{NetLists}
use Rattle.dioid.specs.declared.dates.Date.{Date}
use Rattle.jump_laws.specs.Runs.{Run, IsInRun, IsRunOf, date_by_runs}
use Rattle.jump_laws.proofs.Runs.{runs_tell}
use Rattle.teg_model.specs.Datings.{IsLeastDating}
use Rattle.run_rows.specs.LeastRuns.{AreLateRuns, AreLeastRuns, AreRunsLately}
use Rattle.run_rows.specs.ReadRuns.{IsLeastRun}

-- runs up to a number and one that goes on from there
pub joined : (net : NetLists) (before end : ℕ) (runs : List Run) (a : Run) → AreLeastRuns net before runs → IsLeastRun net before end a → AreLeastRuns net end (runs ++ a ∷ [])
joined net before end runs a h l x is =
    let own = h x is in
    let from = l.from in
    let to = l.to in
    let long = length-append runs (a ∷ []) in
    record {
      runs = All-append (IsRunOf (length net.transitions) x) runs (a ∷ []) own.runs (λ i d m. let one : i ≡ 0 = omega (arith, m) in rw one (l.least x is));
      cover = λ k o m.
          ⊎_elim
          (λ (q : before < k).
          (length runs, a, omega (arith, long), get_or-append_right runs (a ∷ []) (length runs) (length runs) a refl (omega arith) ∙ (let zero_at : length runs - length runs ≡ 0 = omega arith in rw zero_at refl), record { from = omega (arith, from, q); to = omega (arith, to, m) }))
          (λ (q : k ≤ before).
          let (i, d, n, e, has) = own.cover k o q in
          (i, d, omega (arith, n, long), get_or_append_left runs (a ∷ []) d i n ∙ e, has))
          (cases_lt before k);
    }

-- so has a run that goes on so far
pub late_joined : (net : NetLists) (most before end : ℕ) (runs : List Run) (a : Run) → ((x : ℕ → ℕ → Date) → IsLeastDating net x → All (IsRunOf (length net.transitions) x) runs)
    → IsLeastRun net before end a → before + most ≤ end → AreLateRuns net most end (runs ++ a ∷ [])
late_joined net most before end runs a h l far x is =
    let from = l.from in
    let to = l.to in
    let long = length-append runs (a ∷ []) in
    record {
      runs = All-append (IsRunOf (length net.transitions) x) runs (a ∷ []) (h x is) (λ i d m. let one : i ≡ 0 = omega (arith, m) in rw one (l.least x is));
      cover = λ k o near m. (
        length runs,
        a,
        omega (arith, long),
        get_or-append_right runs (a ∷ []) (length runs) (length runs) a refl (omega arith) ∙ (let zero_at : length runs - length runs ≡ 0 = omega arith in rw zero_at refl),
        record { from = omega (arith, from, near, far); to = omega (arith, to, m) },
      );
    }

-- and so has one behind runs and rows
pub late_behind : (net : NetLists) (most before middle end : ℕ) (runs : List Run) (a b : Run) → AreLateRuns net most before runs → IsLeastRun net before middle a → IsLeastRun net middle end b
    → middle + most ≤ end → AreLateRuns net most end ((runs ++ a ∷ []) ++ b ∷ [])
late_behind net most before middle end runs a b h la lb far =
    late_joined net most middle end (runs ++ a ∷ []) b
    (λ x is. All-append (IsRunOf (length net.transitions) x) runs (a ∷ []) (h x is).runs (λ i d m. let one : i ≡ 0 = omega (arith, m) in rw one (la.least x is))) lb far

-- such runs tell the last dates
pub late_tell : (count : ℕ) (x : ℕ → ℕ → Date) (most last : ℕ) (rs : List Run) → AreRunsLately count x most last rs
    → (t k : ℕ) → t < count → 1 ≤ k → last < k + most → k ≤ last → date_by_runs rs t k ≡ x t k
late_tell count x most last rs h t k l o near m =
    let (i, d, q, e, has) = h.cover k o near m in
    runs_tell count x rs h.runs t k l i d q (subst (λ v. IsInRun v k) (sym e) has)
