-- The input lists of a net of releases tell the releases.
use Rattle.std.proofs.Common.{ℕ, zero, suc, ◌+◌, ◌-◌, ◌*◌, ◌<◌, ◌≤◌, ◌≡◌, [], length, get_or, Option, Some, None, sym, ap, subst, ◌∙◌, arith, ⊎_elim}
use Rattle.std.proofs.lemmas.Bool.{cases_lt}
use Rattle.std.proofs.Math.Nat.{mul-le-mul_left}
use Rattle.teg_net.specs.declared.entries.Again.{Again}
use Rattle.teg_net.specs.declared.entries.InputList.{InputList}
use Rattle.teg_net.specs.Nets.{NetLists, HasListsOfInputs, HasListsByRule}
use Rattle.teg_net.specs.Inputs.{moved_by, GoOnBy, IsInputDates, input_date}
use Rattle.teg_net.proofs.InputDates.{dates_by_lists}
use Rattle.periodic_laws.specs.teg_model.Datings.{as_date, listed_releases}
use Rattle.delay_laws.specs.declared.table.Timetable.{Timetable}
use Rattle.delay_laws.specs.PlannedTimetables.{planned, IsPastDelays}
use Rattle.delay_laws.specs.Delays.{IsReleaseAt, IsRelease}
use Rattle.delay_laws.specs.ReleaseNets.{IsReleaseList, IsReleaseNet}
use Rattle.delay_laws.proofs.Plans.{one_more}
use Rattle.delay_laws.proofs.Releases.{is_release, release_date, release_planned}

-- what is past the delays stays past them
past_on : (period : ℕ) (t : Timetable) (i j k : ℕ) → j ≤ k → IsPastDelays period t i j → IsPastDelays period t i k
past_on period t i j k l h n d m e =
    let here = h n d m e in
    let up : period * j ≤ period * k = mul-le-mul_left {m = j} {n = k} period l in
    omega arith

-- past the delays the plan is the release
plan_is_release : (period : ℕ) (t : Timetable) (i k : ℕ) → 1 ≤ k → IsPastDelays period t i k → IsReleaseAt period t i k (planned period t i k)
plan_is_release period t i k o past =
    subst (IsReleaseAt period t i k) (release_planned period t i k (release_date period t i k) o past (is_release period t i k o)) (is_release period t i k o)

-- past the list its dates are the plan
goes_on_planned : (period : ℕ) (t : Timetable) (n i : ℕ) (l : InputList) (u : ℕ → Option ℕ) → IsReleaseList period t n i l → IsInputDates l u
    → (j : ℕ) → u (length l.dates + j) ≡ Some (planned period t i (length l.dates + j))
goes_on_planned period t n i l u rs h zero =
    let long : ℕ = length l.dates in
    let some = rs.some in
    let e : long + 0 ≡ long = omega arith in
    let is : u long ≡ Some (get_or l.dates (long - 1) 0) = h.listed long some (omega arith) in
    let plan = release_planned period t i long (get_or l.dates (long - 1) 0) some rs.past (rs.dates long some (omega arith)) in
    ap u e ∙ is ∙ ap (λ (z : ℕ). Some z) (plan ∙ ap (planned period t i) (sym e))
goes_on_planned period t n i l u rs h (suc j) =
    let long : ℕ = length l.dates in
    let some = rs.some in
    let k : ℕ = long + suc j in
    let past : GoOnBy long (Some (record { every = 1; gap = period })) u = subst (λ (o : Option Again). GoOnBy long o u) rs.again h.past in
    let e : k - 1 ≡ long + j = omega arith in
    let before = goes_on_planned period t n i l u rs h j in
    let more = one_more period (k - 1) (omega arith) in
    let plan : planned period t i (k - 1) + period ≡ planned period t i k = omega arith in
    past k (omega arith) ∙ ap (moved_by period) (ap u e ∙ before ∙ ap (λ (z : ℕ). Some (planned period t i z)) (sym e)) ∙ ap (λ (z : ℕ). Some z) plan

list_tells : (period : ℕ) (t : Timetable) (n i : ℕ) (l : InputList) (u : ℕ → Option ℕ) → IsReleaseList period t n i l → IsInputDates l u
    → (k : ℕ) → 1 ≤ k → (date : ℕ) × (u k ≡ Some date) × IsReleaseAt period t i k date
list_tells period t n i l u rs h k o =
    let long : ℕ = length l.dates in
    ⊎_elim
    (λ (far : long < k).
    let e : long + (k - long) ≡ k = omega arith in (
      planned period t i k,
      ap u (sym e) ∙ goes_on_planned period t n i l u rs h (k - long) ∙ ap (λ (z : ℕ). Some (planned period t i z)) e,
      plan_is_release period t i k o (past_on period t i long k (omega arith) rs.past),
    ))
    (λ (near : k ≤ long). (get_or l.dates (k - 1) 0, h.listed k o near, rs.dates k o near))
    (cases_lt long k)

pub lists_release : (net : NetLists) (period : ℕ) (t : Timetable) (derived : NetLists) → HasListsOfInputs derived → HasListsByRule derived → IsReleaseNet net period t derived
    → IsRelease net period t (λ i k. listed_releases derived (length net.transitions + i) k)
lists_release net period t derived inputs rules r i k l o =
    let n : ℕ = length net.transitions in
    let d : InputList = record { transition = record { index = 0 }; dates = []; again = None } in
    let entry : InputList = get_or derived.inputs i d in
    let rs : IsReleaseList period t n i entry = r.lists i d l in
    let count = r.list_count in
    let dates : IsInputDates entry (input_date derived (n + i)) = (dates_by_lists derived (n + i) inputs.one_list rules).by_list i d (omega arith) rs.of in
    let told = list_tells period t n i entry (input_date derived (n + i)) rs dates k o in
    (told.0, ap as_date told.1, told.2)
