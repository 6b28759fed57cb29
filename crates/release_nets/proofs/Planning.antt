-- When the plan leaves a place its time.
use Rattle.std.proofs.Common.{ℕ, ◌+◌, ◌-◌, ◌*◌, ◌<◌, ◌≤◌, ◌≡◌, length, get_or, ap, arith}
use Rattle.delay_laws.specs.declared.table.Timetable.{Timetable}
use Rattle.delay_laws.specs.PlannedTimetables.{IsWorkableAt, first_planned}
use Rattle.teg_net.specs.declared.entries.Place.{Place}

-- a ready date that is later than its departure is planned does not fit
pub not_ready : (period : ℕ) (t : Timetable) (p : Place) (k : ℕ) → k < length p.ready → length p.ready ≤ p.tokens → first_planned t p.to.index + period * k < get_or p.ready k 0
    → IsWorkableAt period t p → ⊥
not_ready period t p k l few late h =
    let n : k + 1 - 1 ≡ k = omega arith in
    let at = h.ready (k + 1) (omega arith) (omega arith) in
    let same : get_or p.ready (k + 1 - 1) 0 ≡ get_or p.ready k 0 = ap (λ (i : ℕ). get_or p.ready i 0) n in
    let plan : period * (k + 1 - 1) ≡ period * k = ap (λ (i : ℕ). period * i) n in
    omega arith
