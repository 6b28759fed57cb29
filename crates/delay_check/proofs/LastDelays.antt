-- Delays that are left: they are one, and over past a number where rows tell so.
use Rattle.std.proofs.Common.{ℕ, ℤ, ◌+◌, ◌<◌, ◌≤◌, ◌≡◌, ◌⊎◌, List, length, inl, inr, sym, ◌∙◌, ⊎_elim, arith}
use Rattle.std.proofs.lemmas.Bool.{cases_lt}
use Rattle.dioid.specs.declared.dates.Date.{Date}
use Rattle.settled_certificates.specs.SettledRows.{form_by_rows}
use Rattle.delay_laws.specs.declared.table.Timetable.{Timetable}
use Rattle.delay_laws.specs.DelayOutcomes.{IsRecovered}
use Rattle.delay_laws.specs.Delays.{AreDelaysLeft, IsFormOfDelays}
use Rattle.delay_laws.specs.PlannedTimetables.{planned}
use Rattle.delay_laws.proofs.Dated.{delayed_datings_are_one, one_above}
use Rattle.delay_laws.proofs.Keeping.{delays_die_out}
use Rattle.delay_laws.proofs.Steps.{forms_tell_delays}
use Rattle.release_nets.specs.PlannedNets.{IsPlannedNet}
use Rattle.teg_net.specs.Nets.{HasEndsInRange, NetLists}
use Rattle.delay_check.specs.DelayRows.{delay_by_rows}
use Rattle.delay_check.specs.ShownDelays.{EndsWhatIsLeft}

-- two that are left are the same
pub one_delay : (net : NetLists) → HasEndsInRange net → (period : ℕ) (table : Timetable) (delay other : ℕ → ℕ → ℕ) → AreDelaysLeft net period table delay
    → AreDelaysLeft net period table other → (i k : ℕ) → i < length net.transitions → 1 ≤ k → delay i k ≡ other i k
one_delay net ends period table delay other left own i k l o =
    let same = (delayed_datings_are_one net ends period table left.0 left.1 own.0 own.1 left.2 own.2).0 i k l o in
    one_above (planned period table i k) (delay i k) (other i k) (sym (left.3 i k l o) ∙ (same ∙ own.3 i k l o))

-- whichever delays are left, they end where these do
pub ends_left : (net : NetLists) → HasEndsInRange net → (period : ℕ) (table : Timetable) (delay : ℕ → ℕ → ℕ) → AreDelaysLeft net period table delay
    → (last : ℕ) → IsRecovered net delay last → EndsWhatIsLeft net period table last
ends_left net ends period table delay own last over other left =
    let same : (i k : ℕ) → i < length net.transitions → 1 ≤ k → other i k ≡ delay i k = one_delay net ends period table other delay left own in
    record {
      none_after = λ i k l m. same i k l (omega (arith, m)) ∙ over.none_after i k l m;
      last = ⊎_elim
          (λ (none : last < 1). inl (omega (arith, none)))
          (λ (some : 1 ≤ last). ⊎_elim
          (λ (none : last ≡ 0). inl none)
          (λ (late : (i : ℕ) × (i < length net.transitions) × (1 ≤ delay i last)).
          let is = same late.0 last late.1 some in
          let above = late.2 in
          inr (late.0, late.1, omega (arith, is, above)))
          over.last)
          (cases_lt last 1);
    }

-- no delay is at most none
none_at_most : (delay : ℕ) → delay ≡ 0 → delay ≤ 0
none_at_most delay none = omega (arith, none)

-- where the rows tell the form of the delays, no delay is left past a number up to the end of the first period, and one is left at
-- that number unless it is 0, it is the least after which none is left
pub recovers : (net : NetLists) (period : ℕ) (table : Timetable) (width : ℕ) (dates : List Date) (after turn : ℕ) (steps : List ℤ) (count last : ℕ)
    → IsPlannedNet net period table → IsFormOfDelays net period table (form_by_rows width dates after turn steps) → count ≡ after + turn → last ≤ after
    → ((i k : ℕ) → i < length net.transitions → last < k → k ≤ count → delay_by_rows width dates after turn steps period table i k ≡ 0)
    → (last ≡ 0) ⊎ ((i : ℕ) × (i < length net.transitions) × (1 ≤ delay_by_rows width dates after turn steps period table i last))
    → EndsWhatIsLeft net period table last
recovers net period table width dates after turn steps count last h form told within none late =
    let settled = (forms_tell_delays net h.ends period table h.workable (form_by_rows width dates after turn steps) form).0 in
    ends_left net h.ends period table (delay_by_rows width dates after turn steps period table) settled.left last
    (delays_die_out net period table (delay_by_rows width dates after turn steps period table) after turn
    (record { left = settled.left; some = settled.some; comes_again = settled.comes_again })
    (λ i k l m o.
    none_at_most (delay_by_rows width dates after turn steps period table i k) (none i k l (omega (arith, within, m)) (omega (arith, told, o))))
    last
    (λ i k l m o. none i k l m (omega (arith, told, o)))
    late)
