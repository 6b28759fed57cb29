-- A firing whose latest date is its start: that date is 0, or the ready date of an initial token that it takes.
use Rattle.std.proofs.Common.{ℕ, ◌<◌, ◌≤◌, ◌≡◌, length, get_or, sym, ap, ◌∙◌, arith, ⊎_elim}
use Rattle.std.specs.Prelude.{pos, Any}
use Rattle.std.proofs.lemmas.Int.{ints}
use Rattle.std.proofs.lemmas.List.{get_or_default}
use Rattle.date_rows.specs.dioid.declared.dates.Date.TheVariants.{At as on_date}
use Rattle.date_rows.specs.dioid.Dates.{IsAtMostDate}
use Rattle.teg_net.specs.declared.entries.Place.{Place}
use Rattle.teg_net.specs.Nets.{NetLists}
use Rattle.teg_net.specs.Circuits.{no_place}
use Rattle.teg_net.specs.ReadyDates.{ready_date, start_date}
use Rattle.teg_net.proofs.StartDates.{IsStartDate-start_date}
use Rattle.teg_jit.specs.Plans.{PlanDates, dates_of_plan}
use Rattle.teg_jit.specs.FirstLate.{HasDateAtStart, HasDateWhenReady, HasDateZero, IsAtStart, IsWhenReady, StartsAreKept}

pub ready_is_start : (net : NetLists) (plan : PlanDates) (t k : ℕ) → plan.width ≡ length net.transitions → StartsAreKept net plan → IsWhenReady net plan t k → IsAtStart net plan t k
ready_is_start net plan t k wide kept h =
    let from = h.1 in
    let p : Place = get_or net.places h.0 no_place in
    let date = from.date in
    let within : t < plan.width = rw h.2 at date.in_range in
    let low : ready_date p k ≤ start_date net t k = (IsStartDate-start_date net t k).late_enough h.0 no_place from.place_in h.2 from.takes in
    let there : dates_of_plan plan t k ≡ on_date (pos (ready_date p k)) = rw h.2 at date.is in
    let up : IsAtMostDate (on_date (pos (start_date net t k))) (on_date (pos (ready_date p k))) = rw there at (kept t k (rw wide at within) date.from_one) in
    let same : ready_date p k ≡ start_date net t k = omega (arith, ints, low, up) in
    record { in_range = within; from_one = date.from_one; to_last = date.to_last; is = there ∙ ap (λ n. on_date (pos n)) same }

pub none_at_start : (net : NetLists) (plan : PlanDates) → (HasDateWhenReady net plan → ⊥) → (HasDateZero plan → ⊥) → HasDateAtStart net plan → ⊥
none_at_start net plan ready zero' h =
    let t : ℕ = h.0 in
    let k : ℕ = h.1 in
    let date = h.2 in
    ⊎_elim
    (λ (none : start_date net t k ≡ 0).
    zero' (t, k, record { in_range = date.in_range; from_one = date.from_one; to_last = date.to_last; is = date.is ∙ ap (λ n. on_date (pos n)) none }))
    (λ (one : Any (λ p. (p.to.index ≡ t) × (k ≤ p.tokens) × (ready_date p k ≡ start_date net t k)) net.places).
    let p : Place = get_or net.places one.0 no_place in
    let is : p ≡ one.1 = get_or_default net.places one.0 no_place one.1 one.2 ∙ one.3 in
    let into : p.to.index ≡ t = ap (λ q. q.to.index) is ∙ one.4.0 in
    let few : k ≤ p.tokens = rw is one.4.1 in
    let same : start_date net t k ≡ ready_date p k = sym (ap (λ q. ready_date q k) is ∙ one.4.2) in
    ready (
      one.0,
      k,
      record {
        place_in = one.2;
        takes = few;
        date = record { in_range = rw into date.in_range; from_one = date.from_one; to_last = date.to_last; is = rw into (date.is ∙ ap (λ n. on_date (pos n)) same) };
      },
    ))
    (IsStartDate-start_date net t k).reached
