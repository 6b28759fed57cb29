-- Rows that keep what is ready number by number keep all starts, and in a live net they are a plan.
use Rattle.std.proofs.Common.{ℕ, ◌+◌, ◌<◌, ◌≤◌, ◌≡◌, Bool, List, length, get_or, Option, refl, ap, ◌∙◌, arith, ⊎_elim}
use Rattle.std.specs.Prelude.{pos, Any, IsTrue, ◌↔◌}
use Rattle.std.proofs.lemmas.Bool.{cases_lt}
use Rattle.std.proofs.lemmas.Int.{ints}
use Rattle.std.proofs.lemmas.List.{get_or_default}
use Rattle.dioid.specs.declared.dates.Date.{Date}
use Rattle.dioid.specs.declared.dates.Date.TheVariants.{At}
use Rattle.dioid.specs.Dates.{IsAtMostDate}
use Rattle.dioid.proofs.DateOrder.{at_most_trans}
use Rattle.teg_net.specs.declared.entries.Place.{Place}
use Rattle.teg_net.specs.Nets.{NetLists, IsNet}
use Rattle.teg_net.specs.Circuits.{IsLive, no_place}
use Rattle.teg_net.specs.ReadyDates.{ready_date, start_date}
use Rattle.teg_net.proofs.StartDates.{IsStartDate-start_date}
use Rattle.teg_model.proofs.DateFunctions.{Dating}
use Rattle.teg_model.proofs.OfNet.{net_ends}
use Rattle.due_laws.specs.MeetingDueDates.{AreLatestInputs}
use Rattle.due_laws.proofs.LatestDates.{latest_keeps_dues}
use Rattle.due_laws.proofs.LatestInputs.{latest_dates_are_inputs}
use Rattle.latest_laws.specs.BackwardSolutions.{AreDueUpTo}
use Rattle.latest_laws.specs.MetByStarts.{StartsAreKept}
use Rattle.latest_laws.proofs.MetByStarts.{zero_meet_by_starts}
use Rattle.dating_certificates.specs.CheckedRows.{date_up_to}
use Rattle.latest_certificates.specs.LatestRows.{AreLatestRows, AreLocallyLatest}
use Rattle.latest_certificates.specs.PlanRows.{AreLocalPlanRows, ArePlanRows}
use Rattle.dating_certificates.specs.ToldRows.{ToldDates, told_dates, date_told}
use Rattle.latest_certificates.specs.ToldStarts.{KeepsStarts}
use Rattle.latest_certificates.proofs.SolvedRows.{never_past, local_latest}

-- where the row keeps 0 and the tokens, it keeps the starts
start_kept : (told : ToldDates) (t k : ℕ) → t < length told.net.transitions → KeepsStarts told k → IsAtMostDate (At (pos (start_date told.net t k))) (date_told told t k)
start_kept told t k in' h =
    ⊎_elim
    (λ (none : start_date told.net t k ≡ 0). rw none (h.zero t in'))
    (λ (one : Any (λ p. (p.to.index ≡ t) × (k ≤ p.tokens) × (ready_date p k ≡ start_date told.net t k)) told.net.places).
    let p : Place = get_or told.net.places one.0 no_place in
    let is : p ≡ one.1 = get_or_default told.net.places one.0 no_place one.1 one.2 ∙ one.3 in
    let into : p.to.index ≡ t = ap (λ q. q.to.index) is ∙ one.4.0 in
    let few : k ≤ p.tokens = rw is one.4.1 in
    let date : ready_date p k ≡ start_date told.net t k = ap (λ q. ready_date q k) is ∙ one.4.2 in
    rw (into, date) at (h.tokens one.0 no_place one.2 few))
    (IsStartDate-start_date told.net t k).reached

-- and where it keeps the starts, it keeps 0 and the tokens
tokens_kept : (told : ToldDates) (k : ℕ) → IsNet told.net → ((t : ℕ) → t < length told.net.transitions → IsAtMostDate (At (pos (start_date told.net t k))) (date_told told t k))
    → KeepsStarts told k
tokens_kept told k ok h = record {
  zero = λ t l. at_most_trans (At (pos 0)) (At (pos (start_date told.net t k))) (date_told told t k) (omega (arith, ints)) (h t l);
  tokens = λ i d l few.
      let p : Place = get_or told.net.places i d in
      let to_in : p.to.index < length told.net.transitions = rw (get_or_default told.net.places i d no_place l) ((net_ends told.net ok) i no_place l).1 in
      let low : ready_date p k ≤ start_date told.net p.to.index k = (IsStartDate-start_date told.net p.to.index k).late_enough i d l refl few in
      at_most_trans (At (pos (ready_date p k))) (At (pos (start_date told.net p.to.index k))) (date_told told p.to.index k) (omega (arith, ints, low)) (h p.to.index to_in);
}

-- what tells whether all rows keep them tells whether the starts are kept
pub tells_starts : (net : NetLists) (numbers : ℕ) (dates : List Date) → IsNet net
    → ((k : ℕ) → 1 ≤ k → k ≤ numbers → KeepsStarts (told_dates net numbers dates) k) ↔ StartsAreKept net numbers (date_up_to numbers (length net.transitions) dates)
tells_starts net numbers dates ok =
    let told : ToldDates = told_dates net numbers dates in (
      λ h t k l o few. start_kept told t k l (h k o few),
      λ h k o few. tokens_kept told k ok (λ t l. h t k l o few),
    )

-- one number more
pub starts_more : (told : ToldDates) (i : ℕ) → ((k : ℕ) → 1 ≤ k → k ≤ i → KeepsStarts told k) → KeepsStarts told (i + 1) → (k : ℕ) → 1 ≤ k → k ≤ i + 1 → KeepsStarts told k
starts_more told i h s k o m = ⊎_elim
    (λ (q : i < k). let k_is : k ≡ i + 1 = omega (arith, q, m) in rw k_is s)
    (λ (q : k ≤ i). h k o q)
    (cases_lt i k)

-- nothing is due past the last row of latest dates
due_up_to : (net : NetLists) (due : ℕ → ℕ → Option ℕ) (numbers : ℕ) (dates : List Date) → AreLatestRows net due numbers dates → AreDueUpTo net due numbers
due_up_to net due numbers dates h t k d l is = ⊎_elim
    (λ (q : numbers < k).
    let y : Dating = date_up_to numbers (length net.transitions) dates in
    let late : IsAtMostDate (y t k) (At (pos d)) = latest_keeps_dues net due y h.latest t k d l (omega (arith, q)) is in
    absurd (rw (never_past net numbers dates t k q) at late))
    (λ (q : k ≤ numbers). q)
    (cases_lt numbers k)

-- in a live net the local test is that of a plan
pub local_plan : (net : NetLists) → IsNet net → IsLive net → (due : ℕ → ℕ → Option ℕ) (numbers : ℕ) (dates : List Date)
    → AreLocalPlanRows net due numbers dates ↔ ArePlanRows net due numbers dates
local_plan net ok live due numbers dates =
    let y : Dating = date_up_to numbers (length net.transitions) dates in
    let both = local_latest net (net_ends net ok) live due numbers dates in (
      λ h.
          let latest : AreLatestRows net due numbers dates = both.0 h.latest in
          record { latest = latest; in_time = (zero_meet_by_starts net (net_ends net ok) live due numbers (due_up_to net due numbers dates latest) y latest.latest).1 h.starts },
      λ h. record {
        latest = both.1 h.latest;
        starts = (zero_meet_by_starts net (net_ends net ok) live due numbers (due_up_to net due numbers dates h.latest) y h.latest.latest).0 h.in_time;
      },
    )

-- what tells whether rows of latest dates keep the starts tells whether they are a plan row by row
pub tells_local_plan : (net : NetLists) (due : ℕ → ℕ → Option ℕ) (numbers : ℕ) (dates : List Date) (told : Bool) → IsNet net
    → AreLocallyLatest net due numbers dates → (IsTrue told ↔ ((k : ℕ) → 1 ≤ k → k ≤ numbers → KeepsStarts (told_dates net numbers dates) k))
    → IsTrue told ↔ AreLocalPlanRows net due numbers dates
tells_local_plan net due numbers dates told ok latest h =
    let both = tells_starts net numbers dates ok in (
      λ t. record { latest = latest; starts = both.0 (h.0 t) },
      λ p. h.1 (both.1 p.starts),
    )

-- what tells whether the rows are a plan row by row tells it of the net
pub tells_plan : (net : NetLists) (due : ℕ → ℕ → Option ℕ) (numbers : ℕ) (dates : List Date) (told : Bool) → IsNet net
    → (IsTrue told ↔ AreLocalPlanRows net due numbers dates) → IsLive net → IsTrue told ↔ ArePlanRows net due numbers dates
tells_plan net due numbers dates told ok h live =
    let both = local_plan net ok live due numbers dates in
    (λ t. both.0 (h.0 t), λ f. h.1 (both.1 f))

-- and a plan has the latest inputs
pub tells_inputs : (net : NetLists) (due : ℕ → ℕ → Option ℕ) (numbers : ℕ) (dates : List Date) (told : Bool) → IsNet net
    → (IsTrue told ↔ AreLocalPlanRows net due numbers dates) → IsLive net → IsTrue told → AreLatestInputs net due (date_up_to numbers (length net.transitions) dates)
tells_inputs net due numbers dates told ok h live is =
    let plan : ArePlanRows net due numbers dates = (tells_plan net due numbers dates told ok h live).0 is in
    latest_dates_are_inputs net (net_ends net ok) live due plan.in_time (date_up_to numbers (length net.transitions) dates) plan.latest.latest
