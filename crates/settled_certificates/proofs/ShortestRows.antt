-- Rows that tell a form of which neither number nor period can be less tell the settled form of a live net.
use Rattle.std.proofs.Common.{ℕ, ℤ, suc, pos, ◌+◌, ◌<◌, ◌≤◌, ◌≡◌, List, length, get_or, sym, ap, ◌∙◌, arith}
use Rattle.std.specs.Prelude.{◌↔◌}
use Rattle.std.proofs.lemmas.Nat.Gcd.{le_of_dvd, mod-eq-zero_of_dvd}
use Rattle.dioid.specs.declared.dates.Date.{Date}
use Rattle.dioid.specs.Dates.{move}
use Rattle.teg_net.specs.Nets.{NetLists, IsNet}
use Rattle.teg_net.specs.Circuits.{IsLive}
use Rattle.teg_model.specs.Datings.{IsLeastDating, listed_releases, system_of}
use Rattle.teg_model.proofs.DateFunctions.{Dating}
use Rattle.teg_model.proofs.LeastOver.{least_over}
use Rattle.teg_model.proofs.LiveRanks.{live_is_ranked}
use Rattle.teg_model.proofs.OfNet.{net_ends, least_of, least_of_system}
use Rattle.settled_laws.specs.SettledForms.{RepeatsAfter, StandsFor, IsSettledFormOf}
use Rattle.settled_laws.proofs.Repeating.{HasPeriod, HasCommon, gcd_period, period_least, after_least}
use Rattle.dating_certificates.specs.CheckedRows.{date_in_rows}
use Rattle.settled_certificates.specs.SettledRows.{form_by_rows, SettlesAs}
use Rattle.settled_certificates.specs.ShortestRows.{IsLeastNumber, IsLeastPeriod, AreShortestRows}
use Rattle.dating_certificates.specs.ToldRows.{told_dates, date_told}
use Rattle.dating_certificates.proofs.DatesUpTo.{told_in}
use Rattle.dating_certificates.proofs.WholeRows.{same_count}

-- the number is least for dates that are the same up to a period past it
number_as : (n : ℕ) (x y : Dating) (after period last : ℕ) (step : ℕ → ℤ) → ((t k : ℕ) → t < n → 1 ≤ k → k ≤ last → x t k ≡ y t k) → after + period ≤ last
    → IsLeastNumber n x after period step → IsLeastNumber n y after period step
number_as n x y after period last step same room h o all =
    h o (λ t l. same t (after + period) l (omega (arith, o)) room ∙ (all t l ∙ ap (move (step t)) (sym (same t after l o (omega (arith, room))))))

-- and the period for dates that are the same up to two periods past it
period_as : (n : ℕ) (x y : Dating) (after period last : ℕ) → ((t k : ℕ) → t < n → 1 ≤ k → k ≤ last → x t k ≡ y t k) → after + period + period ≤ last
    → IsLeastPeriod n x after period → IsLeastPeriod n y after period
period_as n x y after period last same room h by one less divides goes =
    h by one less divides
    (λ t l.
    let g = goes t l in (
      g.0,
      λ k a m. same t (k + by) l (omega (arith, a)) (omega (arith, m, less, room)) ∙ (g.1 k a m ∙ ap (move g.0) (sym (same t k l (omega (arith, a)) (omega (arith, m, room))))),
    ))

-- of rows that are told
module _ (net : NetLists) (after period rows : ℕ) (dates : List Date) (room : after + period + period < rows) where
  pub number_told : (step : ℕ → ℤ) → IsLeastNumber (length net.transitions) (date_told (told_dates net rows dates)) after period step
      ↔ IsLeastNumber (length net.transitions) (date_in_rows (length net.transitions) dates) after period step
  number_told step = (
    λ h. number_as (length net.transitions) (date_told (told_dates net rows dates)) (date_in_rows (length net.transitions) dates) after period rows step
        (λ t k l o m. told_in rows (length net.transitions) dates t k m) (omega (arith, room)) h,
    λ h. number_as (length net.transitions) (date_in_rows (length net.transitions) dates) (date_told (told_dates net rows dates)) after period rows step
        (λ t k l o m. sym (told_in rows (length net.transitions) dates t k m)) (omega (arith, room)) h,
  )

  pub period_told : IsLeastPeriod (length net.transitions) (date_told (told_dates net rows dates)) after period
      ↔ IsLeastPeriod (length net.transitions) (date_in_rows (length net.transitions) dates) after period
  period_told = (
    λ h. period_as (length net.transitions) (date_told (told_dates net rows dates)) (date_in_rows (length net.transitions) dates) after period rows
        (λ t k l o m. told_in rows (length net.transitions) dates t k m) (omega (arith, room)) h,
    λ h. period_as (length net.transitions) (date_in_rows (length net.transitions) dates) (date_told (told_dates net rows dates)) after period rows
        (λ t k l o m. sym (told_in rows (length net.transitions) dates t k m)) (omega (arith, room)) h,
  )

-- no shorter period goes on, as its greatest common divisor with the period would
none_shorter : (n : ℕ) (x : Dating) (after period : ℕ) (step : ℕ → ℤ) → RepeatsAfter n x after period step → IsLeastPeriod n x after period
    → (p : ℕ) (s : ℕ → ℤ) → p < period → RepeatsAfter n x after p s → ⊥
none_shorter n x after period step h least p s less r =
    let one = r.at_least_one in
    let g : HasCommon n x after p period = gcd_period n x after (suc (p + period)) p period (omega arith) (record { step = s; repeats = r }) (record { step = step; repeats = h }) in
    let form : HasPeriod n x after g.gcd = g.form in
    let low : g.gcd ≤ p = le_of_dvd (omega arith) g.is_gcd.0 in
    least g.gcd form.repeats.at_least_one (omega arith) (mod-eq-zero_of_dvd g.gcd {n = period} g.is_gcd.1) (λ t l. (form.step t, λ k a m. form.repeats.again t k l a))

-- the form that the rows tell is the settled form of the net
pub shortest_settles : (net : NetLists) (after period : ℕ) (dates : List Date) (steps : List ℤ) → IsNet net → IsLive net → SettlesAs net after period dates steps
    → AreShortestRows net after period dates steps → IsSettledFormOf net (form_by_rows (length net.transitions) dates after period steps)
shortest_settles net after period dates steps ok live settles h =
    let n : ℕ = length net.transitions in
    let ranked = live_is_ranked net (net_ends net ok) live in
    let x : Dating = least_over (system_of net (listed_releases net)) ranked.0 ranked.1 in
    let least : IsLeastDating net x = least_of_system net (listed_releases net) x (least_of net (listed_releases net) ranked.0 ranked.1 ranked.2) in
    let stands : StandsFor n (form_by_rows (length net.transitions) dates after period steps) x = settles.stands x least in
    let rows : ℕ = settles.first.rows in
    let count : h.settled.rows ≡ settles.first.rows = same_count net dates h.settled.rows settles.first.rows ok h.settled.whole settles.first.whole in
    let room = h.settled.moves.two_periods in
    let same : (t k : ℕ) → t < length net.transitions → 1 ≤ k → k ≤ settles.first.rows → date_in_rows (length net.transitions) dates t k ≡ x t k = settles.first.same x least in
    let step : ℕ → ℤ = λ t. get_or steps t (pos 0) in
    let number = number_as (length net.transitions) (date_in_rows (length net.transitions) dates) x after period settles.first.rows step same (omega (arith, room, count)) h.least_number in
    let short = period_as (length net.transitions) (date_in_rows (length net.transitions) dates) x after period settles.first.rows same (omega (arith, room, count)) h.least_period in (
      x,
      least,
      record {
        stands = stands;
        least_period = period_least (length net.transitions) x after period step stands.repeats (none_shorter (length net.transitions) x after period step stands.repeats short);
        least_after = after_least (length net.transitions) x after period step stands.repeats number;
      },
    )
