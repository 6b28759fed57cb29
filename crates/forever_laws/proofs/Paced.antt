-- Where no round on the way to a row's transition takes more time than the row gives, a late number is late soon.
use Rattle.std.proofs.Common.{ℕ, zero, suc, ◌+◌, ◌*◌, ◌<◌, ◌≤◌, ◌≡◌, List, [], ◌∷◌, length, refl, sym, ap, subst, ◌∙◌, arith, ⊎_elim}
use Rattle.std.specs.Prelude.{All, sum_by}
use Rattle.std.proofs.lemmas.Bool.{cases_lt}
use Rattle.std.proofs.lemmas.List.Sums.{sum_by-cons}
use Rattle.std.proofs.Math.Nat.{mul-le-mul_left}
use Rattle.walk_times.specs.dioid.declared.dates.Date.{Date}
use Rattle.teg_net.specs.declared.entries.PlaceId.{PlaceId}
use Rattle.teg_net.specs.declared.entries.Place.{Place}
use Rattle.teg_net.specs.Nets.{NetLists, HasEndsInRange}
use Rattle.teg_net.specs.Circuits.{place_at, IsPathBetween, IsLive, time_of, tokens_of}
use Rattle.walk_times.specs.teg_model.Datings.{IsLeastUnder, implicit_place, system_of}
use Rattle.walk_times.proofs.teg_model_proofs.LeastOver.{least_over}
use Rattle.walk_times.proofs.teg_model_proofs.LiveRanks.{live_is_ranked}
use Rattle.walk_times.proofs.teg_model_proofs.OfNet.{which_place, least_of, least_of_system}
use Rattle.teg_loops.specs.ClosedPieces.{HasRound}
use Rattle.teg_loops.proofs.Again.{round_in}
use Rattle.teg_loops.proofs.Taking.{Keeps, closed_keeps}
use Rattle.due_laws.specs.MeetingDueDates.{inputs_at_zero}
use Rattle.bound_laws.proofs.Unrolled.{unrolled, ends_in}
use Rattle.endless_due.specs.declared.row.EndlessRow.{EndlessRow}
use Rattle.endless_due.specs.EndlessRows.{IsEndlessRow}
use Rattle.forever_laws.specs.PacedRows.{KeepsPace, paced_bound, PacedLateIsSoon, NoRowsAreMet}
use Rattle.forever_laws.proofs.GoingOn.{due_number, due_again}
use Rattle.forever_laws.proofs.Late.{ReachedFrom, IsLateBefore, taken_out}
use Rattle.forever_laws.proofs.Zeros.{least_number, reached}
use Rattle.forever_laws.proofs.Soon.{live_in, few_in_round, many_places, late_from, late_to}

-- ---- without its waits

-- the places of the net itself in a path with implicit places
record OwnPath (net : NetLists) (a b : ℕ) (ps : List PlaceId) : Type 0 where
  places : List PlaceId
  path : IsPathBetween net a places b
  time : time_of net places ≡ time_of (unrolled net) ps
  tokens : tokens_of net places ≤ tokens_of (unrolled net) ps

own_path : (net : NetLists) (ps : List PlaceId) (a b : ℕ) → IsPathBetween (unrolled net) a ps b → OwnPath net a b ps
own_path net [] a b h = record { places = []; path = h; time = refl; tokens = omega arith }
own_path net (p ∷ ps) a b h =
    let one = sum_by-cons (λ q. (place_at (unrolled net) q).tokens) p ps in
    let two = sum_by-cons (λ q. (place_at (unrolled net) q).hold) p ps in
    ⊎_elim
    (λ own.
    let same : place_at (unrolled net) p ≡ place_at net p = own.1 in
    let to : (place_at (unrolled net) p).to.index ≡ (place_at net p).to.index = ap (λ (q : Place). q.to.index) same in
    let tokens : (place_at (unrolled net) p).tokens ≡ (place_at net p).tokens = ap (λ (q : Place). q.tokens) same in
    let hold : (place_at (unrolled net) p).hold ≡ (place_at net p).hold = ap (λ (q : Place). q.hold) same in
    let rest : OwnPath net (place_at net p).to.index b ps = own_path net ps (place_at net p).to.index b (subst (λ (z : ℕ). IsPathBetween (unrolled net) z ps b) to h.2) in
    let three = sum_by-cons (λ q. (place_at net q).tokens) p rest.places in
    let four = sum_by-cons (λ q. (place_at net q).hold) p rest.places in
    let five = rest.time in
    let six = rest.tokens in
    record { places = p ∷ rest.places; path = (own.0, ap (λ (q : Place). q.from.index) (sym same) ∙ h.1, rest.path); time = omega arith; tokens = omega arith })
    (λ wait.
    let same : place_at (unrolled net) p ≡ implicit_place wait.0 = wait.1 in
    let from : wait.0 ≡ a = ap (λ (q : Place). q.from.index) (sym same) ∙ h.1 in
    let to : (place_at (unrolled net) p).to.index ≡ a = ap (λ (q : Place). q.to.index) same ∙ from in
    let hold : (place_at (unrolled net) p).hold ≡ 0 = ap (λ (q : Place). q.hold) same in
    let rest : OwnPath net a b ps = own_path net ps a b (subst (λ (z : ℕ). IsPathBetween (unrolled net) z ps b) to h.2) in
    let five = rest.time in
    let six = rest.tokens in
    record { places = rest.places; path = rest.path; time = omega arith; tokens = omega arith })
    (which_place net p.index h.0)

-- ---- rounds that give no more time than the due dates do

within_turns : (every gap q time tokens : ℕ) → 1 ≤ every → tokens ≤ q * every → every * time ≤ gap * tokens → time ≤ gap * q
within_turns every gap q time tokens some few h =
    let more : gap * tokens ≤ gap * (q * every) = mul-le-mul_left {m = tokens} {n = q * every} gap few in
    let turned : gap * (q * every) ≡ every * (gap * q) = grind arith in
    ⊎_elim
    (λ (less : gap * q < time).
    let up : every * (gap * q + 1) ≤ every * time = mul-le-mul_left {m = gap * q + 1} {n = time} every (omega arith) in
    let spread : every * (gap * q + 1) ≡ every * (gap * q) + every = grind arith in
    absurd (omega arith))
    (λ (not : time ≤ gap * q). not)
    (cases_lt (gap * q) time)

module _ (net : NetLists) (ends : HasEndsInRange net) (live : IsLive net) (x : ℕ → ℕ → Date) (least : IsLeastUnder net inputs_at_zero x)
    (r : EndlessRow) (row : IsEndlessRow net r) (pace : KeepsPace net r) (most : ℕ) (some : 1 ≤ most) (few : All (λ p. p.tokens ≤ most) net.places) where
  abbrev z : ℕ → ℕ → ℕ
  z = least_number net ends live x least

  -- a closed path of the net with its implicit places
  flat : (round way : List PlaceId) (s q : ℕ) → IsPathBetween (unrolled net) s round s → IsPathBetween (unrolled net) s way r.transition.index → tokens_of (unrolled net) round ≡ q * r.every
      → time_of (unrolled net) round ≤ r.gap * q
  flat round way s q closed leads turns =
      let own : OwnPath net s s round = own_path net round s s closed in
      let on : OwnPath net s r.transition.index way = own_path net way s r.transition.index leads in
      let time = own.time in
      let tokens = own.tokens in
      let within : time_of net own.places ≤ r.gap * q =
      within_turns r.every r.gap q (time_of net own.places) (tokens_of net own.places) row.goes_on.some (omega arith)
      (pace own.places on.places s own.path on.path) in
      omega arith

  -- past the bound an earlier number is late, too
  earlier : (k : ℕ) → paced_bound net most r < k → due_number r k < z r.transition.index k → IsLateBefore (z r.transition.index) (due_number r) k
  earlier k far late =
      let e : NetLists = unrolled net in
      let n : ℕ = length net.transitions in
      let t : ℕ = r.transition.index in
      let every : ℕ = r.every in
      let w : ReachedFrom e n most z t k = reached net ends live x least most some few t k row.in_range (omega arith) in
      let number = w.number_is in
      let early = w.early in
      let many : n * every ≤ length w.walk = many_places net most every some few w.walk w.from t w.leads (omega arith) in
      let h : HasRound e w.from t every (n * every) w.walk = round_in e n every w.walk w.from t (ends_in net ends) row.in_range w.leads row.goes_on.some many in
      let own : Keeps e 0 0 h.round = closed_keeps e 0 0 (λ ps c. record { some = live_in net live ps c; ratio = omega arith }) h.round h.at h.closed h.some in
      let soon = h.early in
      let low : tokens_of e h.round ≤ every * (n * most) = few_in_round net most every some few h.round h.at h.at h.closed (omega arith) in
      taken_out e n most every r.gap (length r.dates) (n * every) z (due_number r) t k row.in_range row.goes_on.some (due_again net r row) w h own.some (omega arith)
      (flat h.round h.after h.at h.times h.closed h.last h.tokens) late

  -- so a late number is past a late one up to the bound
  soon_late : (fuel k : ℕ) → k < fuel → 1 ≤ k → due_number r k < z r.transition.index k → (j : ℕ) × (1 ≤ j) × (j ≤ paced_bound net most r) × (due_number r j < z r.transition.index j)
  soon_late zero k l one late = absurd (omega arith)
  soon_late (suc fuel) k l one late = ⊎_elim
      (λ (far : paced_bound net most r < k).
      let old : IsLateBefore (z r.transition.index) (due_number r) k = earlier k far late in
      let less = old.2 in
      soon_late fuel old.0 (omega arith) old.1 old.3)
      (λ (near : k ≤ paced_bound net most r). (k, one, near, late))
      (cases_lt (paced_bound net most r) k)

pub paced_late_is_soon : PacedLateIsSoon
paced_late_is_soon net ends live x least r row pace most some few none k due date late =
    let here = late_to net ends live x least r k due date late in
    let soon = soon_late net ends live x least r row pace most some few (suc k) k (omega arith) late.from_one here in
    none soon.0 (due_number r soon.0) (least_number net ends live x least r.transition.index soon.0) soon.2 (late_from net ends live x least r row soon.0 soon.1 soon.3)

-- ---- no rows

pub no_rows_are_met : NoRowsAreMet
no_rows_are_met net ends live =
    let ranked = live_is_ranked net ends live in
    let least = least_of net inputs_at_zero ranked.0 ranked.1 ranked.2 in
    let x : ℕ → ℕ → Date = least_over (system_of net inputs_at_zero) ranked.0 ranked.1 in
    (x, least_of_system net inputs_at_zero x least, λ t k d l one due. absurd (cc))
