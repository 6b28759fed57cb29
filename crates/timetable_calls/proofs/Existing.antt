-- There are least dates of first firings: those that the rounds give.
use Rattle.std.proofs.Common.{ℕ, zero, suc, ◌+◌, ◌-◌, ◌*◌, ◌<◌, ◌≤◌, ◌≡◌, List, length, get_or, set, refl, arith, ⊎_elim, max, inl, inr}
use Rattle.std.specs.Prelude.{slice_index, sum_by, All}
use Rattle.std.proofs.Math.ListN.{replicate}
use Rattle.std.proofs.lemmas.Bool.{cases_lt}
use Rattle.std.proofs.lemmas.List.Sums.{get_or-le-sum_by}
use Rattle.std.proofs.lemmas.List.{length-set, get_or-set_same, get_or-set_other, get_or-replicate, length-replicate}
use Rattle.teg_net.specs.declared.entries.Place.{Place}
use Rattle.teg_net.specs.declared.entries.PlaceId.{PlaceId}
use Rattle.teg_net.specs.Nets.{NetLists}
use Rattle.teg_net.specs.Circuits.{place_at, from_of}
use Rattle.teg_net.specs.Parts.{to_of}
use Rattle.teg_loops.specs.Loops.{EndsBelow}
use Rattle.change_laws.specs.SlowerNets.{HasReadyDatesOfTokens}
use Rattle.timetable_calls.specs.Departures.{IsMoved, IsFirstReady, AreStarts, IsRoundUpTo, AreRounded}
use Rattle.timetable_calls.specs.LeastFirsts.{LeastFirstsExist, LeastFirstsAreOne, LeastFirstsExistAt, LeastFirstsAreOneAt}
use Rattle.timetable_calls.proofs.Moving.{ready_more, starts_more, round_more}
use Rattle.timetable_calls.proofs.Units.{least_by_units, in_units}
use Rattle.timetable_calls.proofs.Rounding.{rounded_first, rounded_more, least_firsts}

-- a list in which one date is moved
moved : (before : List ℕ) (at date : ℕ) → at < length before → (after : List ℕ) × IsMoved before at date after
moved before at date l =
    let new : ℕ = max (slice_index before at) date in (
      set before at new,
      record {
        count = length-set before at new;
        here = get_or-set_same before at new 0 l;
        others = λ t n. get_or-set_other before at t new 0 n;
      },
    )

ready_first : (scale period : ℕ) (ready : List ℕ) (k : ℕ) → k ≤ length ready → (first : ℕ) × IsFirstReady scale period ready k first
ready_first scale period ready zero l = (0, record { late = λ j m. absurd (omega arith); least = λ d h. omega arith })
ready_first scale period ready (suc k) l =
    let w = ready_first scale period ready k (omega arith) in
    let own : ℕ = scale * slice_index ready k - period * k in
    let e : k + 1 ≡ suc k = omega arith in
    ⊎_elim
    (λ (m : w.0 < own).
    let next : (first : ℕ) × IsFirstReady scale period ready (k + 1) first = (own, ready_more scale period ready k w.0 own own w.1 (omega arith) refl (omega arith) (omega arith) (inr refl)) in
    rw e at next)
    (λ (m : own ≤ w.0).
    let next : (first : ℕ) × IsFirstReady scale period ready (k + 1) first = (w.0, ready_more scale period ready k w.0 own w.0 w.1 (omega arith) refl (omega arith) m (inl refl)) in
    rw e at next)
    (cases_lt w.0 own)

-- the sum of the ready dates of a place
abbrev ready_sum : Place → ℕ
ready_sum p = sum_by (λ d. d) p.ready

module _ (net : NetLists) (scale period : ℕ) (ends : EndsBelow net (length net.transitions)) (of_tokens : HasReadyDatesOfTokens net) where
  -- no ready date is later than all of them together, and no hold longer
  abbrev most : ℕ
  most = sum_by ready_sum net.places

  abbrev hold : ℕ
  hold = sum_by (λ (p : Place). p.hold) net.places

  ready_up_to : All (λ p. All (λ d. d ≤ most) p.ready) net.places
  ready_up_to i d l j e m =
      let own = get_or-le-sum_by (λ (z : ℕ). z) (get_or net.places i d).ready j e m in
      let all = get_or-le-sum_by ready_sum net.places i d l in
      omega (arith, own, all)

  holds_up_to : All (λ p. p.hold ≤ hold) net.places
  holds_up_to i d l = get_or-le-sum_by (λ (p : Place). p.hold) net.places i d l

  none_yet : AreStarts net scale period most 0 (replicate (length net.transitions) 0)
  none_yet =
      let long : length (replicate {A = ℕ} (length net.transitions) 0) ≡ length net.transitions = length-replicate (length net.transitions) 0 in
      record {
        count = long;
        ready = λ p l. absurd (omega arith);
        least = λ g w t l. (let e = at_zero t l in omega arith);
        small = λ t l. (let m : t < length net.transitions = rw long at l in let e = at_zero t m in omega arith);
      } where
        at_zero : (t : ℕ) → t < length net.transitions → slice_index (replicate {A = ℕ} (length net.transitions) 0) t ≡ 0
        at_zero t l = get_or-replicate (length net.transitions) t 0 0 l

  starts_up_to : (k : ℕ) → k ≤ length net.places → (firsts : List ℕ) × AreStarts net scale period most k firsts
  starts_up_to zero l = (replicate (length net.transitions) 0, none_yet)
  starts_up_to (suc k) l =
      let old = starts_up_to k (omega arith) in
      let id : PlaceId = record { index = k } in
      let ready : List ℕ = (place_at net id).ready in
      let w = ready_first scale period ready (length ready) (omega arith) in
      let count = old.1.count in
      let low = ends.to_in id (omega arith) in
      let new = moved old.0 (to_of net id) w.0 (omega arith) in
      let e : k + 1 ≡ suc k = omega arith in
      let next : (firsts : List ℕ) × AreStarts net scale period most (k + 1) firsts =
      (new.0, starts_more net scale period most k w.0 old.0 new.0 of_tokens ready_up_to old.1 (omega arith) new.1 w.1.late w.1.least) in
      rw e at next

  round_up_to : (before : List ℕ) → length before ≡ length net.transitions → (k : ℕ) → k ≤ length net.places → (after : List ℕ) × IsRoundUpTo net scale period before k after
  round_up_to before long zero l = (before, record { count = refl; kept = λ t. omega arith; late = λ p m. absurd (omega arith); by = λ t. inl refl })
  round_up_to before long (suc k) l =
      let old = round_up_to before long k (omega arith) in
      let id : PlaceId = record { index = k } in
      let count = old.1.count in
      let low = ends.to_in id (omega arith) in
      let date : ℕ = (slice_index before (from_of net id) + scale * (place_at net id).hold) - period * (place_at net id).tokens in
      let new = moved old.0 (to_of net id) date (omega arith) in
      let e : k + 1 ≡ suc k = omega arith in
      let next : (after : List ℕ) × IsRoundUpTo net scale period before (k + 1) after = (new.0, round_more net scale period k date before old.0 new.0 old.1 (omega arith) new.1 refl) in
      rw e at next

  rounds : (k : ℕ) → (firsts : List ℕ) × AreRounded net scale period most hold k firsts
  rounds zero = let w = starts_up_to (length net.places) (omega arith) in (w.0, rounded_first net scale period most hold ends w.0 w.1)
  rounds (suc k) =
      let old = rounds k in
      let new = round_up_to old.0 old.1.count (length net.places) (omega arith) in
      let e : k + 1 ≡ suc k = omega arith in
      let next : (firsts : List ℕ) × AreRounded net scale period most hold (k + 1) firsts = (new.0, rounded_more net scale period most hold ends k old.0 new.0 holds_up_to old.1 new.1) in
      rw e at next

pub firsts_exist_at : LeastFirstsExistAt
firsts_exist_at net scale period ends of_tokens time =
    let w = rounds net scale period ends of_tokens (length net.transitions) in
    (slice_index w.0, least_firsts net scale period (most net scale period ends of_tokens) (hold net scale period ends of_tokens) ends time w.0 w.1)

pub firsts_exist : LeastFirstsExist
firsts_exist net period ends of_tokens time =
    let w = firsts_exist_at net 1 period ends of_tokens (in_units net period time) in
    (w.0, least_by_units net period w.0 w.1)

pub firsts_one : LeastFirstsAreOne
firsts_one net period f g a b t l = let up = a.least g b.workable t l in let down = b.least f a.workable t l in omega arith

pub firsts_one_at : LeastFirstsAreOneAt
firsts_one_at net scale period f g a b t l = let up = a.least g b.workable t l in let down = b.least f a.workable t l in omega arith
