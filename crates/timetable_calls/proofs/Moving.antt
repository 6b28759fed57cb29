-- Departures moved by ready dates, and by the places in a round.
use Rattle.std.proofs.Common.{ℕ, ◌+◌, ◌-◌, ◌*◌, ◌<◌, ◌≤◌, ◌≡◌, ◌≢◌, ◌⊎◌, inl, inr, List, length, sym, ap, subst, ◌∙◌, arith, ⊎_elim}
use Rattle.std.specs.Prelude.{slice_index, All}
use Rattle.std.proofs.lemmas.Bool.{cases_lt, cases_eq}
use Rattle.std.proofs.Math.Nat.{mul-le-mul_left}
use Rattle.teg_net.specs.declared.entries.PlaceId.{PlaceId}
use Rattle.teg_net.specs.Nets.{NetLists}
use Rattle.teg_net.specs.ReadyDates.{ready_date}
use Rattle.teg_net.specs.Circuits.{no_place, place_at, from_of}
use Rattle.teg_net.specs.Parts.{to_of}
use Rattle.change_laws.specs.SlowerNets.{HasReadyDatesOfTokens}
use Rattle.timetable_calls.specs.FractionPeriods.{AreFirstsAt}
use Rattle.timetable_calls.specs.Departures.{IsMoved, IsFirstReady, AreStarts, IsBy, IsRoundUpTo}

-- no departure is moved back
pub no_earlier : (before after : List ℕ) (at date : ℕ) → IsMoved before at date after → (t : ℕ) → slice_index before t ≤ slice_index after t
no_earlier before after at date m t = ⊎_elim
    (λ (e : t ≡ at).
    let one : slice_index before t ≡ slice_index before at = ap (slice_index before) e in
    let two : slice_index after t ≡ slice_index after at = ap (slice_index after) e in
    let here = m.here in
    omega arith)
    (λ (n : t ≢ at). let same = m.others t n in omega arith)
    (cases_eq t at)

-- what is moved is late enough
pub late_enough : (before after : List ℕ) (at date : ℕ) → IsMoved before at date after → date ≤ slice_index after at
late_enough before after at date m = let here = m.here in omega arith

-- an id is that of its number
same_number : (p : PlaceId) (k : ℕ) → p.index ≡ k → p ≡ record { index = k }
same_number p k e = ap (λ (z : ℕ). record { index = z }) e

-- workable dates wait for the ready dates of each place
pub waits : (net : NetLists) (scale period : ℕ) (g : ℕ → ℕ) → HasReadyDatesOfTokens net → AreFirstsAt net scale period g → (p : PlaceId) → p.index < length net.places → (k : ℕ) → k < length (place_at net p).ready
    → scale * slice_index (place_at net p).ready k ≤ g (to_of net p) + period * k
waits net scale period g of_tokens w p l k below =
    let few = of_tokens p.index no_place l in
    let own = (w p.index no_place l).ready (k + 1) (omega arith) (omega arith) in
    let same : (k + 1) - 1 ≡ k = omega arith in
    let read : scale * ready_date (place_at net p) (k + 1) ≤ g (to_of net p) + period * ((k + 1) - 1) = own in
    rw same at read

-- past a ready date for which the departures are moved, if they are too early
pub ready_more : (scale period : ℕ) (ready : List ℕ) (k first own new : ℕ) → IsFirstReady scale period ready k first → k < length ready → own ≡ scale * slice_index ready k - period * k
    → first ≤ new → own ≤ new → (new ≡ first) ⊎ (new ≡ own) → IsFirstReady scale period ready (k + 1) new
ready_more scale period ready k first own new h l is up over one = record {
  late = λ j m. ⊎_elim
      (λ (q : j < k). let low = h.late j q in omega arith)
      (λ (q : k ≤ j).
      let e : j ≡ k = omega arith in
      let same : scale * slice_index ready j ≡ scale * slice_index ready k = ap (λ (z : ℕ). scale * slice_index ready z) e in
      let paid : period * j ≡ period * k = ap (λ (z : ℕ). period * z) e in
      omega arith)
      (cases_lt j k);
  least = λ d each. let low = h.least d each in let here = each k l in ⊎_elim (λ (e : new ≡ first). omega arith) (λ (e : new ≡ own). omega arith) one;
}

-- past a place whose end is moved to wait for its ready dates
pub starts_more : (net : NetLists) (scale period most k first : ℕ) (before after : List ℕ) → HasReadyDatesOfTokens net → All (λ p. All (λ d. d ≤ most) p.ready) net.places
    → AreStarts net scale period most k before → k < length net.places
    → IsMoved before (to_of net (record { index = k })) first after
    → ((j : ℕ) → j < length (place_at net (record { index = k })).ready → scale * slice_index (place_at net (record { index = k })).ready j ≤ first + period * j)
    → ((d : ℕ) → ((j : ℕ) → j < length (place_at net (record { index = k })).ready → scale * slice_index (place_at net (record { index = k })).ready j ≤ d + period * j) → first ≤ d)
    → AreStarts net scale period most (k + 1) after
starts_more net scale period most k first before after of_tokens up_to h in' m late least =
    let id : PlaceId = record { index = k } in
    let at : ℕ = to_of net id in
    let long = m.count in
    let count = h.count in
    record {
      count = omega arith;
      ready = λ p l p_in j below. ⊎_elim
          (λ (q : p.index < k). let old = h.ready p q p_in j below in let up = no_earlier before after at first m (to_of net p) in omega arith)
          (λ (q : k ≤ p.index).
          let e : p ≡ id = same_number p k (omega arith) in
          subst (λ (z : PlaceId). j < length (place_at net z).ready → scale * slice_index (place_at net z).ready j ≤ slice_index after (to_of net z) + period * j) (sym e)
          (λ low. let own = late j low in let up = late_enough before after at first m in omega arith) below)
          (cases_lt p.index k);
      least = λ g w t l. moved (g t) t (h.least g w t l) (λ e.
          least (g t) (λ j low. subst (λ (z : ℕ). scale * slice_index (place_at net id).ready j ≤ g z + period * j) (sym e) (waits net scale period g of_tokens w id in' j low)));
      small = λ t l. moved (scale * most) t (h.small t (omega arith)) (λ e. least (scale * most) (λ j low. let own = dated j low in omega arith));
    } where
      moved : (end t : ℕ) → slice_index before t ≤ end → (t ≡ to_of net (record { index = k }) → first ≤ end) → slice_index after t ≤ end
      moved end t old new = ⊎_elim
          (λ (e : t ≡ to_of net (record { index = k })).
          let one : slice_index before t ≡ slice_index before (to_of net (record { index = k })) = ap (slice_index before) e in
          let two : slice_index after t ≡ slice_index after (to_of net (record { index = k })) = ap (slice_index after) e in
          let here = m.here in
          let low = new e in
          omega arith)
          (λ (n : t ≢ to_of net (record { index = k })). let same = m.others t n in omega arith)
          (cases_eq t (to_of net (record { index = k })))

      dated : (j : ℕ) → j < length (place_at net (record { index = k })).ready → scale * slice_index (place_at net (record { index = k })).ready j ≤ scale * most
      dated j low = mul-le-mul_left scale (up_to k no_place in' j 0 low)

-- past a place that has moved its end
pub round_more : (net : NetLists) (scale period k date : ℕ) (before old after : List ℕ) → IsRoundUpTo net scale period before k old → k < length net.places
    → IsMoved old (to_of net (record { index = k })) date after
    → date ≡ (slice_index before (from_of net (record { index = k })) + scale * (place_at net (record { index = k })).hold) - period * (place_at net (record { index = k })).tokens
    → IsRoundUpTo net scale period before (k + 1) after
round_more net scale period k date before old after h in' m is =
    let id : PlaceId = record { index = k } in
    let at : ℕ = to_of net id in
    let long = m.count in
    let count = h.count in
    record {
      count = omega arith;
      kept = λ t. let one = h.kept t in let two = no_earlier old after at date m t in omega arith;
      late = λ p l p_in. ⊎_elim
          (λ (q : p.index < k). let own = h.late p q p_in in let up = no_earlier old after at date m (to_of net p) in omega arith)
          (λ (q : k ≤ p.index).
          let e : p ≡ id = same_number p k (omega arith) in
          subst (λ (z : PlaceId). slice_index before (from_of net z) + scale * (place_at net z).hold ≤ slice_index after (to_of net z) + period * (place_at net z).tokens) (sym e)
          (let up = late_enough old after at date m in by_numbers (slice_index before (from_of net id) + scale * (place_at net id).hold) (period * (place_at net id).tokens) date (slice_index after at) is up))
          (cases_lt p.index k);
      by = λ t. ⊎_elim
          (λ (e : t ≡ at).
          ⊎_elim
          (λ (more : slice_index old t < date). inr (record {
            place = id;
            in_range = in';
            to = sym e;
            is = (
                let here = m.here in
                let one : slice_index old t ≡ slice_index old at = ap (slice_index old) e in
                let two : slice_index after t ≡ slice_index after at = ap (slice_index after) e in
                let three : slice_index after t ≡ date = omega arith in
                moved_by (slice_index before (from_of net id) + scale * (place_at net id).hold) (period * (place_at net id).tokens) date (slice_index after t) (slice_index old t) is three more);
          }))
          (λ (less : date ≤ slice_index old t).
          let here = m.here in
          let one : slice_index old t ≡ slice_index old at = ap (slice_index old) e in
          let two : slice_index after t ≡ slice_index after at = ap (slice_index after) e in
          same t (omega arith))
          (cases_lt (slice_index old t) date))
          (λ (n : t ≢ at). same t (m.others t n))
          (cases_eq t at);
    } where
      by_numbers : (sum paid date new : ℕ) → date ≡ sum - paid → date ≤ new → sum ≤ new + paid
      by_numbers sum paid date new e l = omega arith

      moved_by : (sum paid date new was : ℕ) → date ≡ sum - paid → new ≡ date → was < date → new + paid ≤ sum
      moved_by sum paid date new was e f l = omega arith

      same : (t : ℕ) → slice_index after t ≡ slice_index old t → (slice_index after t ≡ slice_index before t) ⊎ IsBy net scale period before t (slice_index after t)
      same t e = ⊎_elim
          (λ (q : slice_index old t ≡ slice_index before t). inl (e ∙ q))
          (λ (q : IsBy net scale period before t (slice_index old t)). inr (subst (λ (z : ℕ). IsBy net scale period before t z) (sym e) q))
          (h.by t)
