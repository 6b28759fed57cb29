-- Departures after as many rounds as there are transitions leave each place its time, where the period leaves it to each circuit.
use Rattle.std.proofs.Common.{ℕ, ◌+◌, ◌-◌, ◌*◌, ◌<◌, ◌≤◌, ◌≡◌, ◌⊎◌, inl, inr, List, [], ◌∷◌, ◌++◌, length, refl, sym, ap, subst, ◌∙◌, arith, ⊎_elim}
use Rattle.std.specs.Prelude.{slice_index, sum_by, All}
use Rattle.std.proofs.lemmas.Bool.{cases_lt}
use Rattle.std.proofs.Math.Nat.{mul-le-mul_left}
use Rattle.std.proofs.lemmas.List.{get_or_default, get_or_past, length-append}
use Rattle.std.proofs.lemmas.List.Sums.{sum_by-cons, sum_by-append}
use Rattle.teg_net.specs.declared.entries.PlaceId.{PlaceId}
use Rattle.teg_net.specs.Limits.{greatest_hold, greatest_input_date}
use Rattle.teg_net.specs.Nets.{NetLists, IsNet}
use Rattle.teg_net.specs.ReadyDates.{ready_date}
use Rattle.teg_net.specs.Circuits.{no_place, place_at, from_of, IsPathBetween, IsCircuit, time_of, tokens_of}
use Rattle.teg_net.specs.Parts.{to_of}
use Rattle.teg_net.proofs.PathLaws.{IsPathBetween-append, IsPathBetween-split}
use Rattle.teg_loops.specs.Loops.{EndsBelow}
use Rattle.teg_loops.proofs.Splitting.{shorten}
use Rattle.teg_loops.proofs.Straight.{straight_short}
use Rattle.timetable_calls.specs.FractionPeriods.{AreEarliestAt, AreLeastFirstsAt, LeavesCircuitsTimeAt, LeavesTimeAt}
use Rattle.timetable_calls.proofs.Along.{along}
use Rattle.timetable_calls.specs.Departures.{AreUpTo, AreStarts, IsBy, IsRoundUpTo, IsBacked, AreRounded}

-- what a path takes, in parts of the unit
takes_of : (net : NetLists) (scale : ℕ) (ps : List PlaceId) → sum_by (λ p. scale * (place_at net p).hold) ps ≡ scale * time_of net ps
takes_of net scale [] = omega arith
takes_of net scale (p ∷ ps) =
    let one = sum_by-cons (λ q. scale * (place_at net q).hold) p ps in
    let two = sum_by-cons (λ q. (place_at net q).hold) p ps in
    let rest = takes_of net scale ps in
    let three : scale * time_of net (p ∷ ps) ≡ scale * (place_at net p).hold + scale * time_of net ps = rw two (grind arith) in
    omega arith

-- what a path costs at the period
cost_of : (net : NetLists) (period : ℕ) (ps : List PlaceId) → sum_by (λ p. period * (place_at net p).tokens) ps ≡ period * tokens_of net ps
cost_of net period [] = omega arith
cost_of net period (p ∷ ps) =
    let one = sum_by-cons (λ q. period * (place_at net q).tokens) p ps in
    let two = sum_by-cons (λ q. (place_at net q).tokens) p ps in
    let rest = cost_of net period ps in
    let three : period * tokens_of net (p ∷ ps) ≡ period * (place_at net p).tokens + period * tokens_of net ps = rw two (grind arith) in
    omega arith

-- a path with one place more
time_more : (net : NetLists) (scale : ℕ) (ps : List PlaceId) (p : PlaceId) → scale * time_of net (ps ++ p ∷ []) ≡ scale * time_of net ps + scale * (place_at net p).hold
time_more net scale ps p =
    let one = sum_by-append (λ q. (place_at net q).hold) ps (p ∷ []) in
    let two = sum_by-cons (λ q. (place_at net q).hold) p [] in
    let three : time_of net (ps ++ p ∷ []) ≡ time_of net ps + (place_at net p).hold = omega arith in
    rw three (grind arith)

tokens_more : (net : NetLists) (period : ℕ) (ps : List PlaceId) (p : PlaceId) → period * tokens_of net (ps ++ p ∷ []) ≡ period * tokens_of net ps + period * (place_at net p).tokens
tokens_more net period ps p =
    let one = sum_by-append (λ q. (place_at net q).tokens) ps (p ∷ []) in
    let two = sum_by-cons (λ q. (place_at net q).tokens) p [] in
    let three : tokens_of net (ps ++ p ∷ []) ≡ tokens_of net ps + (place_at net p).tokens = omega arith in
    rw three (grind arith)

-- a list is empty, or has a last entry
record HasLast (ps : List PlaceId) : Type 0 where
  pub front : List PlaceId
  pub last : PlaceId
  pub is : ps ≡ front ++ last ∷ []

last_or : (ps : List PlaceId) → (ps ≡ []) ⊎ HasLast ps
last_or [] = inl refl
last_or (p ∷ ps) = inr (⊎_elim
    (λ (e : ps ≡ []). record { front = []; last = p; is = ap (λ (z : List PlaceId). p ∷ z) e })
    (λ (h : HasLast ps). record { front = p ∷ h.front; last = h.last; is = ap (λ (z : List PlaceId). p ∷ z) h.is })
    (last_or ps))

-- no departure of a net is late after a few rounds
pub small_enough : (net : NetLists) (scale period k : ℕ) (firsts : List ℕ) → IsNet net → k ≤ length net.transitions → AreRounded net scale period greatest_input_date greatest_hold k firsts
    → AreUpTo (scale * 10000000000000) firsts
small_enough net scale period k firsts ok few h = λ t l.
    let up = h.small t l in
    let most = ok.few_transitions in
    let all : scale * (greatest_input_date + k * greatest_hold) ≤ scale * 10000000000000 = mul-le-mul_left scale (omega (arith, few, most)) in
    omega (arith, up, all)

module _ (net : NetLists) (scale period most hold : ℕ) (ends : EndsBelow net (length net.transitions)) where
  abbrev n : ℕ
  n = length net.transitions

  -- the first departures are those of no round
  pub rounded_first : (firsts : List ℕ) → AreStarts net scale period most (length net.places) firsts → AreRounded net scale period most hold 0 firsts
  rounded_first firsts h = record {
    begun = firsts;
    starts = h;
    count = h.count;
    small = λ t l. let up = h.small t l in let is : scale * (most + 0 * hold) ≡ scale * most = grind arith in omega (arith, up, is);
    lower = λ ps s t l path short. at_start ps s t path short;
    backed = λ t l. record { from = t; places = []; path = refl; is = omega arith };
  } where
    at_start : (ps : List PlaceId) (s t : ℕ) → IsPathBetween net s ps t → length ps ≤ 0 → slice_index firsts s + scale * time_of net ps ≤ slice_index firsts t + period * tokens_of net ps
    at_start [] s t e short = let same : slice_index firsts s ≡ slice_index firsts t = ap (slice_index firsts) e in omega arith
    at_start (p ∷ ps) s t e short = absurd (omega arith)

  -- and with a round more
  pub rounded_more : (k : ℕ) (before after : List ℕ) → All (λ p. p.hold ≤ hold) net.places → AreRounded net scale period most hold k before
      → IsRoundUpTo net scale period before (length net.places) after → AreRounded net scale period most hold (k + 1) after
  rounded_more k before after holds h r =
      let count = h.count in
      let long = r.count in
      record {
        begun = h.begun;
        starts = h.starts;
        count = omega arith;
        small = λ t l. up_to t (omega arith);
        lower = λ ps s t l path short. lower ps s t l path short;
        backed = λ t l. backed t l;
      } where
        up_to : (t : ℕ) → t < length before → slice_index after t ≤ scale * (most + (k + 1) * hold)
        up_to t l = ⊎_elim
            (λ (e : slice_index after t ≡ slice_index before t). let old = h.small t l in let more = wider in omega arith)
            (λ (b : IsBy net scale period before t (slice_index after t)).
            let count = h.count in
            let low = ends.from_in b.place b.in_range in
            let old = h.small (from_of net b.place) (omega arith) in
            let own : scale * (place_at net b.place).hold ≤ scale * hold = mul-le-mul_left scale (holds b.place.index no_place b.in_range) in
            let more = wider in
            let is = b.is in
            omega arith)
            (r.by t) where
              wider : scale * (most + (k + 1) * hold) ≡ scale * (most + k * hold) + scale * hold
              wider = grind arith

        lower : (ps : List PlaceId) (s t : ℕ) → t < n → IsPathBetween net s ps t → length ps ≤ k + 1 → slice_index h.begun s + scale * time_of net ps ≤ slice_index after t + period * tokens_of net ps
        lower ps s t l path short = ⊎_elim
            (λ (e : ps ≡ []). let none : length ps ≡ 0 = ap (λ (z : List PlaceId). length z) e in let old = h.lower ps s t l path (omega arith) in let up = r.kept t in omega arith)
            (λ (q : HasLast ps).
            let cut = IsPathBetween-split net q.front (q.last ∷ []) s t (subst (λ (z : List PlaceId). IsPathBetween net s z t) q.is path) in
            let p : PlaceId = q.last in
            let in' : p.index < length net.places = cut.2.0 in
            let from : from_of net p ≡ cut.0 = cut.2.1 in
            let to : to_of net p ≡ t = cut.2.2 in
            let first : IsPathBetween net s q.front (from_of net p) = subst (λ (z : ℕ). IsPathBetween net s q.front z) (sym from) cut.1 in
            let long : length ps ≡ length q.front + 1 = ap (λ (z : List PlaceId). length z) q.is ∙ length-append q.front (p ∷ []) in
            let old = h.lower q.front s (from_of net p) (ends.from_in p in') first (omega arith) in
            let step = r.late p in' in' in
            let same : slice_index after (to_of net p) ≡ slice_index after t = ap (slice_index after) to in
            let time : scale * time_of net ps ≡ scale * time_of net (q.front ++ p ∷ []) = ap (λ (z : List PlaceId). scale * time_of net z) q.is in
            let tokens : period * tokens_of net ps ≡ period * tokens_of net (q.front ++ p ∷ []) = ap (λ (z : List PlaceId). period * tokens_of net z) q.is in
            let time_is = time_more net scale q.front p in
            let tokens_are = tokens_more net period q.front p in
            omega arith)
            (last_or ps)

        backed : (t : ℕ) → t < n → IsBacked net scale period h.begun t (slice_index after t)
        backed t l = ⊎_elim
            (λ (e : slice_index after t ≡ slice_index before t). subst (λ (z : ℕ). IsBacked net scale period h.begun t z) (sym e) (h.backed t l))
            (λ (b : IsBy net scale period before t (slice_index after t)).
            let p : PlaceId = b.place in
            let old = h.backed (from_of net p) (ends.from_in p b.in_range) in
            let time_is = time_more net scale old.places p in
            let tokens_are = tokens_more net period old.places p in
            let was = old.is in
            let is = b.is in
            record {
              from = old.from;
              places = old.places ++ p ∷ [];
              path = IsPathBetween-append net old.places (p ∷ []) old.from (from_of net p) t old.path (b.in_range, refl, b.to);
              is = omega arith;
            })
            (r.by t)

  -- after as many rounds as there are transitions
  module _ (time : LeavesCircuitsTimeAt net scale period) (firsts : List ℕ) (h : AreRounded net scale period most hold (length net.transitions) firsts) where
    no_gain : (ps : List PlaceId) → IsCircuit net ps → sum_by (λ p. scale * (place_at net p).hold) ps ≤ sum_by (λ p. period * (place_at net p).tokens) ps
    no_gain ps c = let up = time ps c in let is = cost_of net period ps in let own = takes_of net scale ps in omega arith

    -- no path asks for more, however long
    far : (ps : List PlaceId) (s t : ℕ) → t < n → IsPathBetween net s ps t → slice_index h.begun s + scale * time_of net ps ≤ slice_index firsts t + period * tokens_of net ps
    far ps s t l path =
        let w = shorten net (λ p. scale * (place_at net p).hold) (λ p. period * (place_at net p).tokens) no_gain ps s t path in
        let qs : List PlaceId = w.0 in
        let short = straight_short net n qs s t ends l w.1 in
        let low = h.lower qs s t l w.1.path (omega arith) in
        let weighs : sum_by (λ p. scale * (place_at net p).hold) ps + sum_by (λ p. period * (place_at net p).tokens) qs ≤ sum_by (λ p. scale * (place_at net p).hold) qs + sum_by (λ p. period * (place_at net p).tokens) ps = w.2 in
        let one = cost_of net period ps in
        let two = cost_of net period qs in
        let three = takes_of net scale ps in
        let four = takes_of net scale qs in
        by_numbers (slice_index h.begun s) (slice_index firsts t) (scale * time_of net ps) (scale * time_of net qs) (period * tokens_of net ps) (period * tokens_of net qs) low (omega arith) where
          by_numbers : (start end time_p time_q paid_p paid_q : ℕ) → start + time_q ≤ end + paid_q → time_p + paid_q ≤ time_q + paid_p → start + time_p ≤ end + paid_p
          by_numbers start end time_p time_q paid_p paid_q one two = omega arith

    leaves : (p : PlaceId) → p.index < length net.places → LeavesTimeAt scale period (slice_index firsts) (place_at net p)
    leaves p in' =
        let b = h.backed (from_of net p) (ends.from_in p in') in
        let low = far (b.places ++ p ∷ []) b.from (to_of net p) (ends.to_in p in') (IsPathBetween-append net b.places (p ∷ []) b.from (from_of net p) (to_of net p) b.path (in', refl, refl)) in
        let time_is = time_more net scale b.places p in
        let tokens_are = tokens_more net period b.places p in
        let is = b.is in
        let begun = far [] (to_of net p) (to_of net p) (ends.to_in p in') refl in
        let none : period * tokens_of net [] ≡ 0 = omega arith in
        record {
          leaves_time = omega arith;
          ready = λ k some few. waited k some in' begun;
        } where
          waited : (k : ℕ) → 1 ≤ k → (in' : p.index < length net.places) → slice_index h.begun (to_of net p) + scale * time_of net [] ≤ slice_index firsts (to_of net p) + period * tokens_of net []
              → scale * ready_date (place_at net p) k ≤ slice_index firsts (to_of net p) + period * (k - 1)
          waited k some in' begun = ⊎_elim
              (λ (l : k - 1 < length (place_at net p).ready).
              let own = h.starts.ready p in' in' (k - 1) l in
              let none : period * tokens_of net [] ≡ 0 = omega arith in
              omega arith)
              (λ (g : length (place_at net p).ready ≤ k - 1). let e : scale * ready_date (place_at net p) k ≡ scale * 0 = ap (λ (z : ℕ). scale * z) (get_or_past (place_at net p).ready (k - 1) 0 g) in omega arith)
              (cases_lt (k - 1) (length (place_at net p).ready))

    pub least_firsts : AreLeastFirstsAt net scale period (slice_index firsts)
    least_firsts = record {
      workable = λ i d l. subst (LeavesTimeAt scale period (slice_index firsts)) (get_or_default net.places i no_place d l) (leaves (record { index = i }) l);
      least = λ g w t l.
          let b = h.backed t l in
          let start = h.starts.least g w b.from (begins b.places b.from t l b.path) in
          let up = along net scale period g (λ p m. (w p.index no_place m).leaves_time) b.places b.from t b.path in
          let is = b.is in
          omega arith;
    } where
      begins : (ps : List PlaceId) (s t : ℕ) → t < n → IsPathBetween net s ps t → s < n
      begins [] s t l e = let same : s ≡ t = e in omega arith
      begins (p ∷ ps) s t l e = let low = ends.from_in p e.0 in let same : from_of net p ≡ s = e.1 in omega arith

    pub earliest : AreEarliestAt net scale period firsts
    earliest = record { one_each = h.count; least = least_firsts }
