-- Rows of latest dates on the way, number by number from the last down.
use Rattle.std.proofs.Common.{ℕ, false, pos, ◌+◌, ◌-◌, ◌*◌, ◌<◌, ◌≤◌, ◌≡◌, ◌≢◌, List, length, get_or, refl, ap, ◌∙◌, arith, ⊎_elim}
use Rattle.std.proofs.lemmas.Bool.{cases_lt, cases_eq}
use Rattle.std.proofs.lemmas.List.{get_or_default}
use Rattle.dioid.specs.declared.dates.Date.{Date}
use Rattle.dioid.specs.declared.dates.Date.TheVariants.{At}
use Rattle.dioid.specs.Dates.{IsAtMostDate, delayed, earlier_of}
use Rattle.dioid.proofs.DateOrder.{at_most_trans, same_by_at_most, earlier_right, delayed_rises}
use Rattle.teg_net.specs.declared.entries.Place.{Place}
use Rattle.teg_net.specs.declared.entries.PlaceId.{PlaceId}
use Rattle.teg_net.specs.Circuits.{from_of, no_place, place_at}
use Rattle.teg_net.specs.Nets.{NetLists, IsNet, IsPlaceOf}
use Rattle.teg_model.proofs.OfNet.{net_ends}
use Rattle.teg_due.specs.declared.rows.DueRow.{DueRow}
use Rattle.due_laws.proofs.LatestDates.{delayed_back}
use Rattle.latest_laws.specs.BackwardEquations.{IsLeastAhead}
use Rattle.latest_laws.proofs.BackwardEquations.{last_in_time, least_ahead}
use Rattle.witness_check.specs.Climbs.{RiseAlong}
use Rattle.dating_certificates.specs.CheckedRows.{date_up_to}
use Rattle.latest_certificates.specs.LatestRows.{IsRowOf}
use Rattle.dating_check.specs.declared.back_order.Placed.{Placed}
use Rattle.dating_check.specs.BackOrder.{IsBackOrder, placed_at}
use Rattle.dating_check.specs.MadeRows.{AreKept, IsLatestFor, IsMade}
use Rattle.dating_check.proofs.BackOrder.{stands_before}
use Rattle.dating_check.proofs.Lowering.{cells_apart, lowered, lowered_above, lowered_below, lowered_here, lowered_other}

-- ---- rows on the way

module _ (net : NetLists) (rows : List DueRow) (n k next : ℕ) (y : ℕ → ℕ → Date) (dates : List Date) (full : length dates ≡ n * length net.transitions)
    (some : 1 ≤ k) (k_in : k ≤ n) where
  -- a date of the number is lowered, to no less than the latest
  pub lowered_made : (t : ℕ) (d : Date) → t < length net.transitions → IsMade net rows n k next y dates → IsAtMostDate (y t k) d
      → IsMade net rows n k next y (lowered (length net.transitions) dates t k d)
  lowered_made t d t_in h low =
      let w : ℕ = length net.transitions in
      let new : List Date = lowered w dates t k d in
      record {
        above = λ v s l m. lowered_other w n dates t k d full t_in some k_in v s (λ e. let same = cells_apart w v t s k l t_in (omega (arith, m)) some e in omega (arith, same.1, m)) ∙ h.above v s l m;
        low = λ v s l o. lowered_above w n dates t k d full t_in some k_in v s (y v s) l o (h.low v s l o) (λ a b. rw (a, b) low);
        due = λ i r l. at_most_trans (date_up_to n w new (get_or rows i r).transition.index (get_or rows i r).number) (date_up_to n w dates (get_or rows i r).transition.index (get_or rows i r).number)
            (At (pos (get_or rows i r).date)) (lowered_below w n dates t k d full t_in some k_in (get_or rows i r).transition.index (get_or rows i r).number) (h.due i r l);
        nexts = λ v l m. at_most_trans (date_up_to n w new v k) (date_up_to n w dates v k) (y v (k + 1)) (lowered_below w n dates t k d full t_in some k_in v k) (h.nexts v l m);
      }

  -- and the places that are kept are kept
  pub lowered_kept : (order : List Placed) (first t : ℕ) (d : Date) → t < length net.transitions → AreKept net order n k first y dates
      → AreKept net order n k first y (lowered (length net.transitions) dates t k d)
  lowered_kept order first t d t_in h c o l m =
      let w : ℕ = length net.transitions in
      let p : Place = place_at net (get_or order c o).place in
      let from : ℕ = p.from.index in
      at_most_trans (delayed p.hold (date_up_to n w (lowered w dates t k d) from k)) (delayed p.hold (date_up_to n w dates from k)) (y p.to.index (k + p.tokens))
      (delayed_rises p.hold (date_up_to n w (lowered w dates t k d) from k) (date_up_to n w dates from k) (lowered_below w n dates t k d full t_in some k_in from k)) (h c o l m)

  -- a date that keeps what is ahead is the latest
  pub settled : (t : ℕ) → IsNet net → IsLatestFor net rows y → t < length net.transitions → t < next → IsMade net rows n k next y dates
      → ((q : PlaceId) → q.index < length net.places → from_of net q ≡ t
      → IsAtMostDate (delayed (place_at net q).hold (date_up_to n (length net.transitions) dates t k)) (y (place_at net q).to.index (k + (place_at net q).tokens)))
      → date_up_to n (length net.transitions) dates t k ≡ y t k
  settled t ok latest t_in kept h places =
      let date : Date = date_up_to n (length net.transitions) dates t k in
      same_by_at_most date (y t k)
      (last_in_time net (net_ends net ok) latest.0 y latest.2 t k t_in some date (record {
        due_date = λ e is.
            let a = (latest.1 t k e).0 is in
            let row : IsRowOf a.1 t k e = a.4 in
            rw (row.transition, row.number, row.date) at (rw a.3 at (h.due a.0 a.1 a.2));
        next = h.nexts t t_in kept;
        places = λ i p l from.
            let q : PlaceId = record { index = i } in
            let same : get_or net.places i p ≡ place_at net q = get_or_default net.places i p no_place l in
            rw same (places q l (rw same at from));
      }))
      (h.low t k t_in some)

-- ---- the next number

pub next_passed : (net : NetLists) (rows : List DueRow) (n k i : ℕ) (y : ℕ → ℕ → Date) (dates : List Date) → length dates ≡ n * length net.transitions → 1 ≤ k → k ≤ n → IsNet net
    → IsLatestFor net rows y → i < length net.transitions → IsMade net rows n k i y dates
    → IsMade net rows n k (i + 1) y (lowered (length net.transitions) dates i k (date_up_to n (length net.transitions) dates i (k + 1)))
next_passed net rows n k i y dates full some k_in ok latest i_in h =
    let w : ℕ = length net.transitions in
    let d : Date = date_up_to n w dates i (k + 1) in
    let is : d ≡ y i (k + 1) = h.above i (k + 1) i_in (omega arith) in
    let ahead : IsLeastAhead net latest.0 y i k (y i k) = least_ahead net (net_ends net ok) latest.0 y latest.2 i k i_in some in
    let new : IsMade net rows n k i y (lowered w dates i k d) = lowered_made net rows n k i y dates full some k_in i d i_in h (rw is ahead.in_time.next) in
    record {
      above = new.above;
      low = new.low;
      due = new.due;
      nexts = λ t l m. ⊎_elim
          (λ (q : t < i). new.nexts t l q)
          (λ (q : i ≤ t).
          let t_is : t ≡ i = omega (arith, q, m) in
          rw (t_is, lowered_here w n dates i k d full i_in some k_in, ← is) (earlier_right (date_up_to n w dates i k) d))
          (cases_lt t i);
    }

-- ---- the places

-- the date at the end of a place of the order
pub end_settled : (net : NetLists) (rows : List DueRow) (ranks : List ℕ) (order : List Placed) (n k i : ℕ) (y : ℕ → ℕ → Date) (dates : List Date) (o : Placed) → length dates ≡ n * length net.transitions
    → 1 ≤ k → k ≤ n → IsNet net → IsLatestFor net rows y → RiseAlong net false ranks → IsBackOrder net ranks order → i < length order → get_or order i o ≡ o
    → IsMade net rows n k (length net.transitions) y dates → AreKept net order n k i y dates
    → date_up_to n (length net.transitions) dates (place_at net o.place).to.index (k + (place_at net o.place).tokens) ≡ y (place_at net o.place).to.index (k + (place_at net o.place).tokens)
end_settled net rows ranks order n k i y dates o full some k_in ok latest rise back l is h kept =
    let w : ℕ = length net.transitions in
    let p : Place = place_at net o.place in
    let p_in : o.place.index < length net.places = rw is at (back.known i o l).in_range in
    let rules : IsPlaceOf net p = ok.each_place o.place.index no_place p_in in
    ⊎_elim
    (λ (e : p.tokens ≡ 0).
    let same : k + p.tokens ≡ k = omega (arith, e) in
    rw same
    (settled net rows n k w y dates full some k_in p.to.index ok latest rules.to_in rules.to_in h
    (λ q q_in from.
    let before = stands_before net ranks order i o.place q o rise back l (ap (λ (z : Placed). z.place) is) e q_in from in
    let low : before.0 < length order = omega (arith, before.1, l) in
    rw (before.2 o, from) at (kept before.0 o low before.1))))
    (λ (ne : p.tokens ≢ 0). h.above p.to.index (k + p.tokens) rules.to_in (omega (arith, ne)))
    (cases_eq p.tokens 0)

-- a place more is kept
pub place_passed : (net : NetLists) (rows : List DueRow) (ranks : List ℕ) (order : List Placed) (n k i : ℕ) (y : ℕ → ℕ → Date) (dates : List Date) (o : Placed) (d : Date) → length dates ≡ n * length net.transitions
    → 1 ≤ k → k ≤ n → IsNet net → IsLatestFor net rows y → RiseAlong net false ranks → IsBackOrder net ranks order → i < length order → ((e : Placed) → get_or order i e ≡ o)
    → delayed (place_at net o.place).hold d ≡ date_up_to n (length net.transitions) dates (place_at net o.place).to.index (k + (place_at net o.place).tokens)
    → IsMade net rows n k (length net.transitions) y dates × AreKept net order n k i y dates
    → IsMade net rows n k (length net.transitions) y (lowered (length net.transitions) dates (place_at net o.place).from.index k d)
    × AreKept net order n k (i + 1) y (lowered (length net.transitions) dates (place_at net o.place).from.index k d)
place_passed net rows ranks order n k i y dates o d full some k_in ok latest rise back l at held h =
    let w : ℕ = length net.transitions in
    let p : Place = place_at net o.place in
    let p_in : o.place.index < length net.places = rw (at o) at (back.known i o l).in_range in
    let rules : IsPlaceOf net p = ok.each_place o.place.index no_place p_in in
    let end : delayed p.hold d ≡ y p.to.index (k + p.tokens) = held ∙ end_settled net rows ranks order n k i y dates o full some k_in ok latest rise back l (at o) h.0 h.1 in
    let ahead : IsLeastAhead net latest.0 y p.from.index k (y p.from.index k) = least_ahead net (net_ends net ok) latest.0 y latest.2 p.from.index k rules.from_in some in
    let low : IsAtMostDate (y p.from.index k) d = delayed_back p.hold (y p.from.index k) d (rw end (ahead.in_time.places o.place.index no_place p_in refl)) in
    let new : List Date = lowered w dates p.from.index k d in (
      lowered_made net rows n k w y dates full some k_in p.from.index d rules.from_in h.0 low,
      λ c e m lt. ⊎_elim
          (λ (q : c < i). lowered_kept net rows n k w y dates full some k_in order i p.from.index d rules.from_in h.1 c e m q)
          (λ (q : i ≤ c).
          let c_is : c ≡ i = omega (arith, q, lt) in
          let here : date_up_to n w new p.from.index k ≡ earlier_of (date_up_to n w dates p.from.index k) d = lowered_here w n dates p.from.index k d full rules.from_in some k_in in
          rw (c_is, at e, ← end) (delayed_rises p.hold (date_up_to n w new p.from.index k) d (rw here (earlier_right (date_up_to n w dates p.from.index k) d))))
          (cases_lt c i),
    )

-- with all places the number is done
pub number_passed : (net : NetLists) (rows : List DueRow) (ranks : List ℕ) (order : List Placed) (n k : ℕ) (y : ℕ → ℕ → Date) (dates : List Date) → length dates ≡ n * length net.transitions
    → 1 ≤ k → k ≤ n → IsNet net → IsLatestFor net rows y → IsBackOrder net ranks order
    → IsMade net rows n k (length net.transitions) y dates × AreKept net order n k (length order) y dates → IsMade net rows n (k - 1) 0 y dates
number_passed net rows ranks order n k y dates full some k_in ok latest back h =
    let w : ℕ = length net.transitions in
    record {
      above = λ t s l m. ⊎_elim
          (λ (q : k < s). h.0.above t s l q)
          (λ (q : s ≤ k).
          let s_is : s ≡ k = omega (arith, q, m, some) in
          rw s_is (settled net rows n k w y dates full some k_in t ok latest l l h.0 (λ p p_in from.
          let held = back.all p.index p_in in
          let o : Placed = placed_at net ranks p.index in
          let at : get_or order held.0 o ≡ o = held.2 in
          rw (at, from) at (h.1 held.0 o (omega (arith, held.1)) (omega (arith, held.1))))))
          (cases_lt k s);
      low = h.0.low;
      due = h.0.due;
      nexts = λ t l m. absurd (omega (arith, m));
    }
