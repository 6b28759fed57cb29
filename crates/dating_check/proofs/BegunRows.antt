-- Rows with what is due alone, and rows of which all numbers are made.
use Rattle.std.proofs.Common.{ℕ, pos, [], ◌∷◌, replicate, ◌+◌, ◌-◌, ◌*◌, ◌<◌, ◌≤◌, ◌≡◌, ◌≢◌, List, Option, Some, length, get_or, All, refl, sym, ap, subst, ◌∙◌, arith, ⊎_elim}
use Rattle.std.specs.Prelude.{Any}
use Rattle.std.proofs.lemmas.Bool.{cases_lt}
use Rattle.std.proofs.lemmas.Int.{ints}
use Rattle.std.proofs.lemmas.List.{get_or-replicate, length-replicate, length-set}
use Rattle.dioid.specs.declared.dates.Date.{Date}
use Rattle.dioid.specs.declared.dates.Date.TheVariants.{Early, At, Never}
use Rattle.dioid.specs.Dates.{IsAtMostDate, earlier_of}
use Rattle.dioid.proofs.DateOrder.{at_most_trans, never_last, earlier_right}
use Rattle.teg_net.specs.Circuits.{IsLive, place_at}
use Rattle.teg_net.specs.Limits.{greatest_firing_number}
use Rattle.teg_net.specs.Walks.{Walks}
use Rattle.teg_net.specs.declared.walks.Step.{Step}
use Rattle.teg_net.specs.declared.walks.Step.TheVariants.{By, Next}
use Rattle.teg_net.specs.Nets.{NetLists, IsNet}
use Rattle.teg_model.proofs.OfNet.{net_ends}
use Rattle.teg_due.specs.declared.rows.DueRow.{DueRow}
use Rattle.teg_due.specs.RowRules.{IsDueRow}
use Rattle.due_laws.specs.LatestDates.{IsLatestDate}
use Rattle.due_laws.proofs.LatestDates.{never_or_not}
use Rattle.latest_laws.specs.BackwardSolutions.{AreDueUpTo}
use Rattle.latest_laws.proofs.BackwardEquations.{least_ahead}
use Rattle.latest_laws.proofs.LatestExist.{latest_exist}
use Rattle.dating_certificates.specs.CheckedRows.{date_up_to}
use Rattle.latest_certificates.specs.LatestRows.{AreLatestRows, IsRowOf, ListsDues}
use Rattle.latest_certificates.proofs.SolvedRows.{never_past}
use Rattle.dating_certificates.proofs.DatesUpTo.{told_in}
use Rattle.dating_check.specs.MadeRows.{AreFrom, IsLatestFor, IsMade, date_index}
use Rattle.dating_check.proofs.Lowering.{cell_in, lowered, lowered_above, lowered_below, lowered_from, lowered_here}

-- ---- the rows with what is due alone

-- the number of a walk never falls
walks_rise : (net : NetLists) (steps : List Step) (a s b k : ℕ) → Walks net a s steps b k → s ≤ k
walks_rise net [] a s b k h = omega (arith, h.1)
walks_rise net (By p ∷ steps) a s b k h = let more = walks_rise net steps (place_at net p).to.index (s + (place_at net p).tokens) b k h.2 in omega (arith, more)
walks_rise net (Next ∷ steps) a s b k h = let more = walks_rise net steps a (s + 1) b k h in omega (arith, more)

-- past all numbers that are due the latest date is never
never_behind : (net : NetLists) (rows : List DueRow) (n : ℕ) (y : ℕ → ℕ → Date) → IsLatestFor net rows y → All (λ r. r.number ≤ n) rows → (t k : ℕ) → t < length net.transitions → n < k → y t k ≡ Never
never_behind net rows n y latest most t k t_in l =
    ⊎_elim
    (λ (e : y t k ≡ Never). e)
    (λ (ne : y t k ≢ Never).
    let walk = (latest.2 t k t_in (omega (arith, l))).attained ne in
    let rise = walks_rise net walk.steps t k walk.to walk.number walk.walk in
    let a = (latest.1 walk.to walk.number walk.due_date).0 walk.is_due in
    let row : IsRowOf a.1 walk.to walk.number walk.due_date = a.4 in
    let low : (get_or rows a.0 a.1).number ≤ n = most a.0 a.1 a.2 in
    let same : (get_or rows a.0 a.1).number ≡ walk.number = ap (λ (r : DueRow). r.number) a.3 ∙ row.number in
    absurd (omega (arith, rise, low, same, l)))
    (never_or_not (y t k))

-- the rows with the first due dates
pub record IsBegun (net : NetLists) (rows : List DueRow) (n : ℕ) (dates : List Date) (i : ℕ) : Type 0 where
  pub full : length dates ≡ n * length net.transitions
  pub from : AreFrom 0 dates
  pub low : (y : ℕ → ℕ → Date) → IsLatestFor net rows y → (t s : ℕ) → t < length net.transitions → 1 ≤ s → IsAtMostDate (y t s) (date_up_to n (length net.transitions) dates t s)
  pub due : (j : ℕ) (r : DueRow) → j < i → j < length rows
      → IsAtMostDate (date_up_to n (length net.transitions) dates (get_or rows j r).transition.index (get_or rows j r).number) (At (pos (get_or rows j r).date))

-- at first none is due
pub begun_first : (net : NetLists) (rows : List DueRow) (n size : ℕ) (dates : List Date) → dates ≡ replicate size Never → size ≡ n * length net.transitions → IsBegun net rows n dates 0
begun_first net rows n size dates is long =
    let w : ℕ = length net.transitions in
    let full : length dates ≡ n * w = ap length is ∙ (length-replicate {A = Date} size Never ∙ long) in
    let never : (i : ℕ) (d : Date) → i < length dates → get_or dates i d ≡ Never = λ i d l. ap (λ (ds : List Date). get_or ds i d) is ∙ get_or-replicate size i Never d (omega (arith, l, full, long)) in
    record {
      full = full;
      from = λ i d l. rw (never i d l) tt;
      low = λ y latest t s l o. ⊎_elim
          (λ (q : n < s). rw (never_past net n dates t s q) (never_last (y t s)))
          (λ (q : s ≤ n). rw (told_in n w dates t s q, never (date_index w t s) Early (let low = cell_in w t s n l o q in omega (arith, low, full))) (never_last (y t s)))
          (cases_lt n s);
      due = λ j r l. absurd (omega (arith, l));
    }

-- a row more
pub begun_more : (net : NetLists) (rows : List DueRow) (n : ℕ) (dates : List Date) (i : ℕ) (r : DueRow) → IsNet net → All (IsDueRow net) rows → All (λ r. r.number ≤ n) rows
    → i < length rows → ((d : DueRow) → get_or rows i d ≡ r) → IsBegun net rows n dates i
    → IsBegun net rows n (lowered (length net.transitions) dates r.transition.index r.number (At (pos r.date))) (i + 1)
begun_more net rows n dates i r ok each most l at h =
    let w : ℕ = length net.transitions in
    let t : ℕ = r.transition.index in
    let k : ℕ = r.number in
    let d : Date = At (pos r.date) in
    let rules : IsDueRow net r = rw (at r) at (each i r l) in
    let t_in : t < w = rules.in_range in
    let some : 1 ≤ k = rules.from_one in
    let k_in : k ≤ n = rw (at r) at (most i r l) in
    let new : List Date = lowered w dates t k d in
    record {
      full = length-set dates (date_index w t k) (earlier_of (get_or dates (date_index w t k) Early) d) ∙ h.full;
      from = lowered_from w n dates 0 t k d h.full t_in some k_in h.from (omega (arith, ints));
      low = λ y latest v s v_in o. lowered_above w n dates t k d h.full t_in some k_in v s (y v s) v_in o (h.low y latest v s v_in o)
          (λ a b.
          let named : Any (λ q. IsRowOf q t k r.date) rows = (i, r, l, at r, record { transition = refl; number = refl; date = refl }) in
          let is : latest.0 t k ≡ Some r.date = (latest.1 t k r.date).1 named in
          rw (a, b) ((least_ahead net (net_ends net ok) latest.0 y latest.2 t k t_in some).in_time.due_date r.date is));
      due = λ j q m lt. ⊎_elim
          (λ (c : j < i).
          at_most_trans (date_up_to n w new (get_or rows j q).transition.index (get_or rows j q).number) (date_up_to n w dates (get_or rows j q).transition.index (get_or rows j q).number)
          (At (pos (get_or rows j q).date)) (lowered_below w n dates t k d h.full t_in some k_in (get_or rows j q).transition.index (get_or rows j q).number) (h.due j q c lt))
          (λ (c : i ≤ j).
          let j_is : j ≡ i = omega (arith, c, m) in
          rw (j_is, at q, lowered_here w n dates t k d h.full t_in some k_in) (earlier_right (date_up_to n w dates t k) d))
          (cases_lt j i);
    }

-- all rows
pub begun_made : (net : NetLists) (rows : List DueRow) (n : ℕ) (dates : List Date) (i : ℕ) (y : ℕ → ℕ → Date) → All (λ r. r.number ≤ n) rows → length rows ≤ i → IsLatestFor net rows y
    → IsBegun net rows n dates i → IsMade net rows n n 0 y dates
begun_made net rows n dates i y most all latest h = record {
  above = λ t s l m. never_past net n dates t s m ∙ sym (never_behind net rows n y latest most t s l m);
  low = h.low y latest;
  due = λ j r l. h.due j r (omega (arith, l, all)) l;
  nexts = λ t l m. absurd (omega (arith, m));
}

-- ---- all numbers

-- rows of which all numbers are there are those of the latest dates
pub made_latest : (net : NetLists) (rows : List DueRow) (n : ℕ) (dates : List Date) → IsNet net → IsLive net → n ≤ greatest_firing_number → length dates ≡ n * length net.transitions
    → All (λ r. r.number ≤ n) rows → ((y : ℕ → ℕ → Date) → IsLatestFor net rows y → IsMade net rows n 0 0 y dates)
    → (due : ℕ → ℕ → Option ℕ) → ListsDues rows due → AreLatestRows net due n dates
made_latest net rows n dates ok live few full most made due listed =
    let up : AreDueUpTo net due n = λ t k d l is.
    (let a = (listed t k d).0 is in
    let row : IsRowOf a.1 t k d = a.4 in
    let low : (get_or rows a.0 a.1).number ≤ n = most a.0 a.1 a.2 in
    let same : (get_or rows a.0 a.1).number ≡ k = ap (λ (r : DueRow). r.number) a.3 ∙ row.number in
    omega (arith, low, same)) in
    let exist = latest_exist net (net_ends net ok) live due n up in
    let y : ℕ → ℕ → Date = exist.0 in
    let done : IsMade net rows n 0 0 y dates = made y (due, listed, exist.1) in
    record {
      whole = record { whole = full; few = few };
      latest = λ t k l o. subst (IsLatestDate net due t k) (sym (done.above t k l (omega (arith, o)))) (exist.1 t k l o);
    }
