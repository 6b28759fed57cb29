-- The marks of the transitions whose date is met, and what rows that are solved number by number tell.
use Rattle.std.proofs.Common.{ℕ, ◌+◌, ◌<◌, ◌≤◌, ◌≡◌, ◌≢◌, Bool, true, false, leb, List, length, get_or, set, Some, Option, refl, sym, ◌∙◌, arith, inl, inr, ⊎_elim}
use Rattle.std.specs.Prelude.{pos, All, Any, IsTrue, ◌⊎◌, ◌↔◌, ◌||◌}
use Rattle.std.proofs.lemmas.Bool.{false≢true, cases_lt, cases_eq}
use Rattle.std.proofs.lemmas.Bool.Decides.{nat_tests}
use Rattle.std.proofs.lemmas.List.{length-set, get_or-set_same, get_or-set_other, get_or_default}
use Rattle.dioid.specs.declared.dates.Date.{Date}
use Rattle.dioid.specs.declared.dates.Date.TheVariants.{At, Never}
use Rattle.dioid.specs.Dates.{IsAtMostDate}
use Rattle.teg_net.specs.declared.entries.Place.{Place}
use Rattle.teg_net.specs.declared.entries.PlaceId.{PlaceId}
use Rattle.teg_net.specs.Nets.{NetLists, IsNet}
use Rattle.teg_net.specs.Circuits.{IsLive, no_place}
use Rattle.teg_model.proofs.DateFunctions.{Dating}
use Rattle.teg_model.proofs.OfNet.{net_ends}
use Rattle.teg_due.specs.declared.rows.DueRow.{DueRow}
use Rattle.teg_due.specs.RowRules.{IsDueOf}
use Rattle.latest_laws.specs.BackwardEquations.{IsDueThen, IsHoldBefore, IsLeastAhead}
use Rattle.latest_laws.specs.BackwardSolutions.{SolveBackwards}
use Rattle.latest_laws.proofs.BackwardEquations.{least_ahead}
use Rattle.latest_laws.proofs.BackwardSolutions.{solutions_are_latest}
use Rattle.dating_certificates.specs.CheckedRows.{AreRowsOf, date_up_to}
use Rattle.latest_certificates.specs.LatestRows.{IsRowOf, ListsDues, AreLocallyLatest, AreLatestRows, LocallyLatestRowsAreLatest}
use Rattle.dating_certificates.specs.ToldRows.{ToldDates, told_dates}
use Rattle.latest_certificates.specs.SolvedRows.{IsPlaceTight, IsRowKept, IsRowTight, IsNextTight, IsTightAt}
use Rattle.latest_certificates.specs.SolvedRows.{HasTightPlace, HasTightRow, AreMarked, IsMetAhead, IsMet, IsRowSolved}

or_splits : (a b : Bool) → (a || b) ≡ true → (a ≡ true) ⊎ (b ≡ true)
or_splits true b e = inl refl
or_splits false b e = inr e

or_left : (a b : Bool) → a ≡ true → (a || b) ≡ true
or_left true b e = refl
or_left false b e = absurd (false≢true e)

or_right : (a b : Bool) → b ≡ true → (a || b) ≡ true
or_right true b e = refl
or_right false b e = e

-- the first marks are just those of which this holds
pub record AreMarkedTo (told : ToldDates) (met : List Bool) (holds : ℕ → Type 0) (i : ℕ) : Type 0 where
  pub full : length met ≡ length told.net.transitions
  pub marks : (t : ℕ) → t < i → (get_or met t false ≡ true) ↔ holds t

-- one more
pub marked_on : (told : ToldDates) (met : List Bool) (holds : ℕ → Type 0) (i : ℕ) (b : Bool) → i < length told.net.transitions
    → AreMarkedTo told met holds i → (b ≡ true) ↔ holds i → AreMarkedTo told (set met i b) holds (i + 1)
marked_on told met holds i b l h is = record {
  full = length-set met i b ∙ h.full;
  marks = λ t m. ⊎_elim
      (λ (q : t < i). let other : t ≢ i = omega arith in rw (get_or-set_other met i t b false other) (h.marks t q))
      (λ (q : i ≤ t).
      let t_is : t ≡ i = omega arith in
      rw (t_is, get_or-set_same met i b false (omega (arith, h.full, l))) is)
      (cases_lt t i);
}

-- the mark of one transition is raised
marked_one : (told : ToldDates) (met : List Bool) (holds : ℕ → Type 0) (c : ℕ) (b : Bool) (Q : Type 0) → c < length told.net.transitions
    → AreMarked told met holds → (b ≡ true) ↔ Q → AreMarked told (set met c (get_or met c false || b)) (λ t. holds t ⊎ ((t ≡ c) × Q))
marked_one told met holds c b Q l h is =
    let v : Bool = get_or met c false || b in
    record {
      full = length-set met c v ∙ h.full;
      marks = λ t m. ⊎_elim
          (λ (q : t ≡ c).
          rw (q, get_or-set_same met c v false (omega (arith, h.full, l))) (
            λ e. ⊎_elim (λ a. inl ((h.marks c l).0 a)) (λ a. inr (refl, is.0 a)) (or_splits (get_or met c false) b e),
            λ s. ⊎_elim (λ a. or_left (get_or met c false) b ((h.marks c l).1 a)) (λ a. or_right (get_or met c false) b (is.1 a.1)) s,
          ))
          (λ (q : t ≢ c).
          rw (get_or-set_other met c t v false q) (
            λ e. inl ((h.marks t m).0 e),
            λ s. ⊎_elim (λ a. (h.marks t m).1 a) (λ a. absurd (q a.0)) s,
          ))
          (cases_eq t c);
    }

-- what holds of the same transitions has the same marks
marked_as : (told : ToldDates) (met : List Bool) (P Q : ℕ → Type 0) → AreMarked told met P → ((t : ℕ) → t < length told.net.transitions → P t ↔ Q t) → AreMarked told met Q
marked_as told met P Q h same = record {
  full = h.full;
  marks = λ t l. (λ e. (same t l).0 ((h.marks t l).0 e), λ q. (h.marks t l).1 ((same t l).1 q));
}

-- marked by the next firing and the first places
abbrev pub ByPlaces : ToldDates → ℕ → ℕ → ℕ → Type 0
ByPlaces told k i t = IsNextTight told k t ⊎ HasTightPlace told k i t

-- marked also by the first rows
abbrev pub ByRows : ToldDates → List DueRow → ℕ → ℕ → ℕ → Type 0
ByRows told rows k j t = IsMetAhead told k t ⊎ HasTightRow told rows k j t

pub places_more : (told : ToldDates) (met : List Bool) (k i : ℕ) (b : Bool) → (get_or told.net.places i no_place).from.index < length told.net.transitions
    → AreMarked told met (ByPlaces told k i) → (b ≡ true) ↔ IsPlaceTight told k (get_or told.net.places i no_place)
    → AreMarked told (set met (get_or told.net.places i no_place).from.index (get_or met (get_or told.net.places i no_place).from.index false || b)) (ByPlaces told k (i + 1))
places_more told met k i b l h is =
    let c : ℕ = (get_or told.net.places i no_place).from.index in
    let Q : Type 0 = IsPlaceTight told k (get_or told.net.places i no_place) in
    marked_as told (set met c (get_or met c false || b)) (λ t. ByPlaces told k i t ⊎ ((t ≡ c) × Q)) (ByPlaces told k (i + 1)) (marked_one told met (ByPlaces told k i) c b Q l h is)
    (λ t m. (
      λ s. ⊎_elim
          (λ a. ⊎_elim (λ e. inl e) (λ (p : HasTightPlace told k i t). inr (p.0, omega (arith, p.1), p.2, p.3)) a)
          (λ (a : (t ≡ c) × Q). inr (i, omega arith, sym a.0, a.1)) s,
      λ s. ⊎_elim
          (λ e. inl (inl e))
          (λ (p : HasTightPlace told k (i + 1) t). ⊎_elim
          (λ (q : p.0 < i). inl (inr (p.0, q, p.2, p.3)))
          (λ (q : i ≤ p.0). let p_is : p.0 ≡ i = omega (arith, p.1) in inr (rw p_is at (sym p.2), rw p_is at p.3))
          (cases_lt p.0 i)) s,
    ))

pub rows_begin : (told : ToldDates) (rows : List DueRow) (met : List Bool) (k : ℕ) → AreMarked told met (IsMetAhead told k) → AreMarked told met (ByRows told rows k 0)
rows_begin told rows met k h = marked_as told met (IsMetAhead told k) (ByRows told rows k 0) h
    (λ t l. (λ e. inl e, λ s. ⊎_elim (λ e. e) (λ (a : HasTightRow told rows k 0 t). absurd (omega (arith, a.1))) s))

pub rows_more : (told : ToldDates) (rows : List DueRow) (met : List Bool) (k j : ℕ) (r : DueRow) (b : Bool) → r.transition.index < length told.net.transitions
    → ((d : DueRow) → get_or rows j d ≡ r)
    → AreMarked told met (ByRows told rows k j) → (b ≡ true) ↔ IsTightAt told k r
    → AreMarked told (set met r.transition.index (get_or met r.transition.index false || b)) (ByRows told rows k (j + 1))
rows_more told rows met k j r b l r_is h is =
    let c : ℕ = r.transition.index in
    let Q : Type 0 = IsTightAt told k r in
    marked_as told (set met c (get_or met c false || b)) (λ t. ByRows told rows k j t ⊎ ((t ≡ c) × Q)) (ByRows told rows k (j + 1)) (marked_one told met (ByRows told rows k j) c b Q l h is)
    (λ t m. (
      λ s. ⊎_elim
          (λ a. ⊎_elim (λ e. inl e) (λ (p : HasTightRow told rows k j t). inr (p.0, omega (arith, p.1), p.2)) a)
          (λ (a : (t ≡ c) × Q).
          let tight : IsRowTight told t k r = record { transition = sym a.0; number = a.1.0; date = rw a.0 a.1.1 } in
          inr (j, omega arith, λ d. rw (r_is d) tight)) s,
      λ s. ⊎_elim
          (λ e. inl (inl e))
          (λ (p : HasTightRow told rows k (j + 1) t). ⊎_elim
          (λ (q : p.0 < j). inl (inr (p.0, q, p.2)))
          (λ (q : j ≤ p.0).
          let p_is : p.0 ≡ j = omega (arith, p.1) in
          let tight : IsRowTight told t k r = rw (p_is, r_is r) at (p.2 r) in
          let t_is : t ≡ c = sym tight.transition in
          inr (t_is, (tight.number, rw t_is at tight.date)))
          (cases_lt p.0 j)) s,
    ))

-- past the numbers all dates are never
pub never_past : (net : NetLists) (numbers : ℕ) (dates : List Date) (t k : ℕ) → numbers < k → date_up_to numbers (length net.transitions) dates t k ≡ Never
never_past net numbers dates t k l = let b : leb k numbers ≡ false = grind (arith, nat_tests) in rw b refl

-- what the checks of all rows and numbers tell
abbrev pub AreSolvedUpTo : NetLists → List DueRow → ℕ → List Date → Type 0
AreSolvedUpTo net rows numbers dates =
    All (IsRowKept (told_dates net numbers dates)) rows × ((k : ℕ) → 1 ≤ k → k ≤ numbers → IsRowSolved (told_dates net numbers dates) rows k)

-- a firing that is due comes in time
in_due_time : (net : NetLists) (rows : List DueRow) (due : ℕ → ℕ → Option ℕ) (numbers : ℕ) (dates : List Date) → ListsDues rows due
    → All (IsRowKept (told_dates net numbers dates)) rows → (t k d : ℕ) → due t k ≡ Some d → IsAtMostDate (date_up_to numbers (length net.transitions) dates t k) (At (pos d))
in_due_time net rows due numbers dates lists kept t k d e =
    let a = (lists t k d).0 e in
    let r : DueRow = a.1 in
    let row : IsRowOf r t k d = a.4 in
    let here : IsRowKept (told_dates net numbers dates) r = rw a.3 at (kept a.0 r a.2) in
    rw (row.transition, row.number, row.date) at here

-- the date is one of those ahead
one_met : (net : NetLists) (rows : List DueRow) (due : ℕ → ℕ → Option ℕ) (numbers : ℕ) (dates : List Date) (t k : ℕ) → ListsDues rows due
    → IsMet (told_dates net numbers dates) rows k t
    → IsDueThen due t k (date_up_to numbers (length net.transitions) dates t k)
    ⊎ ((date_up_to numbers (length net.transitions) dates t k ≡ date_up_to numbers (length net.transitions) dates t (k + 1))
    ⊎ IsHoldBefore net (date_up_to numbers (length net.transitions) dates) t k (date_up_to numbers (length net.transitions) dates t k))
one_met net rows due numbers dates t k lists met =
    let told : ToldDates = told_dates net numbers dates in
    let y : Dating = date_up_to numbers (length net.transitions) dates in
    ⊎_elim
    (λ ahead. ⊎_elim
    (λ (e : IsNextTight told k t). inr (inl e))
    (λ (p : HasTightPlace told k (length net.places) t).
    let id : PlaceId = record { index = p.0 } in
    inr (inr (id, p.1, p.2, rw p.2 at p.3)))
    ahead)
    (λ (h : HasTightRow told rows k (length rows) t).
    let none : DueRow = record { row = 0; transition = record { index = 0 }; number = 0; date = 0 } in
    let r : DueRow = get_or rows h.0 none in
    let tight : IsRowTight told t k r = h.2 none in
    let named : Any (λ q. IsRowOf q t k r.date) rows = (h.0, r, h.1, get_or_default rows h.0 r none h.1, record { transition = tight.transition; number = tight.number; date = refl }) in
    inl (r.date, (lists t k r.date).1 named, tight.date))
    met

-- a date past the numbers is the least of what is ahead
past_ahead : (net : NetLists) (rows : List DueRow) (due : ℕ → ℕ → Option ℕ) (numbers : ℕ) (dates : List Date) → ListsDues rows due
    → All (IsRowKept (told_dates net numbers dates)) rows → (t k : ℕ) → numbers < k
    → IsLeastAhead net due (date_up_to numbers (length net.transitions) dates) t k (date_up_to numbers (length net.transitions) dates t k)
past_ahead net rows due numbers dates lists kept t k l =
    let y : Dating = date_up_to numbers (length net.transitions) dates in
    let never : (s j : ℕ) → k ≤ j → y s j ≡ Never = λ s j m. never_past net numbers dates s j (omega (arith, l, m)) in
    record {
      in_time = record {
        due_date = λ d e. in_due_time net rows due numbers dates lists kept t k d e;
        next = rw (never t k (omega arith), never t (k + 1) (omega arith)) tt;
        places = λ i d m e.
            let p : Place = get_or net.places i d in
            rw (never t k (omega arith), never p.to.index (k + p.tokens) (omega arith)) tt;
      };
      one = inr (inl (never t k (omega arith) ∙ sym (never t (k + 1) (omega arith))));
    }

pub solved_solve : (net : NetLists) (rows : List DueRow) (due : ℕ → ℕ → Option ℕ) (numbers : ℕ) (dates : List Date) → ListsDues rows due
    → AreSolvedUpTo net rows numbers dates → SolveBackwards net due numbers (date_up_to numbers (length net.transitions) dates)
solved_solve net rows due numbers dates lists h = record {
  never = λ t k l m. never_past net numbers dates t k m;
  equations = λ t k l o. ⊎_elim
      (λ (q : numbers < k). past_ahead net rows due numbers dates lists h.0 t k q)
      (λ (q : k ≤ numbers).
      let s = h.1 k o q in
      record {
        in_time = record {
          due_date = λ d e. in_due_time net rows due numbers dates lists h.0 t k d e;
          next = s.next t l;
          places = λ i d m e. rw e at (s.places i d m);
        };
        one = one_met net rows due numbers dates t k lists (s.met t l);
      })
      (cases_lt numbers k);
}

-- of dates that solve the equations, each is met
met_by_one : (net : NetLists) (rows : List DueRow) (due : ℕ → ℕ → Option ℕ) (numbers : ℕ) (dates : List Date) → ListsDues rows due
    → (t k : ℕ) → IsLeastAhead net due (date_up_to numbers (length net.transitions) dates) t k (date_up_to numbers (length net.transitions) dates t k)
    → IsMet (told_dates net numbers dates) rows k t
met_by_one net rows due numbers dates lists t k h =
    let told : ToldDates = told_dates net numbers dates in
    let y : Dating = date_up_to numbers (length net.transitions) dates in
    ⊎_elim
    (λ (a : IsDueThen due t k (y t k)).
    let row = (lists t k a.0).0 a.1 in
    let r : DueRow = row.1 in
    let of_row : IsRowOf r t k a.0 = row.4 in
    let tight : IsRowTight told t k r = record { transition = of_row.transition; number = of_row.number; date = rw of_row.date a.2 } in
    inr (row.0, row.2, λ d. rw (get_or_default rows row.0 d r row.2 ∙ row.3) tight))
    (λ b. ⊎_elim
    (λ (e : y t k ≡ y t (k + 1)). inl (inl e))
    (λ (p : IsHoldBefore net y t k (y t k)). inl (inr (p.0.index, p.1, p.2, rw p.2 p.3)))
    b)
    h.one

pub solve_solved : (net : NetLists) (rows : List DueRow) (due : ℕ → ℕ → Option ℕ) (numbers : ℕ) (dates : List Date) → IsNet net → IsDueOf net rows → ListsDues rows due
    → SolveBackwards net due numbers (date_up_to numbers (length net.transitions) dates) → AreSolvedUpTo net rows numbers dates
solve_solved net rows due numbers dates ok rules lists h = (
  λ i d l.
      let r : DueRow = get_or rows i d in
      let rule = rules.each i d l in
      let named : Any (λ q. IsRowOf q r.transition.index r.number r.date) rows = (i, r, l, get_or_default rows i r d l, record { transition = refl; number = refl; date = refl }) in
      (h.equations r.transition.index r.number rule.in_range rule.from_one).in_time.due_date r.date ((lists r.transition.index r.number r.date).1 named),
  λ k o m. record {
    next = λ t l. (h.equations t k l o).in_time.next;
    places = λ i d l.
        let p : Place = get_or net.places i d in
        let from_in : p.from.index < length net.transitions = rw (get_or_default net.places i d no_place l) ((net_ends net ok) i no_place l).0 in
        (h.equations p.from.index k from_in o).in_time.places i d l refl;
    met = λ t l. met_by_one net rows due numbers dates lists t k (h.equations t k l o);
  },
)

pub local_latest : LocallyLatestRowsAreLatest
local_latest net ends live due numbers dates = (
  λ h. record { whole = h.whole; latest = solutions_are_latest net ends live due numbers (date_up_to numbers (length net.transitions) dates) h.solve },
  λ h. record {
    whole = h.whole;
    solve = record {
      never = λ t k l m. never_past net numbers dates t k m;
      equations = least_ahead net ends due (date_up_to numbers (length net.transitions) dates) h.latest;
    };
  },
)

-- one number more is solved
pub solved_more : (told : ToldDates) (rows : List DueRow) (i : ℕ) → ((k : ℕ) → 1 ≤ k → k ≤ i → IsRowSolved told rows k) → IsRowSolved told rows (i + 1)
    → (k : ℕ) → 1 ≤ k → k ≤ i + 1 → IsRowSolved told rows k
solved_more told rows i h s k o m = ⊎_elim
    (λ (q : i < k). let k_is : k ≡ i + 1 = omega (arith, q, m) in rw k_is s)
    (λ (q : k ≤ i). h k o q)
    (cases_lt i k)

-- what tells whether the rows are solved tells whether they are locally latest
pub tells_local : (net : NetLists) (rows : List DueRow) (due : ℕ → ℕ → Option ℕ) (numbers : ℕ) (dates : List Date) (told : Bool) → IsNet net → IsDueOf net rows
    → ListsDues rows due → AreRowsOf net dates numbers → (IsTrue told ↔ AreSolvedUpTo net rows numbers dates) → IsTrue told ↔ AreLocallyLatest net due numbers dates
tells_local net rows due numbers dates told ok rules lists whole h = (
  λ e. record { whole = whole; solve = solved_solve net rows due numbers dates lists (h.0 e) },
  λ g. h.1 (solve_solved net rows due numbers dates ok rules lists g.solve),
)

-- and in a live net whether they are the latest
pub tells_latest : (net : NetLists) (due : ℕ → ℕ → Option ℕ) (numbers : ℕ) (dates : List Date) (told : Bool) → IsNet net
    → (IsTrue told ↔ AreLocallyLatest net due numbers dates) → IsLive net → IsTrue told ↔ AreLatestRows net due numbers dates
tells_latest net due numbers dates told ok h live =
    let both = local_latest net (net_ends net ok) live due numbers dates in
    (λ t. both.0 (h.0 t), λ f. h.1 (both.1 f))
