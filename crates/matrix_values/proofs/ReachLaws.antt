-- Marks of rows that are reached, and ways the other way round.
use Rattle.std.proofs.Common.{◌≡◌, ◌≢◌, ℕ, ◌<◌, ◌≤◌, ◌++◌, ◌∷◌, [], List, Bool, true, false, Option, Some, None, get_or, set, replicate, length, refl, sym, ap, subst, ◌∙◌, arith, ⊎_elim}
use Rattle.std.proofs.lemmas.Bool.{cases_Bool, cases_eq, false≢true}
use Rattle.std.proofs.lemmas.List.{get_or-set_other, get_or-set_same, length-replicate, length-set}
use Rattle.dioid.specs.declared.dates.Date.{Date}
use Rattle.dioid_matrix.specs.Tables.{Table}
use Rattle.dioid_spectra.specs.Eigenvectors.{IsIrreducible, IsNumber, IsWay, entry_at}
use Rattle.teg_parts.proofs.Marks.{flag_past, set_flag_before}
use Rattle.matrix_values.specs.RowReach.{AnswersFromFirst, AreReachedRows, AreRowsClosed, IsFirstOff, IsMarkedRow, IsOpenRow, IsUnreached}

-- ---- ways

-- one row more
pub way_on : (a : Table Date) (s : ℕ) (ks : List ℕ) (k t : ℕ) → IsWay a s ks k → t < a.rows → IsNumber (entry_at a t k) → IsWay a s (ks ++ t ∷ []) t
way_on a s [] k t way l number = (l, subst (λ (n : ℕ). IsNumber (entry_at a t n)) (sym way) number, refl)
way_on a s (m ∷ ks) k t way l number = (way.0, way.1, way_on a m ks k t way.2 l number)

-- one way after another
ways_join : (a : Table Date) (s : ℕ) (ks : List ℕ) (k : ℕ) (ls : List ℕ) (t : ℕ) → IsWay a s ks k → IsWay a k ls t → IsWay a s (ks ++ ls) t
ways_join a s [] k ls t way rest = subst (λ (n : ℕ). IsWay a n ls t) (sym way) rest
ways_join a s (m ∷ ks) k ls t way rest = (way.0, way.1, ways_join a m ks k ls t way.2 rest)

-- a way of the transpose leads back
module _ (a b : Table Date) (rows : b.rows ≡ a.rows) (turned : (i j : ℕ) → i < a.rows → j < a.rows → entry_at b i j ≡ entry_at a j i) where
  way_back : (s : ℕ) (ks : List ℕ) (t : ℕ) → s < a.rows → IsWay b s ks t → (ls : List ℕ) × IsWay a t ls s
  way_back s [] t l way = ([], sym way)
  way_back s (k ∷ ks) t l way =
      let first = way.0 in
      let in_rows : k < a.rows = omega (arith, first, rows) in
      let rest = way_back k ks t in_rows way.2 in
      let number : IsNumber (entry_at a s k) = subst IsNumber (turned k s in_rows l) way.1 in
      (rest.0 ++ s ∷ [], way_on a t rest.0 k s rest.1 l number)

-- ---- marks

-- row 0 is marked at first
pub reach_begins : (a : Table Date) (n : ℕ) (marks new : List Bool) → n ≡ a.rows → 1 ≤ n → marks ≡ replicate n false → new ≡ set marks 0 true → AreReachedRows a new
reach_begins a n marks new same some none is =
    let old : length marks ≡ n = ap length none ∙ length-replicate n false in
    let long : length new ≡ length marks = ap length is ∙ length-set marks 0 true in
    record {
      count = long ∙ (old ∙ same);
      start = ap (λ (bs : List Bool). get_or bs 0 false) is ∙ get_or-set_same marks 0 true false (omega (arith, old, some));
      reached = λ i e.
          ⊎_elim
          (λ (q : i ≡ 0). ([], sym q))
          (λ (q : get_or marks i false ≡ true). absurd (false≢true (sym (ap (λ (bs : List Bool). get_or bs i false) none ∙ flag_past n i) ∙ q)))
          (set_flag_before marks 0 i (sym (ap (λ (bs : List Bool). get_or bs i false) is) ∙ e));
    }

-- an open row is marked
pub reach_more : (a : Table Date) (marks new : List Bool) (row : ℕ) → AreReachedRows a marks → IsOpenRow a marks row → new ≡ set marks row true → AreReachedRows a new
reach_more a marks new row h open_row is =
    let count = h.count in
    let within = open_row.in_rows in
    let led = open_row.led in
    let before = h.reached led.0 led.2 in
    record {
      count = ap length is ∙ (length-set marks row true ∙ count);
      start =
          ⊎_elim
          (λ (q : 0 ≡ row). absurd (false≢true (sym open_row.off ∙ (ap (λ i. get_or marks i false) (sym q) ∙ h.start))))
          (λ (q : 0 ≢ row). ap (λ (bs : List Bool). get_or bs 0 false) is ∙ (get_or-set_other marks row 0 true false q ∙ h.start))
          (cases_eq 0 row);
      reached = λ i e.
          ⊎_elim
          (λ (q : i ≡ row). subst (λ (n : ℕ). (ks : List ℕ) × IsWay a 0 ks n) (sym q) (before.0 ++ row ∷ [], way_on a 0 before.0 led.0 row before.1 within led.3))
          (λ (q : get_or marks i false ≡ true). h.reached i q)
          (set_flag_before marks row i (sym (ap (λ (bs : List Bool). get_or bs i false) is) ∙ e));
    }

-- what a marked row reaches is marked, where no row is open
module _ (a : Table Date) (square : a.rows ≡ a.columns) (marks : List Bool) (closed : AreRowsClosed a marks) where
  led_on : (s : ℕ) (ks : List ℕ) (t : ℕ) → s < a.rows → IsMarkedRow marks s → IsWay a s ks t → IsMarkedRow marks t
  led_on s [] t l on way = subst (λ (n : ℕ). IsMarkedRow marks n) way on
  led_on s (k ∷ ks) t l on way =
      led_on k ks t way.0
      (⊎_elim
      (λ (q : get_or marks k false ≡ true). q)
      (λ (q : get_or marks k false ≡ false). absurd (closed k way.0 q (s, omega (arith, l, square), on, way.1)))
      (cases_Bool (get_or marks k false)))
      way.2

some_marked : (marks : List Bool) → IsMarkedRow marks 0 → 0 < length marks
some_marked [] e = absurd (false≢true e)
some_marked (b ∷ bs) e = omega arith

-- a row that is not marked is not reached, and one that is, is
pub from_first : (a : Table Date) → a.rows ≡ a.columns → (marks : List Bool) → AreReachedRows a marks → AreRowsClosed a marks
    → (o : Option ℕ) → IsFirstOff marks o → AnswersFromFirst a o
from_first a square marks h closed None all = λ i l. h.reached i (all i (let count = h.count in omega (arith, l, count)))
from_first a square marks h closed (Some i) off =
    let count = h.count in
    let some = some_marked marks h.start in
    let within = off.0 in (
      omega (arith, within, count),
      λ ks way. absurd (false≢true (sym off.1 ∙ led_on a square marks closed 0 ks i (omega (arith, some, count)) h.start way)),
    )

pub onward_unreached : (a : Table Date) (i : ℕ) → AnswersFromFirst a (Some i) → IsUnreached a (record { from = 0; to = i })
onward_unreached a i h = record { from_in = (let within = h.0 in omega (arith, within)); to_in = h.0; none = h.1 }

module _ (a b : Table Date) (square : a.rows ≡ a.columns) (rows : b.rows ≡ a.columns) (turned : (i j : ℕ) → i < a.columns → j < a.rows → entry_at b i j ≡ entry_at a j i) where
  same_rows : b.rows ≡ a.rows
  same_rows = rows ∙ sym square

  turned_in : (i j : ℕ) → i < a.rows → j < a.rows → entry_at b i j ≡ entry_at a j i
  turned_in i j li lj = turned i j (omega (arith, li, square)) lj

  -- what row 0 does not reach in the transpose does not reach row 0
  pub back_unreached : (j : ℕ) → AnswersFromFirst b (Some j) → IsUnreached a (record { from = j; to = 0 })
  back_unreached j h =
      let there = h.0 in
      let within : j < a.rows = omega (arith, there, same_rows) in
      record {
        from_in = within;
        to_in = omega (arith, within);
        none = λ ks way.
            let back = way_back b a (sym same_rows) (λ i k li lk. sym (turned_in k i (omega (arith, lk, same_rows)) (omega (arith, li, same_rows)))) j ks 0 there way in
            h.1 back.0 back.1;
      }

  -- rows that row 0 reaches, and that reach it, reach each other
  pub all_reached : AnswersFromFirst a None → AnswersFromFirst b None → IsIrreducible a
  all_reached onward back j i lj li =
      let out = onward i li in
      let home = back j (omega (arith, lj, same_rows)) in
      let way = way_back a b same_rows turned_in 0 home.0 j (omega (arith, lj)) home.1 in
      (way.0 ++ out.0, ways_join a j way.0 0 out.0 i way.1 out.1)
