-- Inputs at 0 meet endless due dates exactly where no number of any row is late; and walks to due firings are alike from each number.
use Rattle.std.proofs.Common.{ℕ, zero, suc, ◌+◌, ◌-◌, ◌<◌, ◌≤◌, ◌≡◌, ◌≢◌, List, [], ◌∷◌, Some, true, false, eqb, length, get_or, refl, sym, ap, subst, ◌∙◌, arith, ⊎_elim}
use Rattle.std.specs.Prelude.{pos, AllPairs, slice_get}
use Rattle.std.proofs.lemmas.Bool.{cases_Bool, cases_lt}
use Rattle.std.proofs.lemmas.Bool.Decides.{nat_tests}
use Rattle.std.proofs.lemmas.Int.{ints}
use Rattle.walk_times.specs.dioid.declared.dates.Date.TheVariants.{At}
use Rattle.walk_times.specs.dioid.Dates.{IsAtMostDate}
use Rattle.teg_net.specs.declared.walks.Step.{Step}
use Rattle.teg_net.specs.declared.walks.Step.TheVariants.{By, Next}
use Rattle.teg_net.specs.Nets.{NetLists}
use Rattle.teg_net.specs.Circuits.{place_at}
use Rattle.teg_net.specs.Walks.{Walks}
use Rattle.walk_times.proofs.teg_model_proofs.OfNet.{only_least}
use Rattle.due_laws.specs.MeetingDueDates.{inputs_at_zero}
use Rattle.endless_due.specs.declared.row.EndlessRow.{EndlessRow}
use Rattle.endless_due.specs.EndlessRows.{row_due, due_by, row_for, due_on, IsEndlessRow, IsEndlessOf}
use Rattle.forever_laws.specs.Late.{NoneLate}
use Rattle.forever_laws.specs.EndlessDues.{ZeroMeetsWhereNoneLate, FreeAtEachNumber}
use Rattle.forever_laws.proofs.GoingOn.{due_number, due_is, due_only}
use Rattle.forever_laws.proofs.Zeros.{least_number, date_is, at_most_numbers}
use Rattle.forever_laws.proofs.Soon.{late_from}

-- the row of a transition is found, since it has no other
pub row_found : (rows : List EndlessRow) (i : ℕ) (d : EndlessRow) → AllPairs (λ r s. r.transition.index ≢ s.transition.index) rows
    → i < length rows → row_for rows (get_or rows i d).transition.index ≡ Some (get_or rows i d)
row_found [] i d h l = absurd (omega arith)
row_found (x ∷ xs) zero d h l = let b : eqb x.transition.index x.transition.index ≡ true = grind (arith, nat_tests) in rw b refl
row_found (x ∷ xs) (suc i) d h l =
    let apart : x.transition.index ≢ (get_or xs i d).transition.index = h 0 (suc i) d (omega arith) l in
    let b : eqb x.transition.index (get_or xs i d).transition.index ≡ false = grind (arith, nat_tests) in
    rw b (row_found xs i d (λ j k c m n. h (suc j) (suc k) c (omega arith) (omega arith)) (omega arith))

-- a transition that is due has a row
pub record HasRow (rows : List EndlessRow) (t k d : ℕ) : Type 0 where
  pub index : ℕ
  pub row : EndlessRow
  pub within : index < length rows
  pub is : (o : EndlessRow) → get_or rows index o ≡ row
  pub got : slice_get rows index ≡ Some row
  pub names : row.transition.index ≡ t
  pub due : row_due row k ≡ Some d

pub has_row : (rows : List EndlessRow) (t k d : ℕ) → due_on rows t k ≡ Some d → HasRow rows t k d
has_row [] t k d e = absurd (cc)
has_row (x ∷ xs) t k d e =
    ⊎_elim
    (λ (b : eqb x.transition.index t ≡ true).
    record { index = 0; row = x; within = omega arith; is = λ o. refl; got = refl; names = grind (arith, nat_tests); due = rw b at e })
    (λ (b : eqb x.transition.index t ≡ false).
    let old : HasRow xs t k d = has_row xs t k d (rw b at e) in
    record { index = suc old.index; row = old.row; within = (let l = old.within in omega arith); is = old.is; got = old.got; names = old.names; due = old.due })
    (cases_Bool (eqb x.transition.index t))

-- a row makes each firing of its transition due
pub due_of_row : (net : NetLists) (rows : List EndlessRow) → IsEndlessOf net rows → (i k : ℕ) (o : EndlessRow) → i < length rows
    → due_on rows (get_or rows i o).transition.index k ≡ row_due (get_or rows i o) k
due_of_row net rows ok i k o l = ap (λ r. due_by r k) (row_found rows i o ok.once l)

pub meets_where : ZeroMeetsWhereNoneLate
meets_where net ends live rows each x least = (
  λ meets i o l k due date late.
      let r : EndlessRow = get_or rows i o in
      let row : IsEndlessRow net r = each.each i o l in
      let same : meets.0 r.transition.index k ≡ x r.transition.index k = only_least net inputs_at_zero (meets.0) x meets.1 least r.transition.index k row.in_range late.from_one in
      let keeps : IsAtMostDate (meets.0 r.transition.index k) (At (pos due)) = meets.2 r.transition.index k due row.in_range late.from_one (due_of_row net rows each i k o l ∙ late.is_due) in
      let most = at_most_numbers date due (subst (λ z. IsAtMostDate z (At (pos due))) (same ∙ late.comes) keeps) in
      let less = late.late in
      absurd (omega arith),
  λ none. (
    x,
    least,
    λ t k d in' one due.
        let h : HasRow rows t k d = has_row rows t k d due in
        let row : IsEndlessRow net h.row = rw h.is at (each.each h.index h.row h.within) in
        let own : NoneLate x h.row = rw h.is at (none h.index h.row h.within) in
        let is : d ≡ due_number h.row k = due_only h.row k d h.due in
        let comes : x h.row.transition.index k ≡ At (pos (least_number net ends live x least h.row.transition.index k)) = date_is net ends live x least h.row.transition.index k row.in_range one in
        let most : least_number net ends live x least h.row.transition.index k ≤ d =
        ⊎_elim
        (λ (late : due_number h.row k < least_number net ends live x least h.row.transition.index k).
        absurd (own k (due_number h.row k) (least_number net ends live x least h.row.transition.index k) (late_from net ends live x least h.row row k one late)))
        (λ (kept : least_number net ends live x least h.row.transition.index k ≤ due_number h.row k). omega arith)
        (cases_lt (due_number h.row k) (least_number net ends live x least h.row.transition.index k)) in
        subst (λ u. IsAtMostDate (x u k) (At (pos d))) h.names (subst (λ z. IsAtMostDate z (At (pos d))) (sym comes) (omega (arith, ints))),
  ),
)

-- ---- walks from each number

-- the same steps from a later number lead as much further
pub walk_later : (net : NetLists) (steps : List Step) (a s b k m : ℕ) → Walks net a s steps b k → Walks net a (s + m) steps b (k + m)
walk_later net [] a s b k m w = (w.0, ap (λ (z : ℕ). z + m) w.1)
walk_later net (By p ∷ steps) a s b k m w =
    let e : s + (place_at net p).tokens + m ≡ s + m + (place_at net p).tokens = omega arith in
    (w.0, w.1, subst (λ (z : ℕ). Walks net (place_at net p).to.index z steps b (k + m)) e (walk_later net steps (place_at net p).to.index (s + (place_at net p).tokens) b k m w.2))
walk_later net (Next ∷ steps) a s b k m w =
    let e : s + 1 + m ≡ s + m + 1 = omega arith in
    subst (λ (z : ℕ). Walks net a z steps b (k + m)) e (walk_later net steps a (s + 1) b k m w)

-- and from an earlier one as much less far
pub walk_back : (net : NetLists) (steps : List Step) (a s b k m : ℕ) → Walks net a (s + m) steps b k → (j : ℕ) × (k ≡ j + m) × (s ≤ j) × Walks net a s steps b j
walk_back net [] a s b k m w = (s, sym w.1, omega arith, (w.0, refl))
walk_back net (By p ∷ steps) a s b k m w =
    let e : s + m + (place_at net p).tokens ≡ s + (place_at net p).tokens + m = omega arith in
    let old = walk_back net steps (place_at net p).to.index (s + (place_at net p).tokens) b k m (subst (λ (z : ℕ). Walks net (place_at net p).to.index z steps b k) e w.2) in
    (old.0, old.1, (let l = old.2 in omega arith), (w.0, w.1, old.3))
walk_back net (Next ∷ steps) a s b k m w =
    let e : s + m + 1 ≡ s + 1 + m = omega arith in
    let old = walk_back net steps a (s + 1) b k m (subst (λ (z : ℕ). Walks net a z steps b k) e w) in
    (old.0, old.1, (let l = old.2 in omega arith), old.3)

pub free_at_each : FreeAtEachNumber
free_at_each net rows ok t j k oj ok' none steps b n d w due =
    let h : HasRow rows b n d = has_row rows b n d due in
    let at : (m : ℕ) → due_on rows b m ≡ Some (due_number h.row m) = λ m. ap (λ (u : ℕ). due_on rows u m) (sym h.names)
    ∙ (ap (λ (r : EndlessRow). due_on rows r.transition.index m) (sym (h.is h.row))
    ∙ (due_of_row net rows ok h.index m h.row h.within ∙ (ap (λ (r : EndlessRow). row_due r m) (h.is h.row) ∙ due_is h.row m))) in
    ⊎_elim
    (λ (less : j < k).
    let e : k ≡ j + (k - j) = omega arith in
    let back = walk_back net steps t j b n (k - j) (subst (λ (z : ℕ). Walks net t z steps b n) e w) in
    none steps b back.0 (due_number h.row back.0) back.3 (at back.0))
    (λ (more : k ≤ j).
    let e : k + (j - k) ≡ j = omega arith in
    none steps b (n + (j - k)) (due_number h.row (n + (j - k))) (subst (λ (z : ℕ). Walks net t z steps b (n + (j - k))) e (walk_later net steps t k b n (j - k) w)) (at (n + (j - k))))
    (cases_lt j k)
