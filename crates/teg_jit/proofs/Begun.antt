-- The due dates set, before any number is passed.
use Rattle.std.proofs.Common.{ℕ, ◌+◌, ◌*◌, ◌<◌, ◌≤◌, ◌≡◌, List, length, get_or, set, refl, sym, ap, subst, ◌∙◌, arith, ⊎_elim}
use Rattle.std.specs.Prelude.{pos, Option, Some}
use Rattle.std.proofs.lemmas.Bool.{cases_lt}
use Rattle.std.proofs.lemmas.List.{length-set}
use Rattle.date_rows.specs.dioid.declared.dates.Date.{Date}
use Rattle.date_rows.specs.dioid.declared.dates.Date.TheVariants.{At as on_date, Never}
use Rattle.date_rows.specs.dioid.Dates.{IsAtMostDate, delayed}
use Rattle.date_rows.proofs.dioid_proofs.DateOrder.{at_most_refl, at_most_is, at_most_trans, never_last}
use Rattle.teg_net.specs.Nets.{NetLists, IsNet}
use Rattle.teg_net.specs.Circuits.{place_at}
use Rattle.date_rows.specs.DateTables.{firing_position}
use Rattle.teg_due.specs.declared.rows.DueRow.{DueRow}
use Rattle.teg_jit.specs.declared.answers.Onward.{Onward}
use Rattle.teg_jit.specs.declared.answers.Onward.TheVariants.{Due, By}
use Rattle.teg_jit.specs.declared.answers.LatestDate.{LatestDate}
use Rattle.teg_jit.specs.declared.answers.LatestDate.TheVariants.{Free, At}
use Rattle.teg_due.specs.RowRules.{due_in}
use Rattle.teg_jit.specs.Plans.{latest_in, date_or_never, dates_of_latest, HasOnward, IsOnward}
use Rattle.teg_jit.specs.GoingBack.{lowered, ArePassedAbove}
use Rattle.teg_jit.proofs.TableCells.{set_here, set_other, past_last}
use Rattle.teg_due.proofs.DueOnce.{no_row}
use Rattle.teg_due.proofs.DueRows.{row_of_due}
use Rattle.teg_jit.proofs.Lowering.{IsBefore, lowered_cases, onward_of}
use Rattle.teg_jit.proofs.Back.{both_or_not, due_is_no_place}

abbrev date_of : LatestDate → ℕ
date_of Free = 0
date_of (At d o) = d

-- the dates with the first i rows set
pub record BegunTo (w : ℕ) (rows : List DueRow) (last : ℕ) (dates : List LatestDate) (i : ℕ) : Type 0 where
  pub full : length dates ≡ last * w
  pub dues : (j : ℕ) (r : DueRow) → j < length rows → j < i → IsAtMostDate (dates_of_latest w dates (get_or rows j r).transition.index (get_or rows j r).number) (on_date (pos (get_or rows j r).date))
  pub only : (t s d : ℕ) (o : Onward) → t < w → 1 ≤ s → latest_in w dates t s ≡ At d o → (o ≡ Due) × (due_in rows t s ≡ Some d)

free_is_not : (d : ℕ) (o : Onward) → Free ≡ At d o → ⊥
free_is_not d o e = at_most_is Never (on_date (pos d)) (ap date_or_never e)

-- no row
pub begun_starts : (w : ℕ) (rows : List DueRow) (last : ℕ) (dates : List LatestDate) → length dates ≡ last * w → ((i : ℕ) → get_or dates i Free ≡ Free) → BegunTo w rows last dates 0
begun_starts w rows last dates full free = record {
  full = full;
  dues = λ j r l m. absurd (omega arith);
  only = λ t s d o l m is. absurd (free_is_not d o (sym (free (firing_position w t s)) ∙ is));
}

-- a row more
pub begun_more :
    (w : ℕ) (rows : List DueRow) (last : ℕ) (dates : List LatestDate) (i : ℕ) (r : DueRow)
    → ((j : ℕ) (q : DueRow) → j < length rows → ((get_or rows j q).transition.index < w) × (1 ≤ (get_or rows j q).number))
    → BegunTo w rows last dates i → i < length rows → ((q : DueRow) → get_or rows i q ≡ r) → r.transition.index < w → 1 ≤ r.number → r.number ≤ last
    → due_in rows r.transition.index r.number ≡ Some r.date
    → BegunTo w rows last (set dates (firing_position w r.transition.index r.number) (lowered (get_or dates (firing_position w r.transition.index r.number) Free) r.date Due)) (i + 1)
begun_more w rows last dates i r range h l at t_in one m due =
    let t : ℕ = r.transition.index in
    let k : ℕ = r.number in
    let cell : ℕ = firing_position w t k in
    let new : LatestDate = lowered (get_or dates cell Free) r.date Due in
    let fresh : List LatestDate = set dates cell new in
    let here : latest_in w fresh t k ≡ new = set_here w last dates t k new h.full t_in one m in
    let other : (v s : ℕ) → v < w → 1 ≤ s → (v ≡ t → s ≡ k → ⊥) → latest_in w fresh v s ≡ latest_in w dates v s = λ v s a b c. set_other w dates t k v s new t_in a one b c in
    let new_below : IsAtMostDate (date_or_never new) (date_or_never (get_or dates cell Free)) × IsAtMostDate (date_or_never new) (on_date (pos r.date)) =
    ⊎_elim
    (λ (q : (new ≡ get_or dates cell Free) × IsAtMostDate (date_or_never (get_or dates cell Free)) (on_date (pos r.date))).
    (at_most_is (date_or_never new) (date_or_never (get_or dates cell Free)) (ap date_or_never q.0), rw q.0 q.1))
    (λ (q : (new ≡ At r.date Due) × IsBefore r.date (get_or dates cell Free)). (rw q.0 q.1.below, rw q.0 (at_most_refl (on_date (pos r.date)))))
    (lowered_cases (get_or dates cell Free) r.date Due) in
    let less : (v s : ℕ) → v < w → 1 ≤ s → IsAtMostDate (dates_of_latest w fresh v s) (dates_of_latest w dates v s) =
    λ v s a b. ⊎_elim
    (λ (q : (v ≡ t) × (s ≡ k)). rw (q.0, q.1, here) new_below.0)
    (λ (q : v ≡ t → s ≡ k → ⊥). at_most_is (dates_of_latest w fresh v s) (dates_of_latest w dates v s) (ap date_or_never (other v s a b q)))
    (both_or_not v t s k) in
    record {
      full = length-set dates cell new ∙ h.full;
      dues = λ j q a b.
          ⊎_elim
          (λ (c : j < i).
          let in' = range j q a in
          at_most_trans (dates_of_latest w fresh (get_or rows j q).transition.index (get_or rows j q).number)
          (dates_of_latest w dates (get_or rows j q).transition.index (get_or rows j q).number) (on_date (pos (get_or rows j q).date))
          (less (get_or rows j q).transition.index (get_or rows j q).number in'.0 in'.1) (h.dues j q a c))
          (λ (c : i ≤ j).
          let is : j ≡ i = omega arith in
          rw (is, at q, here) new_below.1)
          (cases_lt j i);
      only = λ v s d o a b is.
          ⊎_elim
          (λ (q : (v ≡ t) × (s ≡ k)).
          let there : new ≡ At d o = sym here ∙ (ap (latest_in w fresh t) (sym q.1) ∙ (ap (λ u. latest_in w fresh u s) (sym q.0) ∙ is)) in
          ⊎_elim
          (λ (x : (new ≡ get_or dates cell Free) × IsAtMostDate (date_or_never (get_or dates cell Free)) (on_date (pos r.date))).
          rw (q.0, q.1) (h.only t k d o t_in one (sym x.0 ∙ there)))
          (λ (x : (new ≡ At r.date Due) × IsBefore r.date (get_or dates cell Free)).
          let both : At d o ≡ At r.date Due = sym there ∙ x.0 in
          (ap onward_of both, rw (q.0, q.1) (due ∙ ap (λ z. Some z) (sym (ap date_of both)))))
          (lowered_cases (get_or dates cell Free) r.date Due))
          (λ (q : v ≡ t → s ≡ k → ⊥). h.only v s d o a b (sym (other v s a b q) ∙ is))
          (both_or_not v t s k);
    }

-- what is there has a step where only due dates are there
only_onward : (net : NetLists) (due : ℕ → ℕ → Option ℕ) (y : ℕ → ℕ → Date) (t s : ℕ) (b : LatestDate) → ((d : ℕ) (o : Onward) → b ≡ At d o → (o ≡ Due) × (due t s ≡ Some d)) → HasOnward net due y t s b
only_onward net due y t s Free h = tt
only_onward net due y t s (At d o) h =
    let is = h d o refl in
    subst (λ z. IsOnward net due y t s d z) (sym is.0) is.1

only_above : (b : LatestDate) (x : Date) → ((d : ℕ) (o : Onward) → b ≡ At d o → IsAtMostDate x (on_date (pos d))) → IsAtMostDate x (date_or_never b)
only_above Free x h = never_last x
only_above (At d o) x h = h d o refl

pub begun_is : (net : NetLists) (rows : List DueRow) (last : ℕ) (dates : List LatestDate) (i : ℕ) → IsNet net
    → BegunTo (length net.transitions) rows last dates i → length rows ≤ i → ArePassedAbove net (due_in rows) last last dates
begun_is net rows last dates i ok h end order =
    let w : ℕ = length net.transitions in
    let never : (t s : ℕ) → last < s → dates_of_latest w dates t s ≡ Never = λ t s l. ap date_or_never (past_last w last dates t s h.full l) in
    record {
      full = h.full;
      dues = λ t k d l o is.
          let r = row_of_due rows t k d is in
          let named = r.2 no_row in
          rw (named.0, named.1, named.2) at (h.dues r.0 no_row r.1 (omega (arith, r.1)));
      above = λ x f keeps t s l o.
          only_above (latest_in w dates t s) (x t s) (λ d q is. keeps t s d l o (h.only t s d q l o is).1);
      places = λ p s in' l. rw (never (place_at net p).to.index (s + (place_at net p).tokens) (omega arith))
          (never_last (delayed (place_at net p).hold (dates_of_latest w dates (place_at net p).from.index s)));
      climbs = λ t s l m. rw (never t (s + 1) (omega arith)) (never_last (dates_of_latest w dates t s));
      nexts = λ t l m. absurd (omega arith);
      done = λ c d l m. absurd (omega arith);
      onward = λ t s l o. only_onward net (due_in rows) (dates_of_latest w dates) t s (latest_in w dates t s) (λ d q is. h.only t s d q l o is);
      steps = λ t d p l o is. absurd (due_is_no_place p (h.only t last d (By p) l o is).0);
      untouched = λ t s l o m d q is. (h.only t s d q l o is).0;
    }
