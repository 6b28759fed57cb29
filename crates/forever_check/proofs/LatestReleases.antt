-- Releases that meet what is due, and that walks to due firings show, are the latest.
use Rattle.std.proofs.Common.{ℕ, zero, suc, ◌+◌, ◌<◌, ◌≤◌, ◌≡◌, ◌≢◌, ◌==◌, List, [], ◌∷◌, Option, Some, None, true, false, eqb, length, get_or, refl, sym, ap, subst, ◌∙◌, arith, ⊎_elim}
use Rattle.std.specs.Prelude.{All, Any, IfSome, find}
use Rattle.std.proofs.lemmas.Bool.{cases_Bool}
use Rattle.std.proofs.lemmas.Bool.Decides.{nat_tests}
use Rattle.dioid.specs.declared.dates.Date.{Date}
use Rattle.dioid.specs.declared.dates.Date.TheVariants.{Never}
use Rattle.teg_net.specs.declared.entries.InputList.{InputList}
use Rattle.teg_net.specs.Inputs.{date_by_list, list_of_input}
use Rattle.teg_net.specs.Nets.{NetLists, HasEndsInRange, IsInput, IsInputOf, IsNet}
use Rattle.teg_net.proofs.InputDates.{found_rules}
use Rattle.teg_model.specs.Datings.{as_date, listed_releases}
use Rattle.list_spans.proofs.Listing.{dates_climb, dates_late}
use Rattle.due_laws.specs.MeetingDueDates.{AreInputs, InputsMeet, AreLatestInputs}
use Rattle.due_laws.specs.LatestDates.{IsDateToDue, IsLatestDate}
use Rattle.endless_due.specs.declared.row.EndlessRow.{EndlessRow}
use Rattle.endless_due.specs.EndlessRows.{due_on}
use Rattle.forever_laws.proofs.Inputs.{input_in}
use Rattle.endless_laws.proofs.WalksToDues.{shown_are_latest}
use Rattle.forever_check.specs.ShownReleases.{AreReleases, with_lists}
use Rattle.forever_check.specs.ReleaseWalks.{IsReleaseShown}

if_some : {X : Type 0} (P : X → Type 0) (o : Option X) → ((x : X) → Some x ≡ o → P x) → IfSome o P
if_some P None h = tt
if_some P (Some x) h = h x refl

-- a list of the transition is found, and holds with what holds of each
record HasList (P : InputList → Type 0) (lists : List InputList) (t : ℕ) : Type 0 where
  pub list : InputList
  pub found : find (λ l. l.transition.index == t) lists ≡ Some list
  pub of_input : list.transition.index ≡ t
  pub holds : P list

-- where the first is of another transition, one of the others is of this one
another : (x : InputList) (xs : List InputList) (t : ℕ) → (x.transition.index ≡ t → ⊥) → (i : ℕ) (l : InputList) → i < length (x ∷ xs) → get_or (x ∷ xs) i l ≡ l
    → l.transition.index ≡ t → Any (λ q. q.transition.index ≡ t) xs
another x xs t other zero l m same is = absurd (other (ap (λ (q : InputList). q.transition.index) same ∙ is))
another x xs t other (suc i) l m same is = (i, l, omega arith, same, is)

has_list : (P : InputList → Type 0) (lists : List InputList) (t : ℕ) → All P lists → Any (λ l. l.transition.index ≡ t) lists → HasList P lists t
has_list P [] t each some = let m = some.2 in absurd (omega arith)
has_list P (x ∷ xs) t each some =
    ⊎_elim
    (λ (b : eqb x.transition.index t ≡ true). record { list = x; found = rw b refl; of_input = grind (arith, nat_tests); holds = each 0 x (omega arith) })
    (λ (b : eqb x.transition.index t ≡ false).
    let old : HasList P xs t = has_list P xs t (λ i d l. each (suc i) d (omega arith)) (another x xs t
    (λ e. (let same : eqb x.transition.index t ≡ true = grind (arith, nat_tests) in absurd (cc))) some.0 some.1 some.2 some.3 some.4) in
    record { list = old.list; found = rw b old.found; of_input = old.of_input; holds = old.holds })
    (cases_Bool (eqb x.transition.index t))

module _ (net : NetLists) (lists : List InputList) (rules : IsNet (with_lists net lists)) where
  abbrev released : ℕ → ℕ → Date
  released = listed_releases (with_lists net lists)

  is_list : (t : ℕ) → IfSome (list_of_input (with_lists net lists) t) (IsInputOf (with_lists net lists))
  is_list t = if_some (IsInputOf (with_lists net lists)) (list_of_input (with_lists net lists) t) (λ l e. found_rules (with_lists net lists) lists t l rules.each_input e)

  are_inputs : AreInputs net released
  are_inputs = record {
    from_zero = λ t k i one. dates_late (list_of_input (with_lists net lists) t) k;
    never_fall = λ t k i one. dates_climb (with_lists net lists) (list_of_input (with_lists net lists) t) (is_list t) k one;
  }

  walks_to : (rows : List EndlessRow) → AreReleases net lists → All (IsReleaseShown net rows) lists
      → (t k : ℕ) → IsInput net t → 1 ≤ k → released t k ≢ Never → IsDateToDue net (due_on rows) t k (released t k)
  walks_to rows are each t k input one dated =
      let h : HasList (IsReleaseShown net rows) lists t = has_list (IsReleaseShown net rows) lists t each (are.each_input t (input_in net t input) input) in
      let is : released t k ≡ as_date (date_by_list (Some h.list) k) = ap (λ (o : Option InputList). as_date (date_by_list o k)) h.found in
      let own : IsDateToDue net (due_on rows) h.list.transition.index k (as_date (date_by_list (Some h.list) k)) = h.holds k one (λ e. dated (is ∙ e)) in
      subst (λ (d : Date). IsDateToDue net (due_on rows) t k d) (sym is)
      (subst (λ (s : ℕ). IsDateToDue net (due_on rows) s k (as_date (date_by_list (Some h.list) k))) h.of_input own)

  pub are_latest : (rows : List EndlessRow) → HasEndsInRange net → AreReleases net lists → InputsMeet net (due_on rows) released → All (IsReleaseShown net rows) lists
      → AreLatestInputs net (due_on rows) released × ((t k : ℕ) → IsInput net t → 1 ≤ k → IsLatestDate net (due_on rows) t k (released t k))
  are_latest rows ends are meet each = shown_are_latest net ends (due_on rows) released are_inputs meet (walks_to rows are each)
