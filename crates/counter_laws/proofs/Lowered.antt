-- A date lowered to what its firing waits for keeps a dating feasible, so least datings are tight in every net.
use Rattle.std.proofs.Common.{ℕ, ◌<◌, ◌≤◌, ◌≡◌, ◌≢◌, true, false, cond, eqb, length, get_or, sym, subst, arith, ⊎_elim}
use Rattle.std.specs.Prelude.{All}
use Rattle.std.proofs.lemmas.Bool.{cases_eq, cases_lt, eq-eqb}
use Rattle.std.proofs.lemmas.Bool.Decides.{nat_tests}
use Rattle.std.proofs.lemmas.Option.{slice_get_past}
use Rattle.teg_model.specs.dioid.declared.dates.Date.{Date}
use Rattle.teg_model.specs.dioid.Dates.{IsAtMostDate, earlier_of}
use Rattle.teg_model.proofs.dioid_proofs.DateOrder.{at_most_refl, at_most_trans, earlier_left, earlier_right, earlier_greatest}
use Rattle.teg_model.specs.teg_net.declared.entries.Place.{Place}
use Rattle.teg_model.specs.teg_net.Nets.{NetLists, IsInput}
use Rattle.teg_model.specs.Datings.{extended_places, available_at, initial_date, IsFeasibleUnder, IsLeastUnder}
use Rattle.teg_model.specs.LeastDatings.{IsTight}
use Rattle.teg_model.proofs.DateFunctions.{Dating}
use Rattle.teg_model.proofs.LeastOver.{available_rises}

-- an input is a transition of the net
pub input_in : (net : NetLists) (t : ℕ) → IsInput net t → t < length net.transitions
input_in net t i =
    ⊎_elim
    (λ (l : t < length net.transitions). l)
    (λ (l : length net.transitions ≤ t). absurd (rw (slice_get_past net.transitions t l) at i))
    (cases_lt t (length net.transitions))

module _ (x : Dating) (t k : ℕ) (z : Date) where
  abbrev lowered : Dating
  lowered s j = cond (eqb s t) (cond (eqb j k) (earlier_of (x s j) z) (x s j)) (x s j)

  -- what is at most the date, and there at most z, is at most it
  at_least : (s j : ℕ) (c : Date) → IsAtMostDate c (x s j) → (s ≡ t → j ≡ k → IsAtMostDate c z) → IsAtMostDate c (lowered s j)
  at_least s j c low h = ⊎_elim
      (λ (e : s ≡ t). ⊎_elim
      (λ (g : j ≡ k). rw (eq-eqb s t e, eq-eqb j k g) (earlier_greatest (x s j) z c low (h e g)))
      (λ (g : j ≢ k). let off : eqb j k ≡ false = grind (arith, nat_tests, g) in rw (eq-eqb s t e, off) low)
      (cases_eq j k))
      (λ (e : s ≢ t). let off : eqb s t ≡ false = grind (arith, nat_tests, e) in rw off low)
      (cases_eq s t)

  not_above : (s j : ℕ) → IsAtMostDate (lowered s j) (x s j)
  not_above s j = ⊎_elim
      (λ (e : s ≡ t). ⊎_elim
      (λ (g : j ≡ k). rw (eq-eqb s t e, eq-eqb j k g) (earlier_left (x s j) z))
      (λ (g : j ≢ k). let off : eqb j k ≡ false = grind (arith, nat_tests, g) in rw (eq-eqb s t e, off) (at_most_refl (x s j)))
      (cases_eq j k))
      (λ (e : s ≢ t). let off : eqb s t ≡ false = grind (arith, nat_tests, e) in rw off (at_most_refl (x s j)))
      (cases_eq s t)

  at_place : IsAtMostDate (lowered t k) z
  at_place =
      let one : eqb t t ≡ true = grind (arith, nat_tests) in
      let two : eqb k k ≡ true = grind (arith, nat_tests) in
      rw (one, two) (earlier_right (x t k) z)

  still_feasible : (net : NetLists) (u : Dating) → IsFeasibleUnder net u x → All (λ p. p.to.index ≡ t → IsAtMostDate (available_at x p k) z) (extended_places net)
      → (IsInput net t → IsAtMostDate (u t k) z) → IsFeasibleUnder net u lowered
  still_feasible net u f all under = record {
    places = λ j one i d m.
        let p : Place = get_or (extended_places net) i d in
        let rises = available_rises initial_date lowered x p j (λ n o. not_above p.from.index n) in
        at_least p.to.index j (available_at lowered p j)
        (at_most_trans (available_at lowered p j) (available_at x p j) (x p.to.index j) rises (f.places j one i d m))
        (λ e g. at_most_trans (available_at lowered p j) (available_at x p j) z rises (subst (λ n. IsAtMostDate (available_at x p n) z) (sym g) (all i d m e)));
    inputs = λ s j one i. at_least s j (u s j) (f.inputs s j one i)
        (λ e g. subst (λ n. IsAtMostDate (u n j) z) (sym e) (subst (λ n. IsAtMostDate (u t n) z) (sym g) (under (subst (λ n. IsInput net n) e i))));
  }

-- no least date comes later than the last of what its firing waits for
pub wait_for_no_more : (net : NetLists) (u x : Dating) → IsLeastUnder net u x → IsTight net u x
wait_for_no_more net u x h = record {
  tight = λ t k z l o all under.
      at_most_trans (x t k) (lowered x t k z t k) z (h.least (lowered x t k z) (still_feasible x t k z net u h.feasible all under) t k l o) (at_place x t k z);
}
