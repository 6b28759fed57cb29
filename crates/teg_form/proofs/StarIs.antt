-- The star of the matrix of holds: there is one, and it holds the greatest times.
use Rattle.std.proofs.Common.{ℕ, pos, ◌+◌, ◌*◌, ◌<◌, ◌≡◌, ◌≢◌, List, [], true, false, cond, eqb, get_or, length, refl, sym, ap, subst, ◌∙◌, arith, ⊎_elim}
use Rattle.std.proofs.lemmas.Bool.{cases_eq}
use Rattle.std.proofs.lemmas.Bool.Decides.{nat_tests}
use Rattle.dioid.specs.declared.dates.Date.{Date}
use Rattle.dioid.specs.declared.dates.Date.TheVariants.{Early, At, Never}
use Rattle.dioid.specs.declared.algebra.Dioid.{Ghosts as DioidOf}
use Rattle.dioid.specs.declared.algebra.Kleene.{Ghosts as KleeneOf}
use Rattle.dioid.specs.Dates.{IsAtMostDate, later_of}
use Rattle.dioid_matrix.specs.MatrixStars.{steps_of, star_of}
use Rattle.dioid_matrix.specs.Tables.{Table, table_of, entry_of}
use Rattle.dioid_matrix.specs.Turns.{IsStar, StarRefused}
use Rattle.dioid_matrix.specs.declared.refusals.MatrixRefused.TheVariants.{Range}
use Rattle.dioid_matrix.proofs.Least.{is_itself}
use Rattle.teg_net.specs.Nets.{NetLists, IsNet}
use Rattle.teg_net.specs.Circuits.{no_place, place_at, time_of}
use Rattle.teg_check.specs.Ranks.{IsRanking}
use Rattle.teg_form.specs.StandardForms.{IsTimeOfFreePath}
use Rattle.teg_form.specs.Times.{cell, IsHoldBetween, AreFreeHolds, IsTimeBetween, AreFreeTimes}
use Rattle.teg_form.proofs.FreePaths.{one_place, time_below}
use Rattle.teg_form.proofs.Recursion.{AreOfDates, IsWay, steps_way, steps_fit, last_fits, no_way_back}
use Rattle.teg_form.proofs.StarTimes.{path_below}

different : (i j : ℕ) → i ≢ j → eqb i j ≡ false
different i j h = grind (arith, nat_tests)

module _ (net : NetLists) (ranks : List ℕ) (ok : IsNet net) (r : IsRanking net ranks) where
  hold_way : (a b : ℕ) (x : Date) → IsHoldBetween net a b x → IsWay net ranks a b x
  hold_way a b Early h = tt
  hold_way a b (At x) (id, f, e) =
      let rise : get_or ranks (place_at net id).from.index 0 < get_or ranks (place_at net id).to.index 0 = r.rises id.index no_place f.in_range f.no_tokens in
      let path = one_place net id f.in_range f.no_tokens in
      let ends : IsTimeOfFreePath net a b (place_at net id).hold =
      subst (λ z. IsTimeOfFreePath net z b (place_at net id).hold) f.begins (subst (λ z. IsTimeOfFreePath net (place_at net id).from.index z (place_at net id).hold) f.ends path) in
      ((place_at net id).hold, ends, omega (arith, rise, ap (λ z. get_or ranks z 0) f.begins, ap (λ z. get_or ranks z 0) f.ends), e)
  hold_way a b Never h = absurd h

  way_time : (a b : ℕ) (x : Date) → IsWay net ranks a b x → IsTimeBetween net a b x
  way_time a b Early h = tt
  way_time a b (At x) (t, p, l, e) = (t, p, e, time_below net ranks ok r a b t p)
  way_time a b Never h = absurd h

  empty_time : (a : ℕ) → IsTimeBetween net a a (At (pos 0))
  empty_time a = (0, record { places = []; path = refl; no_tokens = refl; is = refl }, refl, omega arith)

  module _ (d : DioidOf Date) (s : KleeneOf Date) (is : AreOfDates d s) (holds : List Date) (h : AreFreeHolds net holds) where
    abbrev size : ℕ
    size = length net.transitions

    abbrev matrix : Table Date
    matrix = table_of size size holds

    read : (t : Table Date) (a b : ℕ) → entry_of d t a b ≡ cell t.entries t.columns a b
    read t a b = ap (get_or t.entries (a * t.columns + b)) is.zero_is

    ways : (i j : ℕ) → i < size → j < size → IsWay net ranks i j (entry_of d matrix i j)
    ways i j hi hj = subst (IsWay net ranks i j) (sym (read matrix i j)) (hold_way i j (cell holds size i j) (h.sound i j hi hj))

    star_time : (i j : ℕ) → i < size → j < size → IsTimeBetween net i j (star_of d s size (entry_of d matrix) i j)
    star_time i j hi hj =
        let x : Date = steps_of d s (entry_of d matrix) size i j in
        let way = steps_way net ranks ok r d s is size (entry_of d matrix) ways size i j (omega arith) hi hj in
        ⊎_elim
        (λ (q : i ≡ j).
        let early : x ≡ Early = no_way_back net ranks ok r i x (subst (λ z. IsWay net ranks i z x) (sym q) way) in
        let test : eqb i j ≡ true = subst (λ z. eqb i z ≡ true) q (is_itself i) in
        let value : star_of d s size (entry_of d matrix) i j ≡ At (pos 0) =
        ap (λ v. cond v (d.sum x d.one) x) test ∙ is.sum_is x d.one ∙ ap (λ z. later_of z d.one) early ∙ is.one_is in
        subst (IsTimeBetween net i j) (sym value) (subst (λ z. IsTimeBetween net i z (At (pos 0))) q (empty_time i)))
        (λ (q : i ≢ j).
        let value : star_of d s size (entry_of d matrix) i j ≡ x = ap (λ v. cond v (d.sum x d.one) x) (different i j q) in
        subst (IsTimeBetween net i j) (sym value) (way_time i j x way))
        (cases_eq i j)

    pub free_times_are : (t : Table Date) → IsStar d s matrix t → AreFreeTimes net t
    free_times_are t star = record {
      rows = star.rows;
      columns = star.columns;
      sound = λ a b ha hb. subst (IsTimeBetween net a b) (sym (star.entries a b ha hb) ∙ read t a b) (star_time a b ha hb);
      complete = λ a b time ha p.
          let below = path_below d s is size (entry_of d matrix) (entry_of d t) star.least net ok refl
          (λ id l z. subst (IsAtMostDate (At (pos (place_at net id).hold))) (sym (read matrix (place_at net id).from.index (place_at net id).to.index)) (h.complete id l z))
          p.places a b ha p.path p.no_tokens in
          subst (λ m. IsAtMostDate (At (pos m)) (cell t.entries t.columns a b)) (sym p.is) (subst (IsAtMostDate (At (pos (time_of net p.places)))) (read t a b) below);
    }

    pub range_never : (step row column : ℕ) → StarRefused d s matrix (Range step row column) → ⊥
    range_never step row column w = ⊎_elim
        (λ q. q.4.here (steps_fit net ranks ok r d s is size (entry_of d matrix) ways q.0 row column q.1 q.4.in_rows q.4.in_columns))
        (λ q. q.2.here (last_fits net ranks ok r d s is size (entry_of d matrix) ways row column))
        w.1
