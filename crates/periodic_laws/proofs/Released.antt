-- The least dates of a system on the transitions of the net are those of the system in which nothing else is released.
use Rattle.std.proofs.Common.{◌≡◌, arith, ℕ, ◌-◌, ◌≤◌, ◌<◌, sym, ⊎_elim, cond, ltb, List, get_or, true, false, refl}
use Rattle.std.specs.Prelude.{All}
use Rattle.std.proofs.lemmas.Bool.{cases_lt}
use Rattle.std.proofs.lemmas.Bool.Decides.{nat_tests}
use Rattle.series_ops.specs.dioid.DateOrder.{Le}
use Rattle.series_ops.proofs.dioid_proofs.AtMost.{le_is, le_trans, early_le}
use Rattle.settled_laws.specs.teg_net.declared.entries.Place.{Place}
use Rattle.settled_laws.specs.teg_model.Systems.{System, IsFeasibleIn, IsLeastIn}
use Rattle.settled_laws.proofs.teg_model_proofs.Tokens.{available_same}
use Rattle.settled_laws.proofs.teg_model_proofs.DateFunctions.{Dating, InitialDates}
use Rattle.periodic_laws.proofs.Fixed.{IsLeastOn}
use Rattle.periodic_laws.proofs.Inside.{inside, inside_is, inside_not}

-- y on the first transitions, and w past them
abbrev beside : ℕ → Dating → Dating → Dating
beside count y w t k = cond (ltb t count) (y t k) (w t k)

beside_is : (count : ℕ) (y w : Dating) (t k : ℕ) → t < count → beside count y w t k ≡ y t k
beside_is count y w t k l = let e : ltb t count ≡ true = grind (arith, nat_tests) in rw e refl

beside_not : (count : ℕ) (y w : Dating) (t k : ℕ) → count ≤ t → beside count y w t k ≡ w t k
beside_not count y w t k l = let e : ltb t count ≡ false = grind (arith, nat_tests) in rw e refl

module _ (count : ℕ) (places : List Place) (initial : InitialDates) (release : Dating) (ends : All (λ p. (p.from.index < count) × (p.to.index < count)) places) where
  abbrev whole : System
  whole = record { places = places; initial = initial; release = release }

  abbrev part : System
  part = record { places = places; initial = initial; release = inside count release }

  part_of : (x : Dating) → IsFeasibleIn whole x → IsFeasibleIn part x
  part_of x f = record {
    places = f.places;
    releases = λ t k o. (⊎_elim
        (λ (l : t < count). le_trans (le_is (inside_is count release t k l)) (record { holds = f.releases t k o }))
        (λ (l : count ≤ t). le_trans (le_is (inside_not count release t k l)) (early_le (x t k)))
        (cases_lt t count)).holds;
  }

  whole_of : (y : Dating) → IsFeasibleIn part y → IsFeasibleIn whole (beside count y release)
  whole_of y f = record {
    places = λ k o q d l. (
        let p : Place = get_or places q d in
        let in' = ends q d l in
        let kept : Le _ (y p.to.index k) = record { holds = f.places k o q d l } in
        le_trans (le_is (available_same initial (beside count y release) y p k
        (λ m. beside_is count y release p.from.index (k - p.tokens) in'.0)))
        (le_trans kept (le_is (sym (beside_is count y release p.to.index k in'.1))))).holds;
    releases = λ t k o. (⊎_elim
        (λ (l : t < count). le_trans (le_is (sym (inside_is count release t k l))) (le_trans (record { holds = f.releases t k o }) (le_is (sym (beside_is count y release t k l)))))
        (λ (l : count ≤ t). le_is (sym (beside_not count y release t k l)))
        (cases_lt t count)).holds;
  }

  pub least_of_part : (x : Dating) → IsLeastIn whole x → IsLeastOn count part x
  least_of_part x h = record {
    feasible = part_of x h.feasible;
    least = λ y f t k l o.
        (le_trans (record { holds = h.least (beside count y release) (whole_of y f) t k o }) (le_is (beside_is count y release t k l))).holds;
  }
