-- Releases some numbers later: the dates as many numbers before are feasible, and no dating is less.
use Rattle.std.proofs.Common.{ℕ, ◌+◌, ◌-◌, ◌<◌, ◌≤◌, ◌≡◌, true, false, ltb, length, get_or, refl, ap, ◌∙◌, arith, ⊎_elim}
use Rattle.std.proofs.lemmas.Bool.{cases_lt}
use Rattle.std.proofs.lemmas.Bool.Decides.{nat_tests}
use Rattle.std.proofs.lemmas.List.{get_or_default}
use Rattle.teg_model.specs.dioid.declared.dates.Date.{Date}
use Rattle.teg_model.specs.dioid.declared.dates.Date.TheVariants.{Early}
use Rattle.teg_model.specs.dioid.Dates.{IsAtMostDate, later_of, delayed}
use Rattle.teg_model.proofs.dioid_proofs.DateOrder.{at_most_trans, same_by_at_most, later_left, later_right, later_least, later_either}
use Rattle.teg_model.specs.teg_net.declared.entries.Place.{Place}
use Rattle.teg_model.specs.teg_net.Nets.{NetLists}
use Rattle.teg_model.specs.teg_net.Circuits.{no_place}
use Rattle.teg_model.specs.LiveRanks.{HasEndsInRange}
use Rattle.teg_model.specs.Datings.{extended_places, implicit_place, available_at, initial_date, IsFeasibleUnder}
use Rattle.teg_model.proofs.DateFunctions.{Dating}
use Rattle.teg_model.proofs.OfNet.{all_extended_in}
use Rattle.teg_model.proofs.Tokens.{available_after, available_first, place_keeps, implicit_keeps}
use Rattle.dating_laws.proofs.SlowerNets.{climb}
use Rattle.io_laws.specs.InputOutput.{no_releases}
use Rattle.planning_laws.specs.MovedReleases.{numbered_on, ReleasesMoveNumbers}

-- a dating n numbers on, and Early before
abbrev on : ℕ → Dating → Dating
on n x = numbered_on n x

on_past : (n : ℕ) (x : Dating) (t k : ℕ) → n < k → on n x t k ≡ x t (k - n)
on_past n x t k l = let test : ltb n k ≡ true = grind (arith, nat_tests) in rw test refl

on_first : (n : ℕ) (x : Dating) (t k : ℕ) → k ≤ n → on n x t k ≡ Early
on_first n x t k l = let test : ltb n k ≡ false = grind (arith, nat_tests) in rw test refl

module _ (net : NetLists) (n : ℕ) (u free x : Dating) (none : IsFeasibleUnder net no_releases free) (least : IsFeasibleUnder net u x) where
  -- the later of both
  abbrev z : Dating
  z t k = later_of (free t k) (on n x t k)

  -- what comes n numbers on is there for the end as many numbers on
  on_keeps : (p : Place) (k : ℕ) → 1 ≤ k → p.tokens < k → ((j : ℕ) → 1 ≤ j → IsAtMostDate (available_at x p j) (x p.to.index j))
      → IsAtMostDate (delayed p.hold (on n x p.from.index (k - p.tokens))) (on n x p.to.index k)
  on_keeps p k one l keeps = ⊎_elim
      (λ (m : n < k - p.tokens).
      let j : ℕ = k - n in
      let few : p.tokens < j = omega (arith, l, m) in
      let same : k - p.tokens - n ≡ j - p.tokens = omega (arith, l, m) in
      let from : on n x p.from.index (k - p.tokens) ≡ x p.from.index (j - p.tokens) = on_past n x p.from.index (k - p.tokens) m ∙ ap (x p.from.index) same in
      let there : IsAtMostDate (delayed p.hold (x p.from.index (j - p.tokens))) (x p.to.index j) =
      rw (available_after initial_date x p j (x p.from.index (j - p.tokens)) few refl) at (keeps j (omega (arith, few))) in
      rw (from, on_past n x p.to.index k (omega (arith, m))) there)
      (λ (m : k - p.tokens ≤ n). rw (on_first n x p.from.index (k - p.tokens) m) tt)
      (cases_lt n (k - p.tokens))

  z_keeps : (p : Place) (k : ℕ) → 1 ≤ k → IsAtMostDate (available_at free p k) (free p.to.index k)
      → ((j : ℕ) → 1 ≤ j → IsAtMostDate (available_at x p j) (x p.to.index j)) → IsAtMostDate (available_at z p k) (z p.to.index k)
  z_keeps p k one own keeps = ⊎_elim
      (λ (l : p.tokens < k).
      let a : Date = free p.from.index (k - p.tokens) in
      let b : Date = on n x p.from.index (k - p.tokens) in
      let low : IsAtMostDate (delayed p.hold a) (free p.to.index k) = rw (available_after initial_date free p k a l refl) at own in
      let high : IsAtMostDate (delayed p.hold b) (on n x p.to.index k) = on_keeps p k one l keeps in
      rw (available_after initial_date z p k (later_of a b) l refl)
      (⊎_elim
      (λ (e : later_of a b ≡ a). rw e (at_most_trans (delayed p.hold a) (free p.to.index k) (z p.to.index k) low (later_left (free p.to.index k) (on n x p.to.index k))))
      (λ (e : later_of a b ≡ b). rw e (at_most_trans (delayed p.hold b) (on n x p.to.index k) (z p.to.index k) high (later_right (free p.to.index k) (on n x p.to.index k))))
      (later_either a b)))
      (λ (l : k ≤ p.tokens).
      rw (available_first initial_date z p k l)
      (at_most_trans (initial_date p k) (free p.to.index k) (z p.to.index k) (rw (available_first initial_date free p k l) at own) (later_left (free p.to.index k) (on n x p.to.index k))))
      (cases_lt p.tokens k)

  z_feasible : IsFeasibleUnder net (numbered_on n u) z
  z_feasible = record {
    places = λ k one i d l. z_keeps (get_or (extended_places net) i d) k one (none.places k one i d l) (λ j o. least.places j o i d l);
    inputs = λ t k one i. ⊎_elim
        (λ (l : n < k).
        let low : IsAtMostDate (numbered_on n u t k) (on n x t k) = rw (on_past n u t k l, on_past n x t k l) (least.inputs t (k - n) (omega (arith, l)) i) in
        at_most_trans (numbered_on n u t k) (on n x t k) (z t k) low (later_right (free t k) (on n x t k)))
        (λ (l : k ≤ n). rw (on_first n u t k l) tt)
        (cases_lt n k);
  }

module _ (net : NetLists) (n : ℕ) (u y : Dating) (f : IsFeasibleUnder net (numbered_on n u) y) where
  -- the dating from number n on
  abbrev back : Dating
  back t k = y t (k + n)

  back_keeps : (p : Place) → p.to.index < length net.transitions → ((j : ℕ) → 1 ≤ j → IsAtMostDate (available_at y p j) (y p.to.index j))
      → (k : ℕ) → 1 ≤ k → IsAtMostDate (available_at back p k) (back p.to.index k)
  back_keeps p to_in keeps k one = ⊎_elim
      (λ (l : p.tokens < k).
      let same : k + n - p.tokens ≡ k - p.tokens + n = omega (arith, l) in
      let from : y p.from.index (k + n - p.tokens) ≡ y p.from.index (k - p.tokens + n) = ap (y p.from.index) same in
      let there : IsAtMostDate (delayed p.hold (y p.from.index (k - p.tokens + n))) (y p.to.index (k + n)) =
      rw (available_after initial_date y p (k + n) (y p.from.index (k - p.tokens + n)) (omega (arith, l)) from) at (keeps (k + n) (omega (arith, one))) in
      rw (available_after initial_date back p k (y p.from.index (k - p.tokens + n)) l refl) there)
      (λ (l : k ≤ p.tokens).
      rw (available_first initial_date back p k l)
      (at_most_trans (initial_date p k) (y p.to.index k) (y p.to.index (k + n))
      (rw (available_first initial_date y p k l) at (keeps k one)) (climb net (numbered_on n u) y f p.to.index k to_in one n)))
      (cases_lt p.tokens k)

  back_feasible : HasEndsInRange net → IsFeasibleUnder net u back
  back_feasible ends = record {
    places = λ k one. all_extended_in net (λ p. IsAtMostDate (available_at back p k) (back p.to.index k))
        (λ i d l. back_keeps (get_or net.places i d) (ends i d l).1
        (λ j o. rw (get_or_default net.places i d no_place l) (place_keeps net (numbered_on n u) y f j o i l)) k one)
        (λ t l. back_keeps (implicit_place t) l (λ j o. implicit_keeps net (numbered_on n u) y f t j l o) k one);
    inputs = λ t k one i.
        let same : k + n - n ≡ k = omega arith in
        let date : numbered_on n u t (k + n) ≡ u t k = on_past n u t (k + n) (omega (arith, one)) ∙ ap (u t) same in
        rw date at (f.inputs t (k + n) (omega (arith, one)) i);
  }

pub numbers_move : ReleasesMoveNumbers
numbers_move net ends n u free x y none least later t k l o =
    let m : ℕ = k + n in
    let some : 1 ≤ m = omega (arith, o) in
    let same : k + n - n ≡ k = omega arith in
    let date : on n x t m ≡ x t k = on_past n x t m (omega (arith, o)) ∙ ap (x t) same in
    let low = later.least (z net n u free x none.feasible least.feasible) (z_feasible net n u free x none.feasible least.feasible) t m l some in
    let high : IsAtMostDate (y t m) (later_of (free t m) (x t k)) = rw date at low in
    same_by_at_most (y t m) (later_of (free t m) (x t k)) high
    (later_least (free t m) (x t k) (y t m)
    (none.least y (record { places = later.feasible.places; inputs = λ s j one i. tt }) t m l some)
    (least.least (back net n u y later.feasible) (back_feasible net n u y later.feasible ends) t k l o))
