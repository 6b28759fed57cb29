-- The entries of the star of a net's matrix are the greatest times of walks: the column of the star at one transition is the
-- least solution with an impulse there, and so are the least dates with a release there alone.
use Rattle.std.proofs.Common.{ℕ, pos, ◌+◌, ◌-◌, ◌<◌, ◌≤◌, ◌≡◌, ◌≢◌, true, false, eqb, cond, length, get_or, refl, sym, ap, subst, ◌∙◌, arith, ⊎_elim}
use Rattle.std.proofs.lemmas.Bool.{cases_lt, cases_eq}
use Rattle.std.proofs.lemmas.Bool.Decides.{nat_tests}
use Rattle.std.proofs.lemmas.List.{get_or_default}
use Rattle.series_ops.specs.dioid.declared.dates.Date.{Date}
use Rattle.series_ops.specs.dioid.declared.dates.Date.TheVariants.{Early, At}
use Rattle.series_ops.specs.dioid.Dates.{IsAtMostDate, delayed, date_product, date_left}
use Rattle.series_ops.specs.dioid.DateOrder.{Le}
use Rattle.series_ops.proofs.dioid_proofs.AtMost.{le_refl, le_is, le_trans, le_antisym, early_le, le_later_left, le_later_right, later_le, product_le}
use Rattle.series_ops.proofs.dioid_proofs.DateOrder.{at_most_refl, delayed_is_product}
use Rattle.series_ops.proofs.dioid_proofs.Moves.{move_zero}
use Rattle.series_ops.specs.series_laws.Periodic.{Rising, Repeats}
use Rattle.series_ops.specs.series_laws.SeriesForms.{value_at, canonical_of}
use Rattle.series_ops.proofs.series_laws_proofs.Canonical.{constant_is, canonical_is, canonical_values}
use Rattle.series_ops.proofs.series_laws_proofs.Repeating.{rising_by_one}
use Rattle.series_ops.proofs.series_laws_proofs.StarParts.{to_left, from_left}
use Rattle.series_ops.proofs.series_laws_proofs.Items.{times_commutes}
use Rattle.series_ops.specs.declared.gains.Gain.{Gain}
use Rattle.series_ops.specs.Gains.{IsCanonicalGain, gain_of, gain_zero, gain_one, gain_sum, gain_product}
use Rattle.series_ops.specs.Proved.GainLaws.{gains_closed, gain_laws}
use Rattle.dioid_matrix.specs.Sums.{dot}
use Rattle.dioid_matrix.specs.MatrixStars.{star_of, IsLeastSolution, StarsAreLeast}
use Rattle.dioid_laws.proofs.Totals.{total_one}
use Rattle.teg_net.specs.declared.entries.Place.{Place}
use Rattle.teg_net.specs.Nets.{NetLists}
use Rattle.teg_net.specs.Circuits.{no_place}
use Rattle.teg_settle.specs.teg_model.Systems.{available_in, IsFeasibleIn, IsLeastIn}
use Rattle.teg_settle.specs.teg_model.LiveRanks.{HasEndsInRange}
use Rattle.teg_settle.specs.teg_model.Datings.{implicit_place}
use Rattle.teg_settle.proofs.teg_model_proofs.DateFunctions.{Dating}
use Rattle.teg_settle.proofs.teg_model_proofs.LiveRanks.{live_is_ranked}
use Rattle.teg_settle.proofs.teg_model_proofs.OfNet.{all_extended_in, extended_has}
use Rattle.teg_settle.proofs.teg_model_proofs.SystemWalks.{least_in_is_walk}
use Rattle.teg_settle.proofs.teg_model_proofs.Tokens.{available_after, available_first, implicit_gives}
use Rattle.teg_settle.specs.periodic_laws.Equations.{gains, gain_stars, entry_at}
use Rattle.teg_settle.specs.periodic_laws.PeriodicDates.{IsPeriodic, ArePeriodic}
use Rattle.teg_settle.specs.periodic_laws.LinearSystem.{LeastInArePeriodic, SystemsSettle}
use Rattle.teg_settle.specs.walk_times.Alone.{alone, no_tokens, released_alone}
use Rattle.teg_settle.specs.walk_times.Transfers.{IsGreatestWalkTime}
use Rattle.teg_settle.proofs.walk_times_proofs.Walking.{input_within, times_from}
use Rattle.io_laws.specs.InputOutput.{DatesAreOutputs}
use Rattle.net_matrices.specs.NetEntries.{AreEntriesOfNet}
use Rattle.net_matrices.specs.TransferStars.{star_date, TransfersAreStars, DatesAreOutputsOfStars}
use Rattle.net_matrices.proofs.Entries.{le_entry, entry_le}
use Rattle.net_matrices.proofs.GainValues.{sum_value, at_most_of_values, values_at_most, dot_is, le_dot, dot_le}

-- a release at one transition repeats
released_periodic : (i t : ℕ) → IsPeriodic (released_alone i t)
released_periodic i t = record {
  after = 0;
  period = 1;
  step = pos 0;
  at_least_one = omega arith;
  rises = λ k o. at_most_refl (released_alone i t k);
  again = λ k l. sym (move_zero (released_alone i t k));
}

-- ---- dates as gains

-- a gain with these dates, shift k for firing k + 1
record HasGain (dates : ℕ → Date) : Type 0 where
  gain : Gain
  is : IsCanonicalGain gain
  values : (k : ℕ) → value_at gain.series k ≡ dates (k + 1)

gain_of_dates : (dates : ℕ → Date) → IsPeriodic dates → HasGain dates
gain_of_dates dates h =
    let f : ℕ → Date = λ k. dates (k + 1) in
    let rising : Rising f = rising_by_one f (λ k. record { holds = h.rises (k + 1) (omega arith) }) in
    let repeats : Repeats f h.after h.period h.step =
    record { at = λ k w. let e : (k + 1) + h.period ≡ (k + h.period) + 1 = omega arith in ap dates (sym e) ∙ h.again (k + 1) (omega (arith, w)) } in
    let turns : 0 < h.period = (let one = h.at_least_one in omega (arith, one)) in
    record {
      gain = gain_of (canonical_of f h.after h.period);
      is = canonical_is f h.after h.period h.step rising turns repeats;
      values = canonical_values f h.after h.period h.step rising turns repeats;
    }

-- ---- the column of the star

-- one at transition i, and zero elsewhere
abbrev impulse : ℕ → ℕ → Gain
impulse i j = cond (eqb j i) gain_one gain_zero

impulse_is : (i j : ℕ) → IsCanonicalGain (impulse i j)
impulse_is i j = elim (eqb j i) as (λ b. IsCanonicalGain (cond b gain_one gain_zero)) [
  | true ↦ gains_closed.one_is
  | false ↦ gains_closed.zero_is
]

impulse_here : (i : ℕ) → impulse i i ≡ gain_one
impulse_here i = let b : eqb i i ≡ true = grind (arith, nat_tests) in rw b refl

impulse_apart : (i j : ℕ) → (j ≡ i → ⊥) → impulse i j ≡ gain_zero
impulse_apart i j ne = let b : eqb j i ≡ false = grind (arith, nat_tests) in rw b refl

one_value : (k : ℕ) → value_at gain_one.series k ≡ At (pos 0)
one_value k = (constant_is (At (pos 0)) refl).1 k

zero_value : (k : ℕ) → value_at gain_zero.series k ≡ Early
zero_value k = (constant_is Early refl).1 k

-- a row by the impulse is the entry there
row_entry : (count : ℕ) (row : ℕ → Gain) (i : ℕ) → i < count → ((j : ℕ) → IsCanonicalGain (row j)) → dot gains count row (impulse i) ≡ row i
row_entry count row i l is =
    total_one gains gains_closed gain_laws (λ j. gain_product (row j) (impulse i j)) count i l
    (λ j. gains_closed.product_is (row j) (impulse i j) (is j) (impulse_is i j))
    (λ j ne. ap (gain_product (row j)) (impulse_apart i j ne) ∙ gain_laws.zero_absorbs_right (row j) (is j))
    ∙ (ap (gain_product (row i)) (impulse_here i) ∙ gain_laws.one_neutral_right (row i) (is i))

module _ (stars : StarsAreLeast gains gain_stars) (net : NetLists) (ends : HasEndsInRange net) (entries : ℕ → ℕ → Gain) (are : AreEntriesOfNet net entries) (i : ℕ) (in' : i < length net.transitions) where
  abbrev count : ℕ
  count = length net.transitions

  abbrev column : ℕ → Gain
  column t = dot gains count (star_of gains gain_stars count entries t) (impulse i)

  solved : ((t j : ℕ) → IsCanonicalGain (star_of gains gain_stars count entries t j)) × IsLeastSolution gains count entries (impulse i) column
  solved = stars count entries (impulse i) are.elements (impulse_is i)

  column_is : (t : ℕ) → IsCanonicalGain (column t)
  column_is t = dot_is (star_of gains gain_stars count entries t) (impulse i) (solved.0 t) (impulse_is i) count

  abbrev value : ℕ → ℕ → Date
  value t k = value_at (column t).series k

  value_rises : (t j k : ℕ) → j ≤ k → Le (value t j) (value t k)
  value_rises t j k w = (column_is t).form.rising.rises j k w

  around_is : (t : ℕ) → IsCanonicalGain (dot gains count (entries t) column)
  around_is t = dot_is (entries t) column (are.elements t) column_is count

  -- both sides of the equation of a row
  sides : (t k : ℕ) → t < count → Le (value_at (gain_sum (dot gains count (entries t) column) (impulse i t)).series k) (value t k)
  sides t k l = le_is (ap (λ (g : Gain). value_at g.series k) (solved.1.equal t l))

  value_after : (t j m e k : ℕ) → t < count → j < count → m + e ≡ k → Le (date_product (value_at (entries t j).series m) (value j e)) (value t k)
  value_after t j m e k lt lj q =
      le_trans (le_dot (entries t) column (are.elements t) column_is count j lj m e k q)
      (le_trans (le_later_left (value_at (dot gains count (entries t) column).series k) (value_at (impulse i t).series k))
      (le_trans (le_is (sym (sum_value (dot gains count (entries t) column) (impulse i t) (around_is t) (impulse_is i t) k))) (sides t k lt)))

  value_begins : (k : ℕ) → Le (At (pos 0)) (value i k)
  value_begins k =
      let here : value_at (impulse i i).series k ≡ At (pos 0) = ap (λ (g : Gain). value_at g.series k) (impulse_here i) ∙ one_value k in
      le_trans (le_is (sym here))
      (le_trans (le_later_right (value_at (dot gains count (entries i) column).series k) (value_at (impulse i i).series k))
      (le_trans (le_is (sym (sum_value (dot gains count (entries i) column) (impulse i i) (around_is i) (impulse_is i i) k))) (sides i k in')))

  -- ---- its values are a feasible dating

  abbrev dating : Dating
  dating t k = value t (k - 1)

  place_kept : (q : ℕ) (d : Place) → q < length net.places → (k : ℕ) → 1 ≤ k
      → Le (available_in no_tokens dating (get_or net.places q d) k) (dating (get_or net.places q d).to.index k)
  place_kept q d l k o =
      let p : Place = get_or net.places q d in
      let both = ends q d l in
      ⊎_elim
      (λ (m : p.tokens < k).
      let e : ℕ = (k - p.tokens) - 1 in
      let split : p.tokens + e ≡ k - 1 = omega (arith, m) in
      let asked : Le (At (pos p.hold)) (value_at (entries p.to.index p.from.index).series p.tokens) =
      le_trans (le_entry net.places p.to.index p.from.index p.tokens q d l refl refl (omega arith)) (le_is (sym (are.values p.to.index p.from.index p.tokens both.1 both.0))) in
      le_trans (le_is (available_after no_tokens dating p k (value p.from.index e) m refl))
      (le_trans (le_is (delayed_is_product p.hold (value p.from.index e) ∙ times_commutes (value p.from.index e) (At (pos p.hold))))
      (le_trans (product_le asked (le_refl (value p.from.index e))) (value_after p.to.index p.from.index p.tokens e (k - 1) both.1 both.0 split))))
      (λ (m : k ≤ p.tokens). le_trans (le_is (available_first no_tokens dating p k m)) (early_le (dating p.to.index k)))
      (cases_lt p.tokens k)

  implicit_kept : (t k : ℕ) → 1 ≤ k → Le (available_in no_tokens dating (implicit_place t) k) (dating t k)
  implicit_kept t k o =
      ⊎_elim
      (λ (m : 1 < k).
      let back : (k - 1) + 1 ≡ k = omega (arith, m) in
      le_trans (le_is (ap (available_in no_tokens dating (implicit_place t)) (sym back) ∙ implicit_gives no_tokens dating t (k - 1) (omega (arith, m))))
      (value_rises t ((k - 1) - 1) (k - 1) (omega arith)))
      (λ (m : k ≤ 1). le_trans (le_is (available_first no_tokens dating (implicit_place t) k m)) (early_le (dating t k)))
      (cases_lt 1 k)

  released : (t k : ℕ) → Le (released_alone i t k) (dating t k)
  released t k =
      ⊎_elim
      (λ (e : i ≡ t).
      let b : eqb i t ≡ true = grind (arith, nat_tests) in
      rw b (subst (λ (z : ℕ). Le (At (pos 0)) (value z (k - 1))) e (value_begins (k - 1))))
      (λ (e : i ≢ t).
      let b : eqb i t ≡ false = grind (arith, nat_tests) in
      rw b (early_le (dating t k)))
      (cases_eq i t)

  dating_is_feasible : IsFeasibleIn (alone net i) dating
  dating_is_feasible = record {
    places = λ k o.
        all_extended_in net (λ p. IsAtMostDate (available_in no_tokens dating p k) (dating p.to.index k))
        (λ q d l. (place_kept q d l k o).holds)
        (λ t l. (implicit_kept t k o).holds);
    releases = λ t k o. (released t k).holds;
  }

  -- ---- the least dates solve it

  module _ (x : Dating) (least : IsLeastIn (alone net i) x) (periodic : ArePeriodic (length net.transitions) x) where
    record HasOwnGain (t : ℕ) : Type 0 where
      gain : Gain
      is : IsCanonicalGain gain
      values : (k : ℕ) → t < length net.transitions → value_at gain.series k ≡ x t (k + 1)

    own : (t : ℕ) → HasOwnGain t
    own t = ⊎_elim
        (λ (l : t < length net.transitions). let g = gain_of_dates (x t) (periodic t l) in record { gain = g.gain; is = g.is; values = λ k m. g.values k })
        (λ (l : length net.transitions ≤ t). record { gain = gain_zero; is = gains_closed.zero_is; values = λ k m. absurd (omega (arith, l, m)) })
        (cases_lt t (length net.transitions))

    abbrev gain : ℕ → Gain
    gain t = (own t).gain

    gain_is : (t : ℕ) → IsCanonicalGain (gain t)
    gain_is t = (own t).is

    -- what a place asks of a firing
    step_below : (t j m e k : ℕ) → t < count → m + e ≡ k → (q : ℕ) (d : Place) → q < length net.places → (get_or net.places q d).to.index ≡ t
        → (get_or net.places q d).from.index ≡ j → (get_or net.places q d).tokens ≤ m → Le (date_product (x j (e + 1)) (At (pos (get_or net.places q d).hold))) (value_at (gain t).series k)
    step_below t j m e k lt split q d l to from few =
        let p : Place = get_or net.places q d in
        let n : ℕ = (e + 1) + p.tokens in
        let same : get_or net.places q no_place ≡ get_or net.places q d = get_or_default net.places q no_place d l in
        let kept : IsAtMostDate (available_in no_tokens x p n) (x p.to.index n) =
        subst (λ (z : Place). IsAtMostDate (available_in no_tokens x z n) (x z.to.index n)) same
        (extended_has net (λ z. IsAtMostDate (available_in no_tokens x z n) (x z.to.index n)) (λ r a. least.feasible.places n (omega arith) r no_place a) q l) in
        let back : n - p.tokens ≡ e + 1 = omega arith in
        let taken : available_in no_tokens x p n ≡ delayed p.hold (x j (e + 1)) =
        available_after no_tokens x p n (x j (e + 1)) (omega arith) (ap (λ (z : ℕ). x z (n - p.tokens)) from ∙ ap (x j) back) in
        let there : x p.to.index n ≡ value_at (gain t).series (e + p.tokens) =
        (let turned : n ≡ (e + p.tokens) + 1 = omega arith in ap (λ (z : ℕ). x z n) to ∙ (ap (x t) turned ∙ sym ((own t).values (e + p.tokens) lt))) in
        le_trans (le_is (sym (delayed_is_product p.hold (x j (e + 1))) ∙ sym taken))
        (le_trans (record { holds = kept }) (le_trans (le_is there) ((gain_is t).form.rising.rises (e + p.tokens) k (omega (arith, split, few)))))

    product_below : (t j m e k : ℕ) → t < count → j < count → m + e ≡ k → Le (date_product (value_at (entries t j).series m) (value_at (gain j).series e)) (value_at (gain t).series k)
    product_below t j m e k lt lj split =
        let left : value_at (entries t j).series m ≡ entry_at net.places t j m = are.values t j m lt lj in
        let right : value_at (gain j).series e ≡ x j (e + 1) = (own j).values e lj in
        le_trans (le_is (ap (λ (z : Date). date_product z (value_at (gain j).series e)) left ∙ ap (date_product (entry_at net.places t j m)) right))
        (le_trans (le_is (times_commutes (entry_at net.places t j m) (x j (e + 1))))
        (from_left (x j (e + 1)) (entry_le net.places t j m (date_left (x j (e + 1)) (value_at (gain t).series k))
        (λ q d l to from few. to_left (x j (e + 1)) (step_below t j m e k lt split q d l to from few)))))

    impulse_below : (t k : ℕ) → t < count → Le (value_at (impulse i t).series k) (value_at (gain t).series k)
    impulse_below t k lt =
        let low : Le (released_alone i t (k + 1)) (x t (k + 1)) = record { holds = least.feasible.releases t (k + 1) (omega arith) } in
        ⊎_elim
        (λ (e : t ≡ i).
        let b : eqb t i ≡ true = grind (arith, nat_tests) in
        let c : eqb i t ≡ true = grind (arith, nat_tests) in
        rw b (le_trans (le_is (one_value k)) (le_trans (rw c at low) (le_is (sym ((own t).values k lt))))))
        (λ (e : t ≢ i).
        let b : eqb t i ≡ false = grind (arith, nat_tests) in
        rw b (le_trans (le_is (zero_value k)) (early_le (value_at (gain t).series k))))
        (cases_eq t i)

    gains_solve : (t : ℕ) → t < count → gain_sum (gain_sum (dot gains count (entries t) gain) (impulse i t)) (gain t) ≡ gain t
    gains_solve t lt =
        let around : IsCanonicalGain (dot gains count (entries t) gain) = dot_is (entries t) gain (are.elements t) gain_is count in
        at_most_of_values (gain_sum (dot gains count (entries t) gain) (impulse i t)) (gain t)
        (gains_closed.sum_is (dot gains count (entries t) gain) (impulse i t) around (impulse_is i t)) (gain_is t)
        (λ k. le_trans (le_is (sum_value (dot gains count (entries t) gain) (impulse i t) around (impulse_is i t) k))
        (later_le (dot_le (entries t) gain (are.elements t) gain_is count k (value_at (gain t).series k) (λ j m e lj q. product_below t j m e k lt lj q))
        (impulse_below t k lt)))

    -- so the column has the least dates
    column_value : (t k : ℕ) → t < count → value t k ≡ x t (k + 1)
    column_value t k lt =
        let e : (k + 1) - 1 ≡ k = omega arith in
        le_antisym
        (le_trans (values_at_most (column t) (gain t) (column_is t) (gain_is t) (solved.1.least gain gain_is gains_solve t lt) k) (le_is ((own t).values k lt)))
        (le_trans (record { holds = least.least dating dating_is_feasible t (k + 1) (omega arith) }) (le_is (ap (value t) e)))

    pub star_value : (t k : ℕ) → t < count → value_at (star_of gains gain_stars count entries t i).series k ≡ x t (k + 1)
    star_value t k lt =
        ap (λ (g : Gain). value_at g.series k) (sym (row_entry count (star_of gains gain_stars count entries t) i in' (solved.0 t))) ∙ column_value t k lt

pub transfers_are_stars : StarsAreLeast gains gain_stars → LeastInArePeriodic → SystemsSettle → TransfersAreStars
transfers_are_stars stars periodic settle net ends live entries are i t k li lt o =
    let ranked = live_is_ranked net ends live in
    let found = settle net ends live no_tokens (released_alone i) (λ s l. released_periodic i s) in
    let x : Dating = found.0 in
    let least : IsLeastIn (alone net i) x = found.1 in
    let own : ArePeriodic (length net.transitions) x = periodic net ends live no_tokens (released_alone i) x (λ s l. released_periodic i s) least in
    let back : (k - 1) + 1 ≡ k = omega (arith, o) in
    let is : star_date net entries i t k ≡ x t k = star_value stars net ends entries are i li x least own t (k - 1) lt ∙ ap (x t) back in
    subst (IsGreatestWalkTime net i t k) (sym is)
    (times_from net i t k (x t k) li (least_in_is_walk net no_tokens (released_alone i) ranked.0 ranked.1 ends ranked.2 x least t k lt o))

pub outputs_of_stars : DatesAreOutputs → TransfersAreStars → DatesAreOutputsOfStars
outputs_of_stars outputs law net ends live entries are x u y free least t k l o =
    outputs net ends live x u y (star_date net entries) free least (λ i input s m in' one. law net ends live entries are i s m (input_within net i input) in' one) t k l o
