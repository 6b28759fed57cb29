-- In a system whose places have ranks, gains that solve the linear system have the dates of the least dating.
use Rattle.std.proofs.Common.{◌≡◌, refl, ap, arith, ℕ, pos, zero, suc, ◌+◌, ◌*◌, ◌-◌, ◌≤◌, ◌<◌, sym, ◌∙◌, ⊎_elim, length, get_or}
use Rattle.std.specs.Prelude.{All}
use Rattle.std.proofs.lemmas.Int.{ints}
use Rattle.std.proofs.lemmas.Bool.{cases_lt}
use Rattle.series_ops.specs.dioid.declared.dates.Date.{Date}
use Rattle.series_ops.specs.dioid.declared.dates.Date.TheVariants.{Early, At, Never}
use Rattle.series_ops.specs.dioid.Dates.{IsAtMostDate, later_of, delayed, date_product, date_left}
use Rattle.series_ops.specs.dioid.Proved.DateLaws.{times_early}
use Rattle.series_ops.proofs.dioid_proofs.DateOrder.{delayed_rises}
use Rattle.dioid_matrix.specs.Sums.{dot}
use Rattle.series_ops.specs.dioid.DateOrder.{Le}
use Rattle.series_ops.proofs.dioid_proofs.AtMost.{le_refl, le_is, le_trans, le_antisym, early_le, le_later_left, le_later_right, later_le, product_le}
use Rattle.series_ops.specs.series_laws.Periodic.{Rising}
use Rattle.series_ops.specs.series_laws.Pointwise.{sum_at}
use Rattle.series_ops.specs.series_laws.SeriesForms.{value_at, IsCanonical}
use Rattle.series_ops.specs.series_laws.Product.{product_at}
use Rattle.series_ops.proofs.series_laws_proofs.ProductsRepeat.{le_product, product_at_le}
use Rattle.series_ops.proofs.series_laws_proofs.StarParts.{to_left, from_left}
use Rattle.series_ops.proofs.series_laws_proofs.Items.{times_commutes}
use Rattle.series_ops.specs.declared.gains.Gain.{Gain}
use Rattle.series_ops.specs.Gains.{gain_sum, gain_product}
use Rattle.settled_laws.specs.teg_net.declared.entries.Place.{Place}
use Rattle.settled_laws.specs.teg_net.Circuits.{no_place}
use Rattle.settled_laws.specs.teg_model.Systems.{System, available, IsFeasibleIn}
use Rattle.settled_laws.specs.teg_model.LiveRanks.{AreRanks}
use Rattle.settled_laws.specs.teg_model.Datings.{implicit_place}
use Rattle.settled_laws.proofs.teg_model_proofs.LeastOver.{falls}
use Rattle.settled_laws.proofs.teg_model_proofs.Tokens.{available_after, available_first, implicit_after}
use Rattle.settled_laws.proofs.teg_model_proofs.DateFunctions.{Dating}
use Rattle.periodic_laws.specs.Equations.{gains, stair, entry_at, start_at}
use Rattle.periodic_laws.proofs.Values.{Holds, holds_own, sum_holds, product_holds, total_at, total_holds, le_total, total_le, stair_before, stair_from}
use Rattle.periodic_laws.specs.GainColumns.{entry_of_places, right_side}
use Rattle.periodic_laws.proofs.Entries.{delay_at, entry_holds, le_entry, entry_le, right_side_holds, le_start, start_le}

-- the places lead between the first `count` transitions, each of these has its implicit place, and no other is released
pub record IsSystemOf (count : ℕ) (s : System) : Type 0 where
  pub ends : All (λ p. (p.from.index < count) × (p.to.index < count)) s.places
  pub own : (t : ℕ) → t < count → (i : ℕ) × (i < length s.places) × (get_or s.places i no_place ≡ implicit_place t)
  pub outside : (t k : ℕ) → count ≤ t → s.release t k ≡ Early

-- feasible, and at most every feasible dating at these transitions
pub record IsLeastOn (count : ℕ) (s : System) (x : Dating) : Type 0 where
  pub feasible : IsFeasibleIn s x
  pub least : (y : Dating) → IsFeasibleIn s y → (t k : ℕ) → t < count → 1 ≤ k → IsAtMostDate (x t k) (y t k)

hold_first : (h : ℕ) (d : Date) → date_product (At (pos h)) d ≡ delayed h d
hold_first h Early = refl
hold_first h (At t) = ap At (omega (arith, ints))
hold_first h Never = refl

hold_last : (h : ℕ) (d : Date) → date_product d (At (pos h)) ≡ delayed h d
hold_last h Early = refl
hold_last h (At t) = refl
hold_last h Never = refl

delayed_le : (h : ℕ) (a b : Date) → Le a b → Le (delayed h a) (delayed h b)
delayed_le h a b l = record { holds = delayed_rises h a b l.holds }

-- a dating that is feasible never falls
dates_climb : (count : ℕ) (s : System) (x : Dating) → IsSystemOf count s → IsFeasibleIn s x → (t : ℕ) → t < count → (k m : ℕ) → 1 ≤ k → Le (x t k) (x t (k + m))
dates_climb count s x of feasible t l k zero o = le_is (ap (x t) (omega arith))
dates_climb count s x of feasible t l k (suc m) o =
    let own = of.own t l in
    let j : ℕ = (k + m) - 1 in
    let two : suc (suc j) ≡ k + suc m = omega arith in
    let one : suc j ≡ k + m = omega arith in
    let kept : IsAtMostDate (available s x (implicit_place t) (suc (suc j))) (x t (suc (suc j))) = rw own.2 at (feasible.places (suc (suc j)) (omega arith) own.0 no_place own.1) in
    let last : Le (x t (suc j)) (x t (suc (suc j))) = le_trans (le_is (sym (implicit_after s.initial x t j))) (record { holds = kept }) in
    le_trans (dates_climb count s x of feasible t l k m o) (le_trans (le_is (ap (x t) (sym one))) (le_trans last (le_is (ap (x t) two))))

module _ (count : ℕ) (s : System) (r : ℕ → Gain) (of : IsSystemOf count s) (released : (t : ℕ) → Holds (r t) (λ k. s.release t (k + 1))) where
  -- the right side for i, at each shift
  abbrev right_at : ℕ → ℕ → Date
  right_at i k = later_of (start_at s.initial s.places i k) (s.release i (k + 1))

  pub right_holds : (i : ℕ) → Holds (right_side s.initial s.places r i) (sum_at (start_at s.initial s.places i) (λ k. s.release i (k + 1)))
  right_holds i = right_side_holds s.initial s.places r i (λ k. s.release i (k + 1)) (released i)

  module _ (c : ℕ → Gain) (is : (i : ℕ) → IsCanonical (c i).series)
      (equal : (i : ℕ) → i < count → gain_sum (dot gains count (entry_of_places s.places i) c) (right_side s.initial s.places r i) ≡ c i) where
    abbrev value : ℕ → ℕ → Date
    value i k = value_at (c i).series k

    value_rises : (i : ℕ) → Rising (value_at (c i).series)
    value_rises i = (is i).form.rising

    abbrev sides : ℕ → ℕ → ℕ → Date
    sides i j = product_at (entry_at s.places i j) (value_at (c j).series)

    dot_holds : (i : ℕ) → Holds (dot gains count (entry_of_places s.places i) c) (total_at (sides i) count)
    dot_holds i = total_holds (λ j. gain_product (entry_of_places s.places i j) (c j)) (sides i) count
        (λ j. product_holds (entry_of_places s.places i j) (c j) (entry_at s.places i j) (value_at (c j).series) (entry_holds s.places i j) (holds_own (c j) (is j)))

    -- the equation at each shift
    value_is : (i k : ℕ) → i < count → later_of (total_at (sides i) count k) (right_at i k) ≡ value i k
    value_is i k l =
        let both = sum_holds (dot gains count (entry_of_places s.places i) c) (right_side s.initial s.places r i)
        (total_at (sides i) count) (sum_at (start_at s.initial s.places i) (λ k. s.release i (k + 1))) (dot_holds i) (right_holds i) in
        sym (both.values k) ∙ ap (λ (g : Gain). value_at g.series k) (equal i l)

    -- the dating of the gains
    abbrev dating : Dating
    dating t k = value t (k - 1)

    le_side : (i j k m e : ℕ) → i < count → j < count → m + e ≡ k → Le (date_product (entry_at s.places i j m) (value j e)) (value i k)
    le_side i j k m e li lj q =
        le_trans (le_product (entry_at s.places i j) (value_at (c j).series) m e k q) (le_trans (le_total (sides i) count j k lj)
        (le_trans (le_later_left (total_at (sides i) count k) (right_at i k)) (le_is (value_is i k li))))

    le_right : (i k : ℕ) → i < count → Le (right_at i k) (value i k)
    le_right i k l = le_trans (le_later_right (total_at (sides i) count k) (right_at i k)) (le_is (value_is i k l))

    -- no value comes before the tokens of a place
    place_kept : (q : ℕ) (d : Place) → q < length s.places → (e k : ℕ) → (get_or s.places q d).tokens + e ≡ k
        → Le (delayed (get_or s.places q d).hold (value (get_or s.places q d).from.index e)) (value (get_or s.places q d).to.index k)
    place_kept q d l e k h =
        let p : Place = get_or s.places q d in
        let ends = of.ends q d l in
        let here : delay_at p p.tokens ≡ At (pos p.hold) = stair_from p.tokens (At (pos p.hold)) p.tokens (omega arith) in
        let low : Le (At (pos p.hold)) (entry_at s.places p.to.index p.from.index p.tokens) = le_trans (le_is (sym here)) (le_entry s.places p.to.index p.from.index p.tokens q d l refl refl) in
        le_trans (le_is (sym (hold_first p.hold (value p.from.index e)))) (le_trans (product_le low (le_refl (value p.from.index e))) (le_side p.to.index p.from.index k p.tokens e ends.1 ends.0 h))

    first_kept : (q : ℕ) (d : Place) → q < length s.places → (k : ℕ) → k < (get_or s.places q d).tokens → Le (s.initial (get_or s.places q d) (k + 1)) (value (get_or s.places q d).to.index k)
    first_kept q d l k h =
        let p : Place = get_or s.places q d in
        let ends = of.ends q d l in
        le_trans (le_is (sym (stair_from k (s.initial p (k + 1)) k (omega arith)))) (le_trans (le_start s.initial s.places p.to.index k q d l refl k h)
        (le_trans (le_later_left (start_at s.initial s.places p.to.index k) (s.release p.to.index (k + 1))) (le_right p.to.index k ends.1)))

    pub dating_is_feasible : IsFeasibleIn s dating
    dating_is_feasible = record {
      places = λ k o q d l. (⊎_elim
          (λ (m : (get_or s.places q d).tokens < k).
          le_trans (le_is (available_after s.initial dating (get_or s.places q d) k (dating (get_or s.places q d).from.index (k - (get_or s.places q d).tokens)) m refl))
          (place_kept q d l ((k - (get_or s.places q d).tokens) - 1) (k - 1) (omega arith)))
          (λ (m : k ≤ (get_or s.places q d).tokens).
          let e : (k - 1) + 1 ≡ k = omega arith in
          le_trans (le_is (available_first s.initial dating (get_or s.places q d) k m ∙ ap (s.initial (get_or s.places q d)) (sym e))) (first_kept q d l (k - 1) (omega arith)))
          (cases_lt (get_or s.places q d).tokens k)).holds;
      releases = λ t k o. (⊎_elim
          (λ (l : t < count).
          let e : (k - 1) + 1 ≡ k = omega arith in
          le_trans (le_is (ap (s.release t) (sym e))) (le_trans (le_later_right (start_at s.initial s.places t (k - 1)) (s.release t ((k - 1) + 1))) (le_right t (k - 1) l)))
          (λ (l : count ≤ t). le_trans (le_is (of.outside t k l)) (early_le (dating t k)))
          (cases_lt t count)).holds;
    }

    module _ (x : Dating) (feasible : IsFeasibleIn s x) (bound : ℕ) (rank : ℕ → ℕ) (ranks : AreRanks s.places bound rank) where
      abbrev size : ℕ → ℕ → ℕ
      size t k = k * bound + rank t

      -- what a place asks of firing k, by the token of an earlier firing
      place_below : (t j k m e : ℕ) → 1 ≤ k → m + e ≡ k - 1
          → ((u i : ℕ) → size u i < size t k → u < count → 1 ≤ i → Le (dating u i) (x u i))
          → (q : ℕ) (d : Place) → q < length s.places → (get_or s.places q d).to.index ≡ t → (get_or s.places q d).from.index ≡ j
          → Le (date_product (value j e) (delay_at (get_or s.places q d) m)) (x t k)
      place_below t j k m e o split before q d l to from = ⊎_elim
          (λ (w : m < (get_or s.places q d).tokens).
          le_trans (le_is (ap (date_product (value j e)) (stair_before (get_or s.places q d).tokens (At (pos (get_or s.places q d).hold)) m w) ∙ times_early (value j e))) (early_le (x t k)))
          (λ (w : (get_or s.places q d).tokens ≤ m).
          let p : Place = get_or s.places q d in
          let fewer : p.tokens < k = omega arith in
          let ends = of.ends q d l in
          let in' : j < count = (let f : p.from.index < count = ends.0 in omega arith) in
          let rise : p.tokens ≡ 0 → rank j < rank t =
          λ z. (let f : rank p.from.index < rank p.to.index = ranks.rise q d l z in let a : rank p.from.index ≡ rank j =
          ap rank from in let b : rank p.to.index ≡ rank t = ap rank to in omega arith) in
          let down : size j (k - p.tokens) < size t k = falls bound k p.tokens (rank j) (rank t) fewer (ranks.below j) rise in
          let earlier : Le (dating j (k - p.tokens)) (x j (k - p.tokens)) = before j (k - p.tokens) down in' (omega arith) in
          let later : Le (value j e) (dating j (k - p.tokens)) = (value_rises j).rises e ((k - p.tokens) - 1) (omega arith) in
          let taken : available s x p k ≡ delayed p.hold (x j (k - p.tokens)) = available_after s.initial x p k (x j (k - p.tokens)) fewer (ap (λ (z : ℕ). x z (k - p.tokens)) from) in
          let asked : Le (available s x p k) (x p.to.index k) = record { holds = feasible.places k o q d l } in
          le_trans (le_is (ap (date_product (value j e)) (stair_from p.tokens (At (pos p.hold)) m w) ∙ hold_last p.hold (value j e)))
          (le_trans (delayed_le p.hold (value j e) (x j (k - p.tokens)) (le_trans later earlier))
          (le_trans (le_is (sym taken)) (le_trans asked (le_is (ap (λ (z : ℕ). x z k) to))))))
          (cases_lt m (get_or s.places q d).tokens)

      first_below : (t k c : ℕ) → t < count → 1 ≤ k → (q : ℕ) (d : Place) → q < length s.places → (get_or s.places q d).to.index ≡ t
          → c < (get_or s.places q d).tokens → Le (stair c (s.initial (get_or s.places q d) (c + 1)) (k - 1)) (x t k)
      first_below t k c lt o q d l to h = ⊎_elim
          (λ (w : k - 1 < c). le_trans (le_is (stair_before c (s.initial (get_or s.places q d) (c + 1)) (k - 1) w)) (early_le (x t k)))
          (λ (w : c ≤ k - 1).
          let p : Place = get_or s.places q d in
          let given : available s x p (c + 1) ≡ s.initial p (c + 1) = available_first s.initial x p (c + 1) (omega arith) in
          let asked : Le (available s x p (c + 1)) (x p.to.index (c + 1)) = record { holds = feasible.places (c + 1) (omega arith) q d l } in
          let e : (c + 1) + (k - (c + 1)) ≡ k = omega arith in
          le_trans (le_is (stair_from c (s.initial p (c + 1)) (k - 1) w ∙ sym given)) (le_trans asked (le_trans (le_is (ap (λ (z : ℕ). x z (c + 1)) to))
          (le_trans (dates_climb count s x of feasible t lt (c + 1) (k - (c + 1)) (omega arith)) (le_is (ap (x t) e))))))
          (cases_lt (k - 1) c)

      -- no value comes later than the date of a feasible dating
      below : (n t k : ℕ) → size t k < n → t < count → 1 ≤ k → Le (dating t k) (x t k)
      below zero t k h l o = absurd (omega arith)
      below (suc n) t k h l o =
          let before : (u i : ℕ) → size u i < size t k → u < count → 1 ≤ i → Le (dating u i) (x u i) = λ u i w lu oi. below n u i (omega arith) lu oi in
          let e : (k - 1) + 1 ≡ k = omega arith in
          le_trans (le_is (sym (value_is t (k - 1) l)))
          (later_le
          (total_le (sides t) count (k - 1) (x t k) (λ j lj. product_at_le (entry_at s.places t j) (value_at (c j).series) (k - 1) (x t k) (λ m i split.
          le_trans (le_is (times_commutes (entry_at s.places t j m) (value j i)))
          (from_left (value j i) (entry_le s.places t j m (date_left (value j i) (x t k)) (λ q d lq to from.
          to_left (value j i) (place_below t j k m i o split before q d lq to from)))))))
          (later_le
          (start_le s.initial s.places t (k - 1) (x t k) (λ q d lq to m hm. first_below t k m l o q d lq to hm))
          (le_trans (le_is (ap (s.release t) e)) (record { holds = feasible.releases t k o }))))

    -- the values are the least dates
    pub values_are_dates : (x : Dating) (bound : ℕ) (rank : ℕ → ℕ) → AreRanks s.places bound rank → IsLeastOn count s x → (t k : ℕ) → t < count → value_at (c t).series k ≡ x t (k + 1)
    values_are_dates x bound rank ranks h t k l =
        let e : (k + 1) - 1 ≡ k = omega arith in
        ap (value_at (c t).series) (sym e)
        ∙ le_antisym (below x h.feasible bound rank ranks (suc (size x h.feasible bound rank ranks t (k + 1))) t (k + 1) (omega arith) l (omega arith))
        (record { holds = h.least dating dating_is_feasible t (k + 1) l (omega arith) })
