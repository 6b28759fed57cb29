-- In a live net there is one dating by holds that vary: it is made by rounds that settle.
use Rattle.std.proofs.Common.{ℕ, zero, suc, ◌+◌, ◌-◌, ◌*◌, ◌<◌, ◌≤◌, ◌≡◌, true, false, cond, eqb, length, refl, sym, ap, ◌∙◌, arith, ⊎_elim}
use Rattle.std.proofs.lemmas.Bool.{cases_lt, cases_Bool}
use Rattle.std.proofs.lemmas.Bool.Decides.{nat_tests}
use Rattle.teg_model.specs.dioid.declared.dates.Date.{Date}
use Rattle.teg_model.specs.dioid.declared.dates.Date.TheVariants.{Early}
use Rattle.teg_model.specs.dioid.Dates.{IsAtMostDate, later_of, delayed}
use Rattle.teg_model.proofs.dioid_proofs.DateOrder.{at_most_refl, at_most_trans, same_by_at_most, later_left, later_right, later_least, delayed_rises}
use Rattle.teg_model.specs.teg_net.Nets.{NetLists}
use Rattle.teg_model.specs.teg_net.Circuits.{no_place}
use Rattle.teg_model.specs.LiveRanks.{AreRanks, HasEndsInRange}
use Rattle.teg_model.specs.Datings.{implicit_place, available_at, initial_date, at_input}
use Rattle.teg_model.proofs.DateFunctions.{Dating}
use Rattle.teg_model.proofs.LeastOver.{falls}
use Rattle.teg_model.proofs.LiveRanks.{live_is_ranked}
use Rattle.teg_model.proofs.OfNet.{release_below, at_input_is}
use Rattle.teg_model.proofs.TightLeast.{available_below}
use Rattle.teg_model.proofs.Tokens.{available_same}
use Rattle.planning_laws.specs.VaryingHolds.{place_of, held_at, IsDatingWithHolds, DatingsWithHoldsExist, DatingsWithHoldsAreOne}
use Rattle.planning_laws.proofs.VaryingHolds.{held_after, held_first}

module _ (net : NetLists) (holds : ℕ → ℕ → ℕ) where
  -- the latest of d and of the tokens that the first m places have for firing k of t
  latest_to : ℕ → Dating → ℕ → ℕ → Date → Date
  latest_to zero x t k d = d
  latest_to (suc m) x t k d = cond (eqb (place_of net m).to.index t) (later_of (held_at net holds x m k) (latest_to m x t k d)) (latest_to m x t k d)

  latest_above : (m : ℕ) (x : Dating) (t k : ℕ) (d : Date) → IsAtMostDate d (latest_to m x t k d)
  unfolding latest_to
  latest_above zero x t k d = at_most_refl d
  latest_above (suc m) x t k d =
      let more : IsAtMostDate d (latest_to m x t k d) = latest_above m x t k d in
      ⊎_elim
      (λ (e : eqb (place_of net m).to.index t ≡ true). rw e
      (at_most_trans d (latest_to m x t k d) (later_of (held_at net holds x m k) (latest_to m x t k d)) more (later_right (held_at net holds x m k) (latest_to m x t k d))))
      (λ (e : eqb (place_of net m).to.index t ≡ false). rw e more)
      (cases_Bool (eqb (place_of net m).to.index t))

  latest_upper : (m : ℕ) (x : Dating) (t k : ℕ) (d : Date) (i : ℕ) → i < m → (place_of net i).to.index ≡ t → IsAtMostDate (held_at net holds x i k) (latest_to m x t k d)
  unfolding latest_to
  latest_upper zero x t k d i l q = absurd (omega arith)
  latest_upper (suc m) x t k d i l q =
      let own : Date = held_at net holds x m k in
      let rest : Date = latest_to m x t k d in
      ⊎_elim
      (λ (less : i < m).
      let more : IsAtMostDate (held_at net holds x i k) rest = latest_upper m x t k d i less q in
      ⊎_elim
      (λ (e : eqb (place_of net m).to.index t ≡ true). rw e (at_most_trans (held_at net holds x i k) rest (later_of own rest) more (later_right own rest)))
      (λ (e : eqb (place_of net m).to.index t ≡ false). rw e more)
      (cases_Bool (eqb (place_of net m).to.index t)))
      (λ (most : m ≤ i).
      let same : i ≡ m = omega (arith, l, most) in
      let into : (place_of net m).to.index ≡ t = ap (λ j. (place_of net j).to.index) (sym same) ∙ q in
      let is : eqb (place_of net m).to.index t ≡ true = grind (arith, nat_tests) in
      rw (is, same) (later_left own rest))
      (cases_lt i m)

  latest_least : (m : ℕ) (x : Dating) (t k : ℕ) (d z : Date) → ((i : ℕ) → i < m → (place_of net i).to.index ≡ t → IsAtMostDate (held_at net holds x i k) z) → IsAtMostDate d z
      → IsAtMostDate (latest_to m x t k d) z
  unfolding latest_to
  latest_least zero x t k d z h l = l
  latest_least (suc m) x t k d z h l =
      let rest = latest_least m x t k d z (λ i less. h i (omega arith)) l in
      ⊎_elim
      (λ (e : eqb (place_of net m).to.index t ≡ true).
      let is : (place_of net m).to.index ≡ t = grind (arith, nat_tests) in
      rw e (later_least (held_at net holds x m k) (latest_to m x t k d) z (h m (omega arith) is) rest))
      (λ (e : eqb (place_of net m).to.index t ≡ false). rw e rest)
      (cases_Bool (eqb (place_of net m).to.index t))

  latest_same : (m : ℕ) (x y : Dating) (t k : ℕ) (c d : Date) → ((i : ℕ) → i < m → (place_of net i).to.index ≡ t → held_at net holds x i k ≡ held_at net holds y i k) → c ≡ d
      → latest_to m x t k c ≡ latest_to m y t k d
  unfolding latest_to
  latest_same zero x y t k c d h e = e
  latest_same (suc m) x y t k c d h e =
      let rest = latest_same m x y t k c d (λ i less. h i (omega arith)) e in
      ⊎_elim
      (λ (b : eqb (place_of net m).to.index t ≡ true).
      let is : (place_of net m).to.index ≡ t = grind (arith, nat_tests) in
      let here : held_at net holds x m k ≡ held_at net holds y m k = h m (omega arith) is in
      rw (b, here, rest))
      (λ (b : eqb (place_of net m).to.index t ≡ false). rw (b, rest))
      (cases_Bool (eqb (place_of net m).to.index t))

  held_same : (x y : Dating) (i k : ℕ) → ((place_of net i).tokens < k → x (place_of net i).from.index (k - (place_of net i).tokens) ≡ y (place_of net i).from.index (k - (place_of net i).tokens))
      → held_at net holds x i k ≡ held_at net holds y i k
  held_same x y i k h = ⊎_elim
      (λ (l : (place_of net i).tokens < k). held_after net holds x i k l ∙ ap (delayed (holds i k)) (h l) ∙ sym (held_after net holds y i k l))
      (λ (l : k ≤ (place_of net i).tokens). held_first net holds x i k l ∙ sym (held_first net holds y i k l))
      (cases_lt (place_of net i).tokens k)

  held_below : (x y : Dating) (i k : ℕ)
      → ((place_of net i).tokens < k → IsAtMostDate (x (place_of net i).from.index (k - (place_of net i).tokens)) (y (place_of net i).from.index (k - (place_of net i).tokens)))
      → IsAtMostDate (held_at net holds x i k) (held_at net holds y i k)
  held_below x y i k h = ⊎_elim
      (λ (l : (place_of net i).tokens < k).
      rw (held_after net holds x i k l, held_after net holds y i k l)
      (delayed_rises (holds i k) (x (place_of net i).from.index (k - (place_of net i).tokens)) (y (place_of net i).from.index (k - (place_of net i).tokens)) (h l)))
      (λ (l : k ≤ (place_of net i).tokens). rw (held_first net holds x i k l, held_first net holds y i k l) (at_most_refl (initial_date (place_of net i) k)))
      (cases_lt (place_of net i).tokens k)

  module _ (u : Dating) (bound : ℕ) (r : ℕ → ℕ) (rr : AreRanks net.places bound r) where
    size : ℕ → ℕ → ℕ
    size t k = k * bound + r t

    -- what a firing waits for besides its places
    own : Dating → ℕ → ℕ → Date
    own x t k = later_of (available_at x (implicit_place t) k) (at_input net t (u t k) Early)

    round : ℕ → Dating
    round zero t k = Early
    round (suc n) t k = latest_to (length net.places) (round n) t k (own (round n) t k)

    -- datings that agree at smaller firings wait for the same
    same_held : (x y : Dating) (t k : ℕ) → ((s j : ℕ) → size s j < size t k → x s j ≡ y s j) → (i : ℕ) → i < length net.places → (place_of net i).to.index ≡ t
        → held_at net holds x i k ≡ held_at net holds y i k
    unfolding size
    same_held x y t k h i m q = held_same x y i k (λ l.
        let down = falls bound k (place_of net i).tokens (r (place_of net i).from.index) (r (place_of net i).to.index) l (rr.below (place_of net i).from.index) (rr.rise i no_place m) in
        let here : r (place_of net i).to.index ≡ r t = ap r q in
        h (place_of net i).from.index (k - (place_of net i).tokens) (omega (arith, down, here)))

    same_own : (x y : Dating) (t k : ℕ) → ((s j : ℕ) → size s j < size t k → x s j ≡ y s j) → own x t k ≡ own y t k
    unfolding size own
    same_own x y t k h =
        let before : available_at x (implicit_place t) k ≡ available_at y (implicit_place t) k =
        available_same initial_date x y (implicit_place t) k (λ l. h t (k - 1) (falls bound k 1 (r t) (r t) l (rr.below t) (λ e. absurd (omega arith)))) in
        rw before refl

    stable : (n t k : ℕ) → size t k < n → round n t k ≡ round (suc n) t k
    unfolding round
    stable zero t k l = absurd (omega arith)
    stable (suc n) t k l =
        let less : (s j : ℕ) → size s j < size t k → round n s j ≡ round (suc n) s j = λ s j m. stable n s j (omega arith) in
        latest_same (length net.places) (round n) (round (suc n)) t k (own (round n) t k) (own (round (suc n)) t k)
        (same_held (round n) (round (suc n)) t k less) (same_own (round n) (round (suc n)) t k less)

    stable_on : (n m t k : ℕ) → size t k < n → round n t k ≡ round (m + n) t k
    stable_on n zero t k l = let e : 0 + n ≡ n = omega arith in rw e refl
    stable_on n (suc m) t k l = let e : suc m + n ≡ suc (m + n) = omega arith in rw e (stable_on n m t k l ∙ stable (m + n) t k (omega arith))

    -- the dating
    pub held : Dating
    held t k = round (suc (size t k)) t k

    at_rest : (n t k : ℕ) → size t k < n → round n t k ≡ held t k
    unfolding held
    at_rest n t k l =
        let e : (n - suc (size t k)) + suc (size t k) ≡ n = omega arith in
        let on = stable_on (suc (size t k)) (n - suc (size t k)) t k (omega arith) in
        sym (rw e at on)

    fixed : (t k : ℕ) → held t k ≡ latest_to (length net.places) held t k (own held t k)
    unfolding held round
    fixed t k =
        let less : (s j : ℕ) → size s j < size t k → round (size t k) s j ≡ held s j = λ s j m. at_rest (size t k) s j m in
        latest_same (length net.places) (round (size t k)) held t k (own (round (size t k)) t k) (own held t k) (same_held (round (size t k)) held t k less) (same_own (round (size t k)) held t k less)

    own_below : (t k : ℕ) → IsAtMostDate (own held t k) (held t k)
    own_below t k = rw (fixed t k) (latest_above (length net.places) held t k (own held t k))

    pub is_dating : IsDatingWithHolds net holds u held
    unfolding own
    is_dating = record {
      places = λ i k l one. rw (fixed (place_of net i).to.index k) (latest_upper (length net.places) held (place_of net i).to.index k (own held (place_of net i).to.index k) i l refl);
      in_turn = λ t k l one. at_most_trans (available_at held (implicit_place t) k) (own held t k) (held t k)
          (later_left (available_at held (implicit_place t) k) (at_input net t (u t k) Early)) (own_below t k);
      inputs = λ t k one i.
          let low : IsAtMostDate (at_input net t (u t k) Early) (held t k) =
          at_most_trans (at_input net t (u t k) Early) (own held t k) (held t k) (later_right (available_at held (implicit_place t) k) (at_input net t (u t k) Early)) (own_below t k) in
          rw (at_input_is net t (u t k) Early i) at low;
      no_later = λ t k z l one all before under. rw (fixed t k) (latest_least (length net.places) held t k (own held t k) z all
          (later_least (available_at held (implicit_place t) k) (at_input net t (u t k) Early) z before (release_below net t (u t k) z under)));
    }

    -- no such dating is later than another
    no_later_than : (ends : HasEndsInRange net) (x y : Dating) → IsDatingWithHolds net holds u x → IsDatingWithHolds net holds u y
        → (n t k : ℕ) → t < length net.transitions → 1 ≤ k → k * bound + r t < n → IsAtMostDate (x t k) (y t k)
    no_later_than ends x y f g zero t k l o m = absurd (omega arith)
    no_later_than ends x y f g (suc n) t k l o m =
        f.no_later t k (y t k) l o
        (λ i b q.
        let upper = g.places i k b o in
        at_most_trans (held_at net holds x i k) (held_at net holds y i k) (y t k)
        (held_below x y i k (λ more.
        let down = falls bound k (place_of net i).tokens (r (place_of net i).from.index) (r (place_of net i).to.index) more (rr.below (place_of net i).from.index) (rr.rise i no_place b) in
        let here : r (place_of net i).to.index ≡ r t = ap r q in
        no_later_than ends x y f g n (place_of net i).from.index (k - (place_of net i).tokens) (ends i no_place b).0 (omega (arith, more)) (omega (arith, down, here, m))))
        (rw q at upper))
        (at_most_trans (available_at x (implicit_place t) k) (available_at y (implicit_place t) k) (y t k)
        (available_below initial_date x y (implicit_place t) k (λ more.
        let down = falls bound k 1 (r t) (r t) more (rr.below t) (λ e. absurd (omega arith)) in
        no_later_than ends x y f g n t (k - 1) l (omega (arith, more)) (omega (arith, down, m))))
        (g.in_turn t k l o))
        (λ i. g.inputs t k o i)

pub held_exist : DatingsWithHoldsExist
held_exist net ends live holds u =
    let ranked = live_is_ranked net ends live in
    (held net holds u ranked.0 ranked.1 ranked.2, is_dating net holds u ranked.0 ranked.1 ranked.2)

pub held_are_one : DatingsWithHoldsAreOne
held_are_one net ends live holds u x y f g t k l o =
    let ranked = live_is_ranked net ends live in
    let n : ℕ = suc (k * ranked.0 + ranked.1 t) in
    same_by_at_most (x t k) (y t k)
    (no_later_than net holds u ranked.0 ranked.1 ranked.2 ends x y f g n t k l o (omega arith))
    (no_later_than net holds u ranked.0 ranked.1 ranked.2 ends y x g f n t k l o (omega arith))
