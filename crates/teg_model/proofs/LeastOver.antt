-- A system has a least dating where ranks rise along each place without tokens: it is made by rounds that settle.
use Rattle.std.proofs.Common.{ℕ, zero, suc, ◌+◌, ◌-◌, ◌*◌, ◌<◌, ◌≤◌, ◌≡◌, List, [], ◌∷◌, true, false, cond, eqb, ltb, length, get_or, refl, sym, ap, ◌∙◌, arith, inl, inr, ⊎_elim}
use Rattle.std.specs.Prelude.{All, ◌⊎◌}
use Rattle.std.proofs.lemmas.Bool.{cases_Bool}
use Rattle.std.proofs.lemmas.Bool.Decides.{nat_tests}
use Rattle.std.proofs.lemmas.List.Elements.{All-tail}
use Rattle.dioid.specs.declared.dates.Date.{Date}
use Rattle.dioid.specs.declared.dates.Date.TheVariants.{Early}
use Rattle.dioid.specs.Dates.{IsAtMostDate, later_of}
use Rattle.dioid.proofs.DateOrder.{at_most_refl, at_most_trans, same_by_at_most, later_left, later_right, later_least, later_either, delayed_rises}
use Rattle.teg_net.specs.declared.entries.Place.{Place}
use Rattle.teg_net.specs.Circuits.{no_place}
use Rattle.teg_model.specs.Systems.{System, available_in, available, IsFeasibleIn, IsLeastIn}
use Rattle.teg_model.specs.LiveRanks.{AreRanks}
use Rattle.teg_model.proofs.DateFunctions.{Dating, InitialDates}

-- the latest of d and of the tokens that the places into t have for firing k
pub latest_into : List Place → InitialDates → Dating → ℕ → ℕ → Date → Date
latest_into [] init x t k d = d
latest_into (p ∷ ps) init x t k d = cond (eqb p.to.index t) (later_of (available_in init x p k) (latest_into ps init x t k d)) (latest_into ps init x t k d)

pub latest_above : (ps : List Place) (init : InitialDates) (x : Dating) (t k : ℕ) (d : Date) → IsAtMostDate d (latest_into ps init x t k d)
unfolding latest_into
latest_above [] init x t k d = at_most_refl d
latest_above (p ∷ ps) init x t k d =
    let more : IsAtMostDate d (latest_into ps init x t k d) = latest_above ps init x t k d in
    elim (eqb p.to.index t) as (λ b. IsAtMostDate d (cond b (later_of (available_in init x p k) (latest_into ps init x t k d)) (latest_into ps init x t k d))) [
      | true ↦ at_most_trans d _ _ more (later_right (available_in init x p k) (latest_into ps init x t k d))
      | false ↦ more
    ]

pub latest_upper : (ps : List Place) (init : InitialDates) (x : Dating) (t k : ℕ) (d : Date) → All (λ p. p.to.index ≡ t → IsAtMostDate (available_in init x p k) (latest_into ps init x t k d)) ps
unfolding latest_into
latest_upper [] init x t k d i e l = absurd (omega arith)
latest_upper (p ∷ ps) init x t k d zero e l = λ q.
    let is : eqb p.to.index t ≡ true = grind (arith, nat_tests) in
    rw is (later_left (available_in init x p k) (latest_into ps init x t k d))
latest_upper (p ∷ ps) init x t k d (suc i) e l = λ q.
    let more = latest_upper ps init x t k d i e (omega arith) q in
    elim (eqb p.to.index t) as (λ b. IsAtMostDate (available_in init x (get_or ps i e) k) (cond b (later_of (available_in init x p k) (latest_into ps init x t k d)) (latest_into ps init x t k d))) [
      | true ↦ at_most_trans (available_in init x (get_or ps i e) k) (latest_into ps init x t k d) _ more (later_right (available_in init x p k) (latest_into ps init x t k d))
      | false ↦ more
    ]

pub latest_least : (ps : List Place) (init : InitialDates) (x : Dating) (t k : ℕ) (d z : Date)
    → All (λ p. p.to.index ≡ t → IsAtMostDate (available_in init x p k) z) ps → IsAtMostDate d z → IsAtMostDate (latest_into ps init x t k d) z
unfolding latest_into
latest_least [] init x t k d z h l = l
latest_least (p ∷ ps) init x t k d z h l =
    let rest = latest_least ps init x t k d z (All-tail (λ q. q.to.index ≡ t → IsAtMostDate (available_in init x q k) z) p ps h) l in
    ⊎_elim
    (λ (e : eqb p.to.index t ≡ true).
    let is : p.to.index ≡ t = grind (arith, nat_tests) in
    rw e (later_least (available_in init x p k) (latest_into ps init x t k d) z (h 0 p (omega arith) is) rest))
    (λ (e : eqb p.to.index t ≡ false). rw e rest)
    (cases_Bool (eqb p.to.index t))

latest_same : (ps : List Place) (init : InitialDates) (x y : Dating) (t k : ℕ) (d : Date)
    → All (λ p. p.to.index ≡ t → available_in init x p k ≡ available_in init y p k) ps → latest_into ps init x t k d ≡ latest_into ps init y t k d
unfolding latest_into
latest_same [] init x y t k d h = refl
latest_same (p ∷ ps) init x y t k d h =
    let rest = latest_same ps init x y t k d (All-tail (λ q. q.to.index ≡ t → available_in init x q k ≡ available_in init y q k) p ps h) in
    ⊎_elim
    (λ (e : eqb p.to.index t ≡ true).
    let is : p.to.index ≡ t = grind (arith, nat_tests) in
    let here : available_in init x p k ≡ available_in init y p k = h 0 p (omega arith) is in
    rw (e, here, rest))
    (λ (e : eqb p.to.index t ≡ false). rw (e, rest))
    (cases_Bool (eqb p.to.index t))

-- one step earlier in firing number and rank
pub falls : (n k m r s : ℕ) → m < k → r < n → (m ≡ 0 → r < s) → (k - m) * n + r < k * n + s
falls n k zero r s l b h =
    let e : k - 0 ≡ k = omega arith in
    rw e (omega (arith, h refl))
falls n k (suc m) r s l b h =
    let j : ℕ = k - suc m in
    let e : k ≡ j + suc m = omega arith in
    let product : k * n ≡ j * n + (m * n + n) = rw e (grind arith) in
    omega (arith, product)

round : System → ℕ → Dating
round s zero t k = Early
round s (suc n) t k = latest_into s.places s.initial (round s n) t k (s.release t k)

size : ℕ → (ℕ → ℕ) → ℕ → ℕ → ℕ
size bound r t k = k * bound + r t

-- where two datings agree at smaller firings, a place available the same of both
same_available :
    (init : InitialDates) (x y : Dating) (bound : ℕ) (r : ℕ → ℕ) (p : Place) (k : ℕ) (below : (t : ℕ) → r t < bound)
    → (p.tokens ≡ 0 → r p.from.index < r p.to.index)
    → ((t j : ℕ) → size bound r t j < size bound r p.to.index k → x t j ≡ y t j)
    → available_in init x p k ≡ available_in init y p k
unfolding size
same_available init x y bound r p k below rise h =
    ⊎_elim
    (λ (e : ltb p.tokens k ≡ true).
    let l : p.tokens < k = grind (arith, nat_tests) in
    let down = falls bound k p.tokens (r p.from.index) (r p.to.index) l (below p.from.index) rise in
    rw (e, h p.from.index (k - p.tokens) down))
    (λ (e : ltb p.tokens k ≡ false). rw e)
    (cases_Bool (ltb p.tokens k))

stable : (s : System) (bound : ℕ) (r : ℕ → ℕ) → AreRanks s.places bound r → (n t k : ℕ) → size bound r t k < n → round s n t k ≡ round s (suc n) t k
unfolding round
stable s bound r rr zero t k l = absurd (omega arith)
stable s bound r rr (suc n) t k l =
    latest_same s.places s.initial (round s n) (round s (suc n)) t k (s.release t k) (λ i d m q.
    let p : Place = get_or s.places i d in
    same_available s.initial (round s n) (round s (suc n)) bound r p k rr.below (rr.rise i d m) (λ u j q2.
    let here : size bound r p.to.index k ≡ size bound r t k = ap (λ x. size bound r x k) q in
    stable s bound r rr n u j (omega arith)))

stable_on : (s : System) (bound : ℕ) (r : ℕ → ℕ) → AreRanks s.places bound r → (n m t k : ℕ) → size bound r t k < n → round s n t k ≡ round s (m + n) t k
stable_on s bound r rr n zero t k l = let e : 0 + n ≡ n = omega arith in rw e
stable_on s bound r rr n (suc m) t k l =
    let e : suc m + n ≡ suc (m + n) = omega arith in
    rw e (stable_on s bound r rr n m t k l ∙ stable s bound r rr (m + n) t k (omega arith))

-- the least dating
pub least_over : System → ℕ → (ℕ → ℕ) → Dating
least_over s bound r t k = round s (suc (size bound r t k)) t k

at_rest : (s : System) (bound : ℕ) (r : ℕ → ℕ) → AreRanks s.places bound r → (n t k : ℕ) → size bound r t k < n → round s n t k ≡ least_over s bound r t k
unfolding least_over
at_rest s bound r rr n t k l =
    let e : (n - suc (size bound r t k)) + suc (size bound r t k) ≡ n = omega arith in
    let q2 = stable_on s bound r rr (suc (size bound r t k)) (n - suc (size bound r t k)) t k (omega arith) in
    sym (rw e at q2)

fixed : (s : System) (bound : ℕ) (r : ℕ → ℕ) → AreRanks s.places bound r → (t k : ℕ) → least_over s bound r t k ≡ latest_into s.places s.initial (least_over s bound r) t k (s.release t k)
unfolding least_over round
fixed s bound r rr t k =
    latest_same s.places s.initial (round s (size bound r t k)) (least_over s bound r) t k (s.release t k) (λ i d m q.
    let p : Place = get_or s.places i d in
    same_available s.initial (round s (size bound r t k)) (least_over s bound r) bound r p k rr.below (rr.rise i d m) (λ u j q2.
    let here : size bound r p.to.index k ≡ size bound r t k = ap (λ x. size bound r x k) q in
    at_rest s bound r rr (size bound r t k) u j (omega arith)))

pub least_is_feasible : (s : System) (bound : ℕ) (r : ℕ → ℕ) → AreRanks s.places bound r → IsFeasibleIn s (least_over s bound r)
least_is_feasible s bound r rr =
    let x : Dating = least_over s bound r in
    record {
      places = λ k l i d m.
          let p : Place = get_or s.places i d in
          rw (fixed s bound r rr p.to.index k) (latest_upper s.places s.initial x p.to.index k (s.release p.to.index k) i d m refl);
      releases = λ t k l. rw (fixed s bound r rr t k) (latest_above s.places s.initial x t k (s.release t k));
    }

-- nothing less would do at one firing
pub least_is_tight : (s : System) (bound : ℕ) (r : ℕ → ℕ) → AreRanks s.places bound r → (t k : ℕ) (z : Date)
    → All (λ p. p.to.index ≡ t → IsAtMostDate (available s (least_over s bound r) p k) z) s.places → IsAtMostDate (s.release t k) z → IsAtMostDate (least_over s bound r t k) z
least_is_tight s bound r rr t k z h l =
    rw (fixed s bound r rr t k) (latest_least s.places s.initial (least_over s bound r) t k (s.release t k) z h l)

pub available_rises : (init : InitialDates) (x y : Dating) (p : Place) (k : ℕ)
    → ((j : ℕ) → 1 ≤ j → IsAtMostDate (x p.from.index j) (y p.from.index j)) → IsAtMostDate (available_in init x p k) (available_in init y p k)
available_rises init x y p k h =
    ⊎_elim
    (λ (e : ltb p.tokens k ≡ true).
    let l : p.tokens < k = grind (arith, nat_tests) in
    let one : 1 ≤ k - p.tokens = omega arith in
    rw e (delayed_rises p.hold (x p.from.index (k - p.tokens)) (y p.from.index (k - p.tokens)) (h (k - p.tokens) one)))
    (λ (e : ltb p.tokens k ≡ false). rw e (at_most_refl (init p k)))
    (cases_Bool (ltb p.tokens k))

round_below : (s : System) (y : Dating) → IsFeasibleIn s y → (n t k : ℕ) → 1 ≤ k → IsAtMostDate (round s n t k) (y t k)
unfolding round
round_below s y f zero t k l = tt
round_below s y f (suc n) t k l =
    latest_least s.places s.initial (round s n) t k (s.release t k) (y t k)
    (λ i d m q.
    let p : Place = get_or s.places i d in
    let upper = f.places k l i d m in
    at_most_trans (available s (round s n) p k) (available s y p k) (y t k)
    (available_rises s.initial (round s n) y p k (λ j o. round_below s y f n p.from.index j o))
    (rw q at upper))
    (f.releases t k l)

pub least_is_least : (s : System) (bound : ℕ) (r : ℕ → ℕ) (y : Dating) → IsFeasibleIn s y → (t k : ℕ) → 1 ≤ k → IsAtMostDate (least_over s bound r t k) (y t k)
unfolding least_over
least_is_least s bound r y f t k l = round_below s y f (suc (size bound r t k)) t k l

-- the latest is d, or what some place available
pub latest_attained : (ps : List Place) (init : InitialDates) (x : Dating) (t k : ℕ) (d : Date) → (latest_into ps init x t k d ≡ d)
    ⊎ ((i : ℕ) × (i < length ps) × ((get_or ps i no_place).to.index ≡ t) × (latest_into ps init x t k d ≡ available_in init x (get_or ps i no_place) k))
unfolding latest_into
latest_attained [] init x t k d = inl refl
latest_attained (p ∷ ps) init x t k d =
    let rest = latest_attained ps init x t k d in
    let more : Date = latest_into ps init x t k d in
    ⊎_elim
    (λ (e : eqb p.to.index t ≡ true).
    let is : p.to.index ≡ t = grind (arith, nat_tests) in
    ⊎_elim
    (λ (q : later_of (available_in init x p k) more ≡ available_in init x p k). inr (0, omega arith, is, rw e q))
    (λ (q : later_of (available_in init x p k) more ≡ more).
    ⊎_elim
    (λ (a : more ≡ d). inl (rw e (q ∙ a)))
    (λ (a : (i : ℕ) × (i < length ps) × ((get_or ps i no_place).to.index ≡ t) × (more ≡ available_in init x (get_or ps i no_place) k)). inr (suc a.0, omega (arith, a.1), a.2, rw e (q ∙ a.3)))
    rest)
    (later_either (available_in init x p k) more))
    (λ (e : eqb p.to.index t ≡ false).
    ⊎_elim
    (λ (a : more ≡ d). inl (rw e a))
    (λ (a : (i : ℕ) × (i < length ps) × ((get_or ps i no_place).to.index ≡ t) × (more ≡ available_in init x (get_or ps i no_place) k)). inr (suc a.0, omega (arith, a.1), a.2, rw e a.3))
    rest)
    (cases_Bool (eqb p.to.index t))

pub least_is_attained : (s : System) (bound : ℕ) (r : ℕ → ℕ) → AreRanks s.places bound r → (t k : ℕ)
    → (least_over s bound r t k ≡ s.release t k)
    ⊎ ((i : ℕ) × (i < length s.places) × ((get_or s.places i no_place).to.index ≡ t) × (least_over s bound r t k ≡ available s (least_over s bound r) (get_or s.places i no_place) k))
least_is_attained s bound r rr t k =
    let x : Dating = least_over s bound r in
    let e = fixed s bound r rr t k in
    ⊎_elim
    (λ (a : latest_into s.places s.initial x t k (s.release t k) ≡ s.release t k). inl (e ∙ a))
    (λ (a : (i : ℕ) × (i < length s.places) × ((get_or s.places i no_place).to.index ≡ t)
    × (latest_into s.places s.initial x t k (s.release t k) ≡ available s x (get_or s.places i no_place) k)). inr (a.0, a.1, a.2, e ∙ a.3))
    (latest_attained s.places s.initial x t k (s.release t k))

pub least_over_is_least : (s : System) (bound : ℕ) (r : ℕ → ℕ) → AreRanks s.places bound r → IsLeastIn s (least_over s bound r)
least_over_is_least s bound r rr = record { feasible = least_is_feasible s bound r rr; least = λ y f t k o. least_is_least s bound r y f t k o }

-- there is no other
pub only_least_in : (s : System) (x y : Dating) → IsLeastIn s x → IsLeastIn s y → (t k : ℕ) → 1 ≤ k → x t k ≡ y t k
only_least_in s x y a b t k o = same_by_at_most (x t k) (y t k) (a.least y b.feasible t k o) (b.least x a.feasible t k o)

-- least dates are tight
pub tight_in : (s : System) (bound : ℕ) (r : ℕ → ℕ) (x : Dating) → AreRanks s.places bound r → IsLeastIn s x
    → (t k : ℕ) (z : Date) → 1 ≤ k → All (λ p. p.to.index ≡ t → IsAtMostDate (available s x p k) z) s.places → IsAtMostDate (s.release t k) z → IsAtMostDate (x t k) z
tight_in s bound r x rr h t k z o all under =
    let lo : Dating = least_over s bound r in
    at_most_trans (x t k) (lo t k) z (h.least lo (least_is_feasible s bound r rr) t k o)
    (least_is_tight s bound r rr t k z
    (λ i d m q. at_most_trans (available s lo (get_or s.places i d) k) (available s x (get_or s.places i d) k) z
    (available_rises s.initial lo x (get_or s.places i d) k (λ j one. least_is_least s bound r x h.feasible (get_or s.places i d).from.index j one))
    (all i d m q))
    under)
