-- Bounds on the least dates.
use Rattle.std.proofs.Common.{ℕ, zero, suc, ◌+◌, ◌-◌, ◌*◌, ◌<◌, ◌≤◌, ◌≡◌, true, false, ltb, length, get_or, ap, subst, arith, ⊎_elim}
use Rattle.std.proofs.lemmas.Bool.{cases_Bool}
use Rattle.std.proofs.lemmas.Bool.Decides.{nat_tests}
use Rattle.std.proofs.lemmas.Int.{ints}
use Rattle.std.specs.Prelude.{All}
use Rattle.dioid.specs.declared.dates.Date.{Date}
use Rattle.dioid.specs.declared.dates.Date.TheVariants.{Early, At, Never}
use Rattle.dioid.specs.Dates.{delayed}
use Rattle.teg_net.specs.declared.entries.Place.{Place}
use Rattle.teg_net.specs.Nets.{NetLists, IsNet, IsInput}
use Rattle.teg_net.specs.Limits.{greatest_hold, greatest_input_date}
use Rattle.teg_net.specs.ReadyDates.{ready_date}
use Rattle.teg_net.proofs.InputDates.{date_le}
use Rattle.teg_net.specs.Circuits.{no_place}
use Rattle.teg_model.specs.Systems.{System, available, IsLeastIn}
use Rattle.teg_model.specs.LiveRanks.{AreRanks}
use Rattle.teg_model.specs.DateBounds.{IsDateWithin, IsBoundedBy}
use Rattle.teg_model.specs.Datings.{IsLeastUnder, extended_places, at_input, system_of}
use Rattle.teg_model.proofs.LeastOver.{least_over, least_is_attained, least_over_is_least, only_least_in, falls}
use Rattle.teg_model.proofs.OfNet.{all_extended, input_or_not, ranks_extended, least_is_over}
use Rattle.teg_model.proofs.DateFunctions.{Dating}

pub within_more : (m n : ℕ) (d : Date) → m ≤ n → IsDateWithin m d → IsDateWithin n d
within_more m n Early l h = tt
within_more m n (At x) l h = (h.0, omega (arith, ints, h.1))
within_more m n Never l h = tt

pub within_delayed : (m n h : ℕ) (d : Date) → m + h ≤ n → IsDateWithin m d → IsDateWithin n (delayed h d)
within_delayed m n h Early l i = tt
within_delayed m n h (At x) l i = (omega (arith, ints, i.0), omega (arith, ints, i.1))
within_delayed m n h Never l i = tt

-- one place more costs at most the greatest hold
step_fits : (hold h m n : ℕ) → h ≤ hold → m < n → hold * m + h ≤ hold * n
step_fits hold h m n l b =
    let d : ℕ = n - suc m in
    let is : n ≡ m + suc d = omega arith in
    let product : hold * n ≡ hold * m + (hold + hold * d) = rw is (grind arith) in
    omega (arith, product)

within_on : (s : System) (bound hold : ℕ) (r first : ℕ → ℕ) → AreRanks s.places bound r → IsBoundedBy s hold first
    → (n t k : ℕ) → 1 ≤ k → k * bound + r t < n → IsDateWithin (first k + hold * (k * bound + r t)) (least_over s bound r t k)
within_on s bound hold r first rr b zero t k o l = absurd (omega arith)
within_on s bound hold r first rr b (suc n) t k o l =
    let x : Dating = least_over s bound r in
    let high : ℕ = first k + hold * (k * bound + r t) in
    ⊎_elim
    (λ (e : x t k ≡ s.release t k). rw e (within_more (first k) high (s.release t k) (omega arith) (b.release t k o)))
    (λ (a : (i : ℕ) × (i < length s.places) × ((get_or s.places i no_place).to.index ≡ t) × (x t k ≡ available s x (get_or s.places i no_place) k)).
    let p : Place = get_or s.places a.0 no_place in
    let h : p.hold ≤ hold = b.holds a.0 no_place a.1 in
    rw a.3
    (⊎_elim
    (λ (e : ltb p.tokens k ≡ true).
    let m : p.tokens < k = grind (arith, nat_tests) in
    let j : ℕ = k - p.tokens in
    let down = falls bound k p.tokens (r p.from.index) (r p.to.index) m (rr.below p.from.index) (rr.rise a.0 no_place a.1) in
    let here : r p.to.index ≡ r t = ap r a.2 in
    let less : j * bound + r p.from.index < k * bound + r t = omega arith in
    let one : 1 ≤ j = omega arith in
    let before = within_on s bound hold r first rr b n p.from.index j one (omega arith) in
    let step = step_fits hold p.hold (j * bound + r p.from.index) (k * bound + r t) h less in
    let low = b.grows j k (omega arith) in
    rw e (within_delayed (first j + hold * (j * bound + r p.from.index)) high p.hold (x p.from.index j) (omega arith) before))
    (λ (e : ltb p.tokens k ≡ false).
    let few : k ≤ p.tokens = grind (arith, nat_tests) in
    rw e (within_more (first k) high (s.initial p k) (omega arith) (b.initial a.0 no_place a.1 k o few)))
    (cases_Bool (ltb p.tokens k))))
    (least_is_attained s bound r rr t k)

-- of each least dating
pub least_in_within : (s : System) (bound hold : ℕ) (r first : ℕ → ℕ) (x : Dating) → AreRanks s.places bound r → IsBoundedBy s hold first → IsLeastIn s x
    → (t k : ℕ) → 1 ≤ k → IsDateWithin (first k + hold * (k * bound + r t)) (x t k)
least_in_within s bound hold r first x rr b h t k o =
    subst (IsDateWithin (first k + hold * (k * bound + r t))) (only_least_in s (least_over s bound r) x (least_over_is_least s bound r rr) h t k o)
    (within_on s bound hold r first rr b (suc (k * bound + r t)) t k o (omega arith))

-- a ready date keeps the limit of dates
ready_most : (net : NetLists) → IsNet net → (k : ℕ) → All (λ p. ready_date p k ≤ greatest_input_date) (extended_places net)
ready_most net ok k = all_extended net (λ p. ready_date p k ≤ greatest_input_date) (λ i d l. date_le (get_or net.places i d).ready (k - 1) (ok.each_place i d l).ready_in) (λ t. omega arith)

-- the dates that the inputs are given stay within a bound that grows with the number
pub record AreWithin (net : NetLists) (u : Dating) (first : ℕ → ℕ) : Type 0 where
  pub grows : (j k : ℕ) → j ≤ k → first j ≤ first k
  pub ready : greatest_input_date ≤ first 0
  pub inputs : (t k : ℕ) → 1 ≤ k → IsInput net t → IsDateWithin (first k) (u t k)

pub net_is_bounded : (net : NetLists) (u : Dating) (first : ℕ → ℕ) → IsNet net → AreWithin net u first → IsBoundedBy (system_of net u) greatest_hold first
net_is_bounded net u first ok w = record {
  holds = all_extended net (λ p. p.hold ≤ greatest_hold) (λ i d m. (ok.each_place i d m).hold_in) (λ j. omega arith);
  grows = w.grows;
  initial = λ i d l k o m.
      let ready = ready_most net ok k i d l in
      let more = w.grows 0 k (omega arith) in
      (omega (arith, ints), omega (arith, ints, ready, more, w.ready));
  release = λ a j one.
      ⊎_elim
      (λ (e : IsInput net a × (at_input net a (u a j) Early ≡ u a j)). rw e.1 (w.inputs a j one e.0))
      (λ (e : (at_input net a (u a j) Early ≡ Early) × (at_input net a (u a j) Early ≡ Early)). rw e.0 tt)
      (input_or_not net a (u a j) Early Early);
}

-- the least dates of a net
pub least_within : (net : NetLists) (u x : Dating) (bound : ℕ) (r first : ℕ → ℕ) → IsNet net → AreRanks net.places bound r → AreWithin net u first → IsLeastUnder net u x
    → (t k : ℕ) → t < length net.transitions → 1 ≤ k → IsDateWithin (first k + greatest_hold * (k * bound + r t)) (x t k)
least_within net u x bound r first ok rr w h t k l o =
    let s : System = system_of net u in
    let re = ranks_extended net bound r rr in
    subst (IsDateWithin (first k + greatest_hold * (k * bound + r t))) (least_is_over net u x bound r rr h t k l o)
    (least_in_within s bound greatest_hold r first (least_over s bound r) re (net_is_bounded net u first ok w) (least_over_is_least s bound r re) t k o)
