-- Where the starts are below the lines of potentials, the dates of walks are, and so the least dates.
use Rattle.std.proofs.Common.{ℕ, ℤ, zero, suc, ◌+◌, ◌-◌, ◌*◌, ◌≤◌, ◌≡◌, List, [], ◌∷◌, get_or, sym, ap, subst, arith, ⊎_elim, ◌+ℤ◌, ◌*ℤ◌}
use Rattle.std.specs.Prelude.{pos, Bool, IsTrue, ◌≤ℤ◌, Any}
use Rattle.std.proofs.lemmas.Int.{ints}
use Rattle.std.proofs.lemmas.List.Sums.{sum_by-cons}
use Rattle.std.proofs.Math.Nat.{mul-le-mul_left}
use Rattle.periodic_laws.specs.dioid.declared.dates.Date.{Date}
use Rattle.periodic_laws.specs.dioid.declared.dates.Date.TheVariants.{Early, At, Never}
use Rattle.periodic_laws.specs.dioid.Dates.{IsAtMostDate, later_of, delayed}
use Rattle.periodic_laws.proofs.dioid_proofs.DateOrder.{later_either}
use Rattle.periodic_laws.specs.teg_net.declared.entries.Place.{Place}
use Rattle.periodic_laws.specs.teg_net.Limits.{greatest_input_date}
use Rattle.periodic_laws.specs.teg_net.Nets.{NetLists, IsInput}
use Rattle.periodic_laws.specs.teg_net.Circuits.{place_at, from_of}
use Rattle.periodic_laws.specs.teg_net.Parts.{to_of}
use Rattle.periodic_laws.specs.teg_net.ReadyDates.{ready_date, start_date}
use Rattle.periodic_laws.specs.teg_net.declared.walks.Step.{Step}
use Rattle.periodic_laws.specs.teg_net.declared.walks.Step.TheVariants.{By, Next}
use Rattle.periodic_laws.specs.teg_net.Walks.{Walks, step_time, walk_time}
use Rattle.periodic_laws.proofs.teg_net_proofs.InputDates.{date_le}
use Rattle.periodic_laws.proofs.teg_net_proofs.StartDates.{IsStartDate-start_date}
use Rattle.periodic_laws.specs.teg_model.Datings.{at_input}
use Rattle.periodic_laws.specs.teg_model.Starts.{start_of_firing}
use Rattle.growth_laws.specs.DateLines.{line_at, IsBelowLine, ArePotentialsInto, AreStartsBelow, PotentialsBoundDates, StartsHaveLines}
use Rattle.periodic_laws.proofs.teg_model_proofs.DateFunctions.{Dating}
use Rattle.periodic_laws.proofs.teg_model_proofs.GreatestWalks.{least_is_walk}
use Rattle.periodic_laws.proofs.teg_model_proofs.LiveRanks.{live_is_ranked}
use Rattle.periodic_laws.proofs.teg_model_proofs.OfNet.{input_or_not}

-- ---- products

product_later : (b : ℕ) (s : ℤ) (w : ℕ) → (pos b *ℤ (s +ℤ pos w)) ≡ (pos b *ℤ s +ℤ pos (b * w))
product_later zero s w = let e : 0 * w ≡ 0 = omega arith in rw e (omega (arith, ints))
product_later (suc b) s w =
    let rest = product_later b s w in
    let e : suc b * w ≡ b * w + w = grind arith in
    rw e (omega (arith, ints, rest))

product_low : (b : ℕ) (s : ℤ) → s ≤ℤ pos 0 → (pos b *ℤ s) ≤ℤ pos 0
product_low zero s l = omega (arith, ints)
product_low (suc b) s l = let rest = product_low b s l in omega (arith, ints, rest)

-- ---- below lines

below_delayed : (b w : ℕ) (m n : ℤ) (d : Date) → (pos (b * w) +ℤ m) ≤ℤ n → IsBelowLine b m d → IsBelowLine b n (delayed w d)
below_delayed b w m n Early l h = tt
below_delayed b w m n (At x) l h = let e = product_later b x w in omega (arith, ints, l, h, e)
below_delayed b w m n Never l h = absurd h

below_low : (b : ℕ) (n : ℤ) (d : Date) → pos 0 ≤ℤ n → IsAtMostDate d (At (pos 0)) → IsBelowLine b n d
below_low b n Early l h = tt
below_low b n (At x) l h = let e = product_low b x h in omega (arith, ints, l, e)
below_low b n Never l h = absurd h

-- ---- along a walk

module _ (net : NetLists) (inside : ℕ → Bool) (a b : ℕ) (v : ℕ → ℤ) (into : ArePotentialsInto net inside a b v) where
  -- what leads into the set comes from it
  walk_inside : (steps : List Step) (s j t k : ℕ) → Walks net s j steps t k → IsTrue (inside t) → IsTrue (inside s)
  walk_inside [] s j t k w i = subst (λ n. IsTrue (inside n)) (sym w.0) i
  walk_inside (By p ∷ steps) s j t k w i = subst (λ n. IsTrue (inside n)) w.1 (into.closed p w.0 (walk_inside steps (to_of net p) (j + (place_at net p).tokens) t k w.2 i))
  walk_inside (Next ∷ steps) s j t k w i = walk_inside steps s (j + 1) t k w i

  -- and takes no more time than the lines rise
  walk_rises : (steps : List Step) (s j t k : ℕ) → Walks net s j steps t k → IsTrue (inside t) → (pos (b * walk_time net steps) +ℤ (v s +ℤ pos (a * j))) ≤ℤ (v t +ℤ pos (a * k))
  walk_rises [] s j t k w i =
      let none : b * 0 ≡ 0 = omega arith in
      rw (w.0, w.1, none) (omega (arith, ints))
  walk_rises (By p ∷ steps) s j t k w i =
      let place : Place = place_at net p in
      let rest = walk_rises steps (to_of net p) (j + place.tokens) t k w.2 i in
      let here = into.potentials p w.0 (walk_inside steps (to_of net p) (j + place.tokens) t k w.2 i) in
      let from : v (from_of net p) ≡ v s = ap v w.1 in
      let time : b * walk_time net (By p ∷ steps) ≡ b * place.hold + b * walk_time net steps = rw (sum_by-cons (step_time net) (By p) steps) (grind arith) in
      let number : a * (j + place.tokens) ≡ a * j + a * place.tokens = grind arith in
      omega (arith, ints, rest, here, from, time, number)
  walk_rises (Next ∷ steps) s j t k w i =
      let rest = walk_rises steps s (j + 1) t k w i in
      let same : walk_time net (Next ∷ steps) ≡ walk_time net steps = omega (arith, sum_by-cons (step_time net) Next steps) in
      let time : b * walk_time net (Next ∷ steps) ≡ b * walk_time net steps = ap (λ n. b * n) same in
      let number : a * (j + 1) ≡ a * j + a = grind arith in
      omega (arith, ints, rest, time, number)

-- ---- starts

line_rises : (a : ℕ) (c : ℤ) (v : ℕ → ℤ) (t j k : ℕ) → j ≤ k → line_at a c v t j ≤ℤ line_at a c v t k
line_rises a c v t j k l = let more : a * j ≤ a * k = mul-le-mul_left {m = j} {n = k} a l in omega (arith, ints, more)

module _ (net : NetLists) (u : Dating) (inside : ℕ → Bool) (a b : ℕ) (c : ℤ) (v : ℕ → ℤ) (starts : AreStartsBelow net u inside a b c v) where
  ready_below : (t k : ℕ) → IsTrue (inside t) → 1 ≤ k → pos (b * start_date net t k) ≤ℤ line_at a c v t k
  ready_below t k i one =
      ⊎_elim
      (λ (none : start_date net t k ≡ 0).
      let low = starts.from_zero t i in
      let rises = line_rises a c v t 1 k one in
      let e : b * start_date net t k ≡ 0 = rw none (omega arith) in
      rw e (omega (arith, ints, low, rises)))
      (λ (some : Any (λ p. (p.to.index ≡ t) × (k ≤ p.tokens) × (ready_date p k ≡ start_date net t k)) net.places).
      let (n, p, l, r, (ends, few, e)) = some in
      let all = subst (λ q. IsTrue (inside q.to.index) → (j : ℕ) → 1 ≤ j → j ≤ q.tokens → pos (b * ready_date q j) ≤ℤ line_at a c v q.to.index j) r (starts.ready n p l) in
      let here : pos (b * ready_date p k) ≤ℤ line_at a c v p.to.index k = all (subst (λ n. IsTrue (inside n)) (sym ends) i) k one few in
      subst (λ m. pos (b * m) ≤ℤ line_at a c v t k) e (subst (λ s. pos (b * ready_date p k) ≤ℤ line_at a c v s k) ends here))
      (IsStartDate-start_date net t k).reached

  start_below : (t k : ℕ) → IsTrue (inside t) → 1 ≤ k → IsBelowLine b (line_at a c v t k) (start_of_firing net u t k)
  start_below t k i one =
      let low = ready_below t k i one in
      let rest : Date = at_input net t (u t k) Early in
      ⊎_elim
      (λ (e : later_of (At (pos (start_date net t k))) rest ≡ At (pos (start_date net t k))). rw e low)
      (λ (e : later_of (At (pos (start_date net t k))) rest ≡ rest).
      rw e
      (⊎_elim
      (λ (is : IsInput net t × (rest ≡ u t k)). rw is.1 (starts.released t k i is.0 one))
      (λ (is : (rest ≡ Early) × (rest ≡ Early)). rw is.0 tt)
      (input_or_not net t (u t k) Early Early)))
      (later_either (At (pos (start_date net t k))) rest)

pub bound_dates : PotentialsBoundDates
bound_dates net ends live u x least inside a b c v into starts t k l one i =
    let ranked = live_is_ranked net ends live in
    let d = (least_is_walk net u x ranked.0 ranked.1 ends ranked.2 least t k l one).reached in
    let member : IsTrue (inside d.from) = walk_inside net inside a b v into d.steps d.from d.number t k d.walk i in
    let rises = walk_rises net inside a b v into d.steps d.from d.number t k d.walk i in
    let start = subst (IsBelowLine b (line_at a c v d.from d.number)) (sym d.starts) (start_below net u inside a b c v starts d.from d.number member d.from_one) in
    subst (IsBelowLine b (line_at a c v t k)) (sym d.is) (below_delayed b (walk_time net d.steps) (line_at a c v d.from d.number) (line_at a c v t k) d.start (omega (arith, ints, rises)) start)

-- ---- the constant where no input waits

pub have_lines : StartsHaveLines
have_lines net ok u inside a b low v zero_at high = record {
  from_zero = λ t i. (let h = high t i in omega (arith, ints, h));
  ready = λ n d l i k one few.
      let p : Place = get_or net.places n d in
      let h = high p.to.index i in
      let most : ready_date p k ≤ greatest_input_date = date_le p.ready (k - 1) (ok.each_place n d l).ready_in in
      let product : b * ready_date p k ≤ b * greatest_input_date = mul-le-mul_left {m = ready_date p k} {n = greatest_input_date} b most in
      omega (arith, ints, h, product);
  released = λ t k i is one. (let h = high t i in below_low b (line_at a (pos (b * greatest_input_date + low)) v t k) (u t k) (omega (arith, ints, h)) (zero_at t k i is one));
}
