-- Circuits through one place, and the paths that close them.
use Rattle.std.proofs.Common.{ℕ, zero, suc, ◌+◌, ◌-◌, ◌<◌, ◌≡◌, ◌≢◌, List, ◌∷◌, ◌++◌, length, take, drop, drop-cons, refl, sym, ap, subst, ◌∙◌, arith, add-one}
use Rattle.std.specs.Prelude.{All, AllPairs, Contains, sum_by}
use Rattle.std.proofs.lemmas.List.Sums.{sum_by-cons}
use Rattle.teg_net.specs.declared.entries.PlaceId.{PlaceId}
use Rattle.teg_net.specs.Nets.{NetLists}
use Rattle.teg_net.specs.Circuits.{from_of, IsPathBetween, IsCircuit}
use Rattle.teg_net.specs.Parts.{to_of}
use Rattle.teg_net.proofs.Turning.{turned, turned_circuit, turned_sum}
use Rattle.teg_loops.specs.Loops.{IsStraight}
use Rattle.teg_loops.specs.PathSplitting.{CircuitsPassWherePathsLeadBack}
use Rattle.teg_loops.proofs.Splitting.{split}

-- a circuit through p is p, followed by a path back that does not leave its start again
pub record IsThrough (net : NetLists) (p : PlaceId) (ps : List PlaceId) : Type 0 where
  pub others : List PlaceId
  pub path : IsPathBetween net (to_of net p) others (from_of net p)
  pub once : All (λ q. from_of net p ≢ from_of net q) others
  pub circuit : IsCircuit net (p ∷ others)
  pub same : (f : PlaceId → ℕ) → sum_by f ps ≡ f p + sum_by f others

closed_back : (net : NetLists) (p : PlaceId) (qs : List PlaceId) (a : ℕ) → IsPathBetween net a (p ∷ qs) a → IsPathBetween net (to_of net p) qs (from_of net p)
closed_back net p qs a h = subst (λ (z : ℕ). IsPathBetween net (to_of net p) qs z) (sym h.1) h.2

-- the circuit is told from p on
pub through : (net : NetLists) (p : PlaceId) (ps : List PlaceId) → IsCircuit net ps → Contains ps p → IsThrough net p ps
through net p ps c passes =
    let k : ℕ = passes.0 in
    let l : k < length ps = passes.1 in
    let others : List PlaceId = drop (k + 1) ps ++ take k ps in
    let cut : drop k ps ≡ p ∷ drop (k + 1) ps = rw add-one (drop-cons ps k p l) ∙ ap (λ (z : PlaceId). z ∷ drop (k + 1) ps) passes.2 in
    let is : turned ps k ≡ p ∷ others = ap (λ (z : List PlaceId). z ++ take k ps) cut in
    let round : IsCircuit net (p ∷ others) = subst (IsCircuit net) is (turned_circuit net ps k (omega arith) c) in
    record {
      others = others;
      path = closed_back net p others round.closed.0 round.closed.1;
      once = λ i d m. round.leaves_once 0 (suc i) d (omega arith) (omega arith);
      circuit = round;
      same = λ f. sym (turned_sum f ps k) ∙ ap (sum_by f) is ∙ sum_by-cons f p others;
    }

-- a straight path back makes a circuit with p
pub closes : (net : NetLists) (p : PlaceId) (ps : List PlaceId) → p.index < length net.places → IsStraight net (to_of net p) ps (from_of net p) → IsCircuit net (p ∷ ps)
closes net p ps l s = record { not_empty = omega arith; closed = (from_of net p, (l, refl, s.path)); leaves_once = once } where
  once : AllPairs (λ q r. from_of net q ≢ from_of net r) (p ∷ ps)
  once zero zero d m n = absurd (omega arith)
  once zero (suc k) d m n = λ e. s.leaves_not_end k d (omega arith) (sym e)
  once (suc j) zero d m n = absurd (omega arith)
  once (suc j) (suc k) d m n = s.leaves_once j k d (omega arith) (omega arith)

pub pass_back : CircuitsPassWherePathsLeadBack
pass_back net p l = (
  λ c. let t = through net p c.0 c.1 c.2 in (t.others, t.path),
  λ b. let s = split net b.0 (to_of net p) (from_of net p) b.1 in (p ∷ s.0, closes net p s.0 l s.2.path, (0, omega arith, refl)),
)
