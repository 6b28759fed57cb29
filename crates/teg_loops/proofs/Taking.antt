-- Loops taken out of a path.
use Rattle.std.proofs.Common.{ℕ, zero, suc, ◌+◌, ◌*◌, ◌<◌, ◌≤◌, ◌≡◌, List, [], ◌∷◌, ◌++◌, length, ap, arith, ⊎_elim}
use Rattle.std.specs.Prelude.{sum_by}
use Rattle.std.proofs.lemmas.Bool.{cases_lt}
use Rattle.std.proofs.lemmas.List.{length-append}
use Rattle.std.proofs.lemmas.List.Sums.{sum_by-append, sum_by-cons}
use Rattle.teg_net.specs.declared.entries.PlaceId.{PlaceId}
use Rattle.teg_net.specs.Nets.{NetLists}
use Rattle.teg_net.specs.Circuits.{place_at, IsPathBetween, IsCircuit, time_of, tokens_of}
use Rattle.teg_net.proofs.PathLaws.{IsPathBetween-append}
use Rattle.teg_loops.specs.Loops.{EndsBelow, HasLoop}
use Rattle.teg_loops.proofs.Straight.{looped, closed_looped}

-- what is left without the loop is still a path
pub rest_leads : (net : NetLists) (a b : ℕ) (ps : List PlaceId) → (h : HasLoop net a b ps) → IsPathBetween net a (h.before ++ h.after) b
rest_leads net a b ps h = IsPathBetween-append net h.before h.after a h.at b h.first h.last

-- each sum is that of the rest plus that of the loop
pub loop_sum : (f : PlaceId → ℕ) (net : NetLists) (a b : ℕ) (ps : List PlaceId) → (h : HasLoop net a b ps) → sum_by f ps ≡ sum_by f (h.before ++ h.after) + sum_by f h.loop
loop_sum f net a b ps h =
    let one = sum_by-append f h.before (h.loop ++ h.after) in
    let two = sum_by-append f h.loop h.after in
    let three = sum_by-append f h.before h.after in
    let e : sum_by f ps ≡ sum_by f (h.before ++ (h.loop ++ h.after)) = ap (sum_by f) h.is in
    omega arith

-- and so are the places
pub rest_shorter : (net : NetLists) (a b : ℕ) (ps : List PlaceId) → (h : HasLoop net a b ps) → length (h.before ++ h.after) + length h.loop ≡ length ps
rest_shorter net a b ps h =
    let one = length-append h.before (h.loop ++ h.after) in
    let two = length-append h.loop h.after in
    let three = length-append h.before h.after in
    let e : length ps ≡ length (h.before ++ (h.loop ++ h.after)) = ap (λ (z : List PlaceId). length z) h.is in
    omega arith

-- induction by loops: short paths, and a path with a loop by what is left without it
by_loops_on : (net : NetLists) (n a b : ℕ) (Q : List PlaceId → Type 0) → EndsBelow net n → b < n
    → ((ps : List PlaceId) → IsPathBetween net a ps b → length ps < n → Q ps)
    → ((ps : List PlaceId) → IsPathBetween net a ps b → (h : HasLoop net a b ps) → Q (h.before ++ h.after) → Q ps)
    → (fuel : ℕ) (ps : List PlaceId) → length ps < fuel → IsPathBetween net a ps b → Q ps
by_loops_on net n a b Q e lb short more zero ps l h = absurd (omega arith)
by_loops_on net n a b Q e lb short more (suc fuel) ps l h = ⊎_elim
    (λ low. short ps h low)
    (λ far.
    let loop : HasLoop net a b ps = looped net n ps a b e lb h far in
    let less = rest_shorter net a b ps loop in
    let some : 0 < length loop.loop = loop.circuit.not_empty in
    more ps h loop (by_loops_on net n a b Q e lb short more fuel (loop.before ++ loop.after) (omega arith) (rest_leads net a b ps loop)))
    (cases_lt (length ps) n)

pub by_loops : (net : NetLists) (n a b : ℕ) (Q : List PlaceId → Type 0) → EndsBelow net n → b < n
    → ((ps : List PlaceId) → IsPathBetween net a ps b → length ps < n → Q ps)
    → ((ps : List PlaceId) → IsPathBetween net a ps b → (h : HasLoop net a b ps) → Q (h.before ++ h.after) → Q ps)
    → (ps : List PlaceId) → IsPathBetween net a ps b → Q ps
by_loops net n a b Q e lb short more ps h = by_loops_on net n a b Q e lb short more (suc (length ps)) ps (omega arith) h

-- a path of fewer places than there are transitions
pub shortened : (net : NetLists) (n a b : ℕ) → EndsBelow net n → b < n → (ps : List PlaceId) → IsPathBetween net a ps b → (qs : List PlaceId) × IsPathBetween net a qs b × (length qs < n)
shortened net n a b e lb ps h = by_loops net n a b (λ _. (qs : List PlaceId) × IsPathBetween net a qs b × (length qs < n)) e lb (λ qs g l. (qs, g, l)) (λ qs g loop old. old) ps h

-- each of the sums is at most so many times the length
pub sum_most : (f : PlaceId → ℕ) (m : ℕ) (net : NetLists) → ((id : PlaceId) → id.index < length net.places → f id ≤ m)
    → (ps : List PlaceId) (a b : ℕ) → IsPathBetween net a ps b → sum_by f ps ≤ length ps * m
sum_most f m net most [] a b h = omega arith
sum_most f m net most (p ∷ ps) a b h =
    let here = most p h.0 in
    let rest = sum_most f m net most ps (place_at net p).to.index b h.2 in
    let cons = sum_by-cons f p ps in
    let wide : length (p ∷ ps) * m ≡ m + length ps * m = omega arith in
    omega arith

-- what holds of circuits holds of closed paths
pub record Keeps (net : NetLists) (alpha beta : ℕ) (ps : List PlaceId) : Type 0 where
  pub some : 1 ≤ tokens_of net ps
  pub ratio : beta * time_of net ps ≤ alpha * tokens_of net ps

closed_on : (net : NetLists) (alpha beta : ℕ) → ((ps : List PlaceId) → IsCircuit net ps → Keeps net alpha beta ps)
    → (fuel : ℕ) (ps : List PlaceId) (a : ℕ) → length ps < fuel → IsPathBetween net a ps a → 0 < length ps → Keeps net alpha beta ps
closed_on net alpha beta each zero ps a l h some = absurd (omega arith)
closed_on net alpha beta each (suc fuel) ps a l h some =
    let loop : HasLoop net a a ps = closed_looped net ps a h some in
    let own : Keeps net alpha beta loop.loop = each loop.loop loop.circuit in
    let less = rest_shorter net a a ps loop in
    let not_empty : 0 < length loop.loop = loop.circuit.not_empty in
    let time : time_of net ps ≡ time_of net (loop.before ++ loop.after) + time_of net loop.loop = loop_sum (λ p. (place_at net p).hold) net a a ps loop in
    let tokens : tokens_of net ps ≡ tokens_of net (loop.before ++ loop.after) + tokens_of net loop.loop = loop_sum (λ p. (place_at net p).tokens) net a a ps loop in
    let one = own.some in
    let two = own.ratio in
    ⊎_elim
    (λ more.
    let old : Keeps net alpha beta (loop.before ++ loop.after) = closed_on net alpha beta each fuel (loop.before ++ loop.after) a (omega arith) (rest_leads net a a ps loop) more in
    let three = old.ratio in
    added net alpha beta ps (loop.before ++ loop.after) loop.loop time tokens one two three)
    (λ none. added net alpha beta ps (loop.before ++ loop.after) loop.loop time tokens one two (empty (loop.before ++ loop.after) (omega arith)))
    (cases_lt 0 (length (loop.before ++ loop.after))) where
      added : (net : NetLists) (alpha beta : ℕ) (ps qs loop : List PlaceId) → time_of net ps ≡ time_of net qs + time_of net loop → tokens_of net ps ≡ tokens_of net qs + tokens_of net loop
          → 1 ≤ tokens_of net loop → beta * time_of net loop ≤ alpha * tokens_of net loop → beta * time_of net qs ≤ alpha * tokens_of net qs → Keeps net alpha beta ps
      added net alpha beta ps qs loop t u one two three =
          let left : beta * time_of net ps ≡ beta * time_of net qs + beta * time_of net loop = rw t (grind arith) in
          let right : alpha * tokens_of net ps ≡ alpha * tokens_of net qs + alpha * tokens_of net loop = rw u (grind arith) in
          record { some = omega arith; ratio = omega arith }

      empty : (qs : List PlaceId) → length qs ≡ 0 → beta * time_of net qs ≤ alpha * tokens_of net qs
      empty [] e = omega arith
      empty (q ∷ qs) e = absurd (omega arith)

pub closed_keeps : (net : NetLists) (alpha beta : ℕ) → ((ps : List PlaceId) → IsCircuit net ps → Keeps net alpha beta ps)
    → (ps : List PlaceId) (a : ℕ) → IsPathBetween net a ps a → 0 < length ps → Keeps net alpha beta ps
closed_keeps net alpha beta each ps a h some = closed_on net alpha beta each (suc (length ps)) ps a (omega arith) h some
