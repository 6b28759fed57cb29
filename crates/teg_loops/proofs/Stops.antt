-- The transitions that a path comes to.
use Rattle.std.proofs.Common.{ℕ, zero, suc, ◌+◌, ◌<◌, ◌≤◌, ◌≡◌, List, [], ◌∷◌, length, get_or, take, drop, refl, sym, arith}
use Rattle.teg_net.specs.declared.entries.PlaceId.{PlaceId}
use Rattle.teg_net.specs.Nets.{NetLists}
use Rattle.teg_net.specs.Circuits.{place_at, from_of, IsPathBetween}
use Rattle.teg_loops.specs.Loops.{EndsBelow}

-- the transitions that a path comes to: where each place begins, and at last where the path ends
abbrev pub met : NetLists → ℕ → List PlaceId → List ℕ
met net b [] = b ∷ []
met net b (p ∷ ps) = from_of net p ∷ met net b ps

-- they are one more than the places
pub met_length : (net : NetLists) (b : ℕ) (ps : List PlaceId) → length (met net b ps) ≡ length ps + 1
met_length net b [] = refl
met_length net b (p ∷ ps) = let e = met_length net b ps in omega arith

-- up to the i-th of them leads a path
pub to_met : (net : NetLists) (ps : List PlaceId) (a b i : ℕ) → IsPathBetween net a ps b → i ≤ length ps → IsPathBetween net a (take i ps) (get_or (met net b ps) i 0)
to_met net [] a b zero h l = h
to_met net [] a b (suc i) h l = absurd (omega arith)
to_met net (p ∷ ps) a b zero h l = sym h.1
to_met net (p ∷ ps) a b (suc i) h l = (h.0, h.1, to_met net ps (place_at net p).to.index b i h.2 (omega arith))

-- from the i-th of them on leads a path
pub from_met : (net : NetLists) (ps : List PlaceId) (a b i : ℕ) → IsPathBetween net a ps b → i ≤ length ps → IsPathBetween net (get_or (met net b ps) i 0) (drop i ps) b
from_met net [] a b zero h l = refl
from_met net [] a b (suc i) h l = absurd (omega arith)
from_met net (p ∷ ps) a b zero h l = (h.0, refl, h.2)
from_met net (p ∷ ps) a b (suc i) h l = from_met net ps (place_at net p).to.index b i h.2 (omega arith)

-- the i-th is where the i-th place begins
pub met_at : (net : NetLists) (b : ℕ) (ps : List PlaceId) (i : ℕ) (d : PlaceId) → i < length ps → get_or (met net b ps) i 0 ≡ from_of net (get_or ps i d)
met_at net b [] i d l = absurd (omega arith)
met_at net b (p ∷ ps) zero d l = refl
met_at net b (p ∷ ps) (suc i) d l = met_at net b ps i d (omega arith)

-- each of them is below n
pub met_below : (net : NetLists) (n : ℕ) (ps : List PlaceId) (a b i : ℕ) → EndsBelow net n → b < n → IsPathBetween net a ps b → i ≤ length ps → get_or (met net b ps) i 0 < n
met_below net n [] a b zero e lb h l = lb
met_below net n [] a b (suc i) e lb h l = absurd (omega arith)
met_below net n (p ∷ ps) a b zero e lb h l = e.from_in p h.0
met_below net n (p ∷ ps) a b (suc i) e lb h l = met_below net n ps (place_at net p).to.index b i e lb h.2 (omega arith)

-- the first is where the path begins
pub first_met : (net : NetLists) (ps : List PlaceId) (a b : ℕ) → IsPathBetween net a ps b → get_or (met net b ps) 0 0 ≡ a
first_met net [] a b h = sym h
first_met net (p ∷ ps) a b h = h.1

-- the last is where it ends
pub last_met : (net : NetLists) (ps : List PlaceId) (b : ℕ) → get_or (met net b ps) (length ps) 0 ≡ b
last_met net [] b = refl
last_met net (p ∷ ps) b = last_met net ps b
