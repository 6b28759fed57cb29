-- Lines over the dates of a net that potentials draw at a ratio: at most how late the firings of a transition come, number by
-- number (chapter 3).
use Rattle.std.specs.Prelude.{ℕ, ℤ, pos, ⊤, Bool, IsTrue, ◌+◌, ◌*◌, ◌<◌, ◌≤◌, ◌+ℤ◌, ◌*ℤ◌, ◌≤ℤ◌, length, All}
use Rattle.periodic_laws.specs.dioid.declared.dates.Date.{Date}
use Rattle.periodic_laws.specs.dioid.declared.dates.Date.TheVariants.{Early, At, Never}
use Rattle.periodic_laws.specs.dioid.Dates.{IsAtMostDate}
use Rattle.periodic_laws.specs.teg_net.declared.entries.PlaceId.{PlaceId}
use Rattle.periodic_laws.specs.teg_net.Limits.{greatest_input_date}
use Rattle.periodic_laws.specs.teg_net.Nets.{NetLists, IsNet, HasEndsInRange, IsInput}
use Rattle.periodic_laws.specs.teg_net.Circuits.{from_of, IsLive}
use Rattle.periodic_laws.specs.teg_net.Parts.{to_of}
use Rattle.periodic_laws.specs.teg_net.ReadyDates.{ready_date}
use Rattle.periodic_laws.specs.teg_net.ReducedTimes.{reduced_time}
use Rattle.periodic_laws.specs.teg_model.Datings.{IsLeastUnder}

-- the height of the line of transition t at number k: it stands at c plus the potential, and rises by a at each number
abbrev pub line_at : ℕ → ℤ → (ℕ → ℤ) → ℕ → ℕ → ℤ
line_at a c v t k = c +ℤ v t +ℤ pos (a * k)

-- the date comes, and b times it is at most this high
abbrev pub IsBelowLine : ℕ → ℤ → Date → Type 0
IsBelowLine b high Early = ⊤
IsBelowLine b high (At x) = (pos b *ℤ x) ≤ℤ high
IsBelowLine b high Never = ⊥

-- each place into the set of transitions comes from the set, and does not lift its end above the potential there
pub record ArePotentialsInto (net : NetLists) (inside : ℕ → Bool) (a b : ℕ) (v : ℕ → ℤ) : Type 0 where
  pub closed : (p : PlaceId) → p.index < length net.places → IsTrue (inside (to_of net p)) → IsTrue (inside (from_of net p))
  pub potentials : (p : PlaceId) → p.index < length net.places → IsTrue (inside (to_of net p)) → (reduced_time net a b p +ℤ v (from_of net p)) ≤ℤ v (to_of net p)

-- 0, the ready dates of the initial tokens and the releases of the inputs are below the lines of the set
pub record AreStartsBelow (net : NetLists) (u : ℕ → ℕ → Date) (inside : ℕ → Bool) (a b : ℕ) (c : ℤ) (v : ℕ → ℤ) : Type 0 where
  pub from_zero : (t : ℕ) → IsTrue (inside t) → pos 0 ≤ℤ line_at a c v t 1
  pub ready : All (λ p. IsTrue (inside p.to.index) → (k : ℕ) → 1 ≤ k → k ≤ p.tokens → pos (b * ready_date p k) ≤ℤ line_at a c v p.to.index k) net.places
  pub released : (t k : ℕ) → IsTrue (inside t) → IsInput net t → 1 ≤ k → IsBelowLine b (line_at a c v t k) (u t k)

-- where the starts are below the lines, each least date of the set is
abbrev pub PotentialsBoundDates : Type 0
PotentialsBoundDates =
    (net : NetLists) → HasEndsInRange net → IsLive net → (u x : ℕ → ℕ → Date) → IsLeastUnder net u x
    → (inside : ℕ → Bool) (a b : ℕ) (c : ℤ) (v : ℕ → ℤ) → ArePotentialsInto net inside a b v → AreStartsBelow net u inside a b c v
    → (t k : ℕ) → t < length net.transitions → 1 ≤ k → IsTrue (inside t) → IsBelowLine b (line_at a c v t k) (x t k)

-- the starts of a net whose inputs wait for nothing are below the lines that stand at b times the greatest ready date, and by
-- as much more as the potentials of the set are below 0
abbrev pub StartsHaveLines : Type 0
StartsHaveLines =
    (net : NetLists) → IsNet net → (u : ℕ → ℕ → Date) (inside : ℕ → Bool) (a b low : ℕ) (v : ℕ → ℤ)
    → ((t k : ℕ) → IsTrue (inside t) → IsInput net t → 1 ≤ k → IsAtMostDate (u t k) (At (pos 0)))
    → ((t : ℕ) → IsTrue (inside t) → pos 0 ≤ℤ (v t +ℤ pos low))
    → AreStartsBelow net u inside a b (pos (b * greatest_input_date + low)) v
