-- The settled forms of two nets bound the dates by holds between theirs.
use Rattle.std.proofs.Common.{ℕ, ◌<◌, ◌≡◌, length, refl, sym}
use Rattle.teg_model.proofs.dioid_proofs.DateOrder.{at_most_refl}
use Rattle.teg_model.specs.dioid.declared.dates.Date.{Date}
use Rattle.teg_model.specs.Datings.{listed_releases}
use Rattle.teg_model.specs.LiveRanks.{HasEndsInRange}
use Rattle.teg_net.specs.Circuits.{IsLive}
use Rattle.teg_net.specs.Nets.{NetLists}
use Rattle.settled_laws.specs.OneSettledForm.{FormsTellDates}
use Rattle.settled_laws.specs.SettledForms.{SettledForm, settled_date, IsSettledFormOf}
use Rattle.planning_laws.specs.VaryingHolds.{VaryingHoldsLieBetween, AreHoldsBetween, AreNoLater, IsDatingWithHolds, IsBetween}

-- the releases by the lists are those of a net with the same lists
same_releases : (net other : NetLists) → other.inputs ≡ net.inputs → (t k : ℕ) → listed_releases net t k ≡ listed_releases other t k
same_releases net other e t k = rw e refl

pub between_forms : VaryingHoldsLieBetween → FormsTellDates → (low high : NetLists) → HasEndsInRange high → IsLive high → high.inputs ≡ low.inputs
    → (f g : SettledForm) → IsSettledFormOf low f → IsSettledFormOf high g → (holds : ℕ → ℕ → ℕ) (x : ℕ → ℕ → Date)
    → AreHoldsBetween low high holds → IsDatingWithHolds low holds (listed_releases low) x
    → IsBetween (length low.transitions) (settled_date f) x (settled_date g)
between_forms between tell low high ends live inputs f g a b holds x h d t k l o =
    let early : AreNoLater low (listed_releases low) (listed_releases low) = λ s j one is. at_most_refl (listed_releases low s j) in
    let late : AreNoLater low (listed_releases low) (listed_releases high) = λ s j one is. rw (sym (same_releases low high inputs s j)) (at_most_refl (listed_releases low s j)) in
    let both = between low high holds ends live h (listed_releases low) (listed_releases low) (listed_releases high) a.0 x b.0 early late a.1 d b.1 t k l o in
    let there : t < length high.transitions = rw (sym h.transitions) l in
    (rw (tell (length low.transitions) f a.0 a.2.stands t k l o) both.0, rw (tell (length high.transitions) g b.0 b.2.stands t k there o) both.1)
