-- What laws say of answers of calls.
use Rattle.std.proofs.Common.{ℕ, ◌*◌, ◌<◌, ◌≤◌, ◌≡◌, List, length, subst}
use Rattle.std.specs.Prelude.{Option, Some, None}
use Rattle.teg_model.proofs.dioid_proofs.DateOrder.{at_most_refl}
use Rattle.teg_model.specs.dioid.declared.dates.Date.{Date}
use Rattle.teg_model.specs.dioid.Dates.{IsAtMostDate}
use Rattle.teg_model.specs.Datings.{listed_releases, IsLeastUnder}
use Rattle.teg_model.specs.LiveRanks.{HasEndsInRange}
use Rattle.teg_net.specs.declared.answers.CycleAnswer.{CycleAnswer}
use Rattle.teg_net.specs.declared.answers.PartAnswer.{PartAnswer}
use Rattle.teg_net.specs.Circuits.{IsLive}
use Rattle.teg_net.specs.GreatestRatios.{IsAnyPlace, IsCycleTime, IsGreatestRatio}
use Rattle.teg_net.specs.Nets.{NetLists, IsNet, IsInput}
use Rattle.teg_net.specs.Ratios.{Fraction}
use Rattle.teg_certificates.specs.BestRatios.{best_ratio_of, named_ratio}
use Rattle.teg_bound.specs.PeriodicBounds.{IsBoundOf}
use Rattle.cyclicity_laws.specs.CriticalParts.{IsStronglyConnected}
use Rattle.settled_laws.specs.OneSettledForm.{FormsTellDates}
use Rattle.settled_laws.specs.SettledForms.{SettledForm, settled_date, IsSettledFormOf}
use Rattle.teg_settle.specs.walk_times.Transfers.{IsTransferOf}
use Rattle.change_laws.specs.SlowerNets.{IsSlowerNet, HasSlowerPlaces}
use Rattle.change_laws.proofs.Changing.{ready_of_tokens}
use Rattle.teg_model.proofs.OfNet.{net_ends}
use Rattle.teg_net.proofs.NetRules.{lists_of_inputs}
use Rattle.dating_laws.specs.SlowerNets.{SlowerNetsAreLater}
use Rattle.pace_laws.specs.SlowerNets.{SlowerNetsHaveMore}
use Rattle.io_laws.specs.InputOutput.{no_releases, IsOutput, DatesAreOutputsOfTransfers}

-- no date that the form of a net tells comes after that of a slower net with the same releases
pub forms_later : SlowerNetsAreLater → FormsTellDates → (net slower : NetLists) → IsNet slower → IsSlowerNet net slower
    → ((t k : ℕ) → listed_releases net t k ≡ listed_releases slower t k)
    → (f g : SettledForm) → IsSettledFormOf net f → IsSettledFormOf slower g
    → (t k : ℕ) → t < length net.transitions → 1 ≤ k → IsAtMostDate (settled_date f t k) (settled_date g t k)
forms_later later tell net slower ok s same f g a b t k l o =
    let low = later net slower (net_ends slower ok) (ready_of_tokens slower ok) s (listed_releases net) (listed_releases slower) a.0 b.0 (λ i j one in'. rw (same i j) (at_most_refl (listed_releases slower i j))) a.1 b.1 t k l o in
    let here : t < length slower.transitions = subst (λ ts. t < length ts) s.transitions l in
    rw (tell (length net.transitions) f a.0 a.2.stands t k l o) (rw (tell (length slower.transitions) g b.0 b.2.stands t k here o) low)

-- the best ratio of an answer on cycle times is the greatest
best_is : (net : NetLists) (answers : List PartAnswer) (best : Option ℕ) (r : Fraction) → IsCycleTime net answers best → named_ratio answers best ≡ Some r → IsGreatestRatio net IsAnyPlace r
best_is net answers None r h e = let none : None ≡ Some r = e in cc
best_is net answers (Some k) r h e = let same : h.0 ≡ r = cc (h.1, e) in subst (IsGreatestRatio net IsAnyPlace) same h.2

-- the best ratio of a net is at most that of a slower one
pub ratios_rise : SlowerNetsHaveMore → (net slower : NetLists) → HasSlowerPlaces net slower
    → (a b : CycleAnswer) → IsCycleTime net a.parts.items a.best → IsCycleTime slower b.parts.items b.best
    → (r s : Fraction) → best_ratio_of a ≡ Some r → best_ratio_of b ≡ Some s → r.time * s.tokens ≤ s.time * r.tokens
ratios_rise law net slower h a b g k r s e f =
    law net slower r s h (best_is net a.parts.items a.best r g e) (best_is slower b.parts.items b.best s k f)

-- the transfer of the only input tells all dates
pub outputs_by : DatesAreOutputsOfTransfers → (net : NetLists) → HasEndsInRange net → IsLive net → (input : ℕ) → ((t : ℕ) → IsInput net t → t ≡ input)
    → (f : SettledForm) → IsTransferOf net input f → (x u y : ℕ → ℕ → Date) → IsLeastUnder net no_releases x → IsLeastUnder net u y
    → (t k : ℕ) → t < length net.transitions → 1 ≤ k → IsOutput net x u (λ i. settled_date f) t k (y t k)
outputs_by law net ends live input only f h x u y a b =
    let own : (i : ℕ) → IsInput net i → IsTransferOf net i f = λ i is. rw (only i is) h in
    law net ends live x u y (λ i. f) a b own

-- a live net for which a bound is told is strongly connected
pub connected : (net : NetLists) → IsNet net → IsLive net → (number : ℕ) (b : IsBoundOf net number) → IsStronglyConnected net b.ratio.time b.ratio.tokens
connected net ok live number b = record { ends = net_ends net ok; lists = lists_of_inputs net ok; live = live; no_input = b.alone.no_input; reaches = b.strong; ratio = b.greatest }
