-- What a certificate shows of a net, from the certificate alone (chapters 2 and 3).
use Rattle.std.specs.Prelude.{ℕ, ℤ, ◌*◌, ◌<◌, ◌≤◌, ◌+ℤ◌, ◌≤ℤ◌, List, All, length, slice_index_or}
use Rattle.teg_net.specs.declared.entries.PlaceId.{PlaceId}
use Rattle.teg_net.specs.declared.answers.PartAnswer.{PartAnswer}
use Rattle.teg_net.specs.declared.answers.PartAnswer.TheVariants.{NoCircuit, Best}
use Rattle.teg_net.specs.declared.answers.CycleAnswer.{CycleAnswer}
use Rattle.teg_net.specs.Nets.{NetLists, HasEndsInRange}
use Rattle.teg_net.specs.Circuits.{IsCircuit, from_of, time_of, tokens_of}
use Rattle.teg_net.specs.Parts.{IsPlaceOfPart, to_of}
use Rattle.teg_net.specs.ReducedTimes.{reduced_time}
use Rattle.teg_net.specs.GreatestRatios.{IsGreatestRatio, HasNoCircuit, IsCycleTime}
use Rattle.teg_net.specs.Certificates.{IsCertificate}

-- the ratio told is the greatest over the circuits in the part, or there is none
abbrev pub TellsOfPart : NetLists → List ℕ → ℕ → PartAnswer → Type 0
TellsOfPart net part_of part NoCircuit = HasNoCircuit net (IsPlaceOfPart net part_of part)
TellsOfPart net part_of part (Best ratio circuit potentials) = IsGreatestRatio net (IsPlaceOfPart net part_of part) ratio

-- the best part's ratio is the greatest over all circuits of the net; none is named exactly where the net has no circuit
abbrev pub CertificatesTellOfNets : Type 0
CertificatesTellOfNets = (net : NetLists) (answer : CycleAnswer) → HasEndsInRange net → IsCertificate net answer → IsCycleTime net answer.parts.items answer.best

-- a certified answer tells of each part the greatest ratio over the circuits in it, or that there is none
abbrev pub CertificatesTellOfParts : Type 0
CertificatesTellOfParts =
    (net : NetLists) (answer : CycleAnswer) → IsCertificate net answer
    → (k : ℕ) → k < length answer.parts.items → TellsOfPart net answer.part_of.items k (slice_index_or answer.parts.items k NoCircuit)

-- potentials that no place of a part exceeds at the ratio a / b bound the ratio of each circuit in the part
abbrev pub PotentialsBoundRatios : Type 0
PotentialsBoundRatios =
    (net : NetLists) (part_of : List ℕ) (part a b : ℕ) (v : ℕ → ℤ)
    → ((p : PlaceId) → IsPlaceOfPart net part_of part p → (reduced_time net a b p +ℤ v (from_of net p)) ≤ℤ v (to_of net p))
    → (ps : List PlaceId) → IsCircuit net ps → All (IsPlaceOfPart net part_of part) ps → time_of net ps * b ≤ a * tokens_of net ps
