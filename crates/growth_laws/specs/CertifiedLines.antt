-- Potentials of the parts of a certificate, brought to one ratio and lifted part by part: potentials of all transitions together.
use Rattle.std.specs.Prelude.{ℕ, ℤ, pos, negsuc, Bool, IsTrue, ◌*◌, ◌/◌, ◌<◌, ◌≤◌, ◌≡◌, ◌+ℤ◌, ◌*ℤ◌, ◌≤ℤ◌, Some, length, slice_index, slice_index_or}
use Rattle.periodic_laws.specs.teg_net.declared.entries.PlaceId.{PlaceId}
use Rattle.periodic_laws.specs.teg_net.declared.answers.PartAnswer.{PartAnswer}
use Rattle.periodic_laws.specs.teg_net.declared.answers.PartAnswer.TheVariants.{NoCircuit, Best}
use Rattle.periodic_laws.specs.teg_net.declared.answers.CycleAnswer.{CycleAnswer}
use Rattle.periodic_laws.specs.teg_net.Nets.{NetLists, HasEndsInRange}
use Rattle.periodic_laws.specs.teg_net.Ratios.{Fraction}
use Rattle.periodic_laws.specs.teg_net.Circuits.{from_of}
use Rattle.periodic_laws.specs.teg_net.Parts.{to_of}
use Rattle.periodic_laws.specs.teg_net.ReducedTimes.{reduced_time}
use Rattle.periodic_laws.specs.teg_net.GreatestRatios.{ratio_at}
use Rattle.periodic_laws.specs.teg_net.Certificates.{potential_at, IsCertificate}
use Rattle.growth_laws.specs.DateLines.{ArePotentialsInto}

-- the quotient by n, rounded down
abbrev pub floor_over : ℕ → ℤ → ℤ
floor_over n (pos m) = pos (m / n)
floor_over n (negsuc m) = negsuc (m / n)

-- b times what a part's answer tells for each token, rounded down; 0 where it tells no ratio
abbrev pub potential_by : ℕ → PartAnswer → ℕ → ℤ
potential_by b NoCircuit t = pos 0
potential_by b (Best ratio circuit potentials) t = floor_over ratio.tokens (pos b *ℤ potential_at potentials.items t)

-- the number of the transition's part
abbrev pub part_at : CycleAnswer → ℕ → ℕ
part_at answer t = slice_index answer.part_of.items t

-- by the answer of the transition's part
abbrev pub own_potential : ℕ → CycleAnswer → ℕ → ℤ
own_potential b answer t = potential_by b (slice_index_or answer.parts.items (part_at answer t) NoCircuit) t

-- and lifted by so much with each number of a part
abbrev pub lifted_potential : ℕ → ℕ → CycleAnswer → ℕ → ℤ
lifted_potential b lift answer t = own_potential b answer t +ℤ pos (lift * part_at answer t)

-- places into the set come from it; no part in it tells a ratio above a / b; and the lift is enough for each place between parts
pub record IsLiftInto (net : NetLists) (answer : CycleAnswer) (inside : ℕ → Bool) (a b lift : ℕ) : Type 0 where
  pub closed : (p : PlaceId) → p.index < length net.places → IsTrue (inside (to_of net p)) → IsTrue (inside (from_of net p))
  pub ratios : (t : ℕ) (q : Fraction) → IsTrue (inside t) → ratio_at answer.parts.items (part_at answer t) ≡ Some q → q.time * b ≤ a * q.tokens
  pub lifts : (p : PlaceId) → p.index < length net.places → IsTrue (inside (to_of net p)) → part_at answer (from_of net p) < part_at answer (to_of net p)
      → (reduced_time net a b p +ℤ own_potential b answer (from_of net p)) ≤ℤ (own_potential b answer (to_of net p) +ℤ pos lift)

-- then no place into the set exceeds the lifted potentials
abbrev pub CertificatesDrawLines : Type 0
CertificatesDrawLines = (net : NetLists) (answer : CycleAnswer) → HasEndsInRange net → IsCertificate net answer
    → (inside : ℕ → Bool) (a b lift : ℕ) → IsLiftInto net answer inside a b lift → ArePotentialsInto net inside a b (lifted_potential b lift answer)
