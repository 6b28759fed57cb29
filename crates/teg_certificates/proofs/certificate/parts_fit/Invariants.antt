use Rattle.std.proofs.Common.{ℕ, ◌<◌, get_or}
use Rattle.teg_net.specs.declared.answers.PartAnswer.TheVariants.{NoCircuit}
use Rattle.teg_net.specs.Certificates.{IsPartCertificate}
use Rattle.teg_certificates.proofs.certificate.parts_fit.Given as goal

abbrev pub invariant-loop-number : goal.invariant-loop-number
invariant-loop-number l = (k : ℕ) → k < l.number → IsPartCertificate l.net l.part_of k (get_or l.answers k NoCircuit)
