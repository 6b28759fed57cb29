use Rattle.std.proofs.Common.{ℕ, ◌<◌, get_or}
use Rattle.teg_net.specs.Circuits.{no_place}
use Rattle.latest_certificates.specs.ToldStarts.{IsTokenKept}
use Rattle.latest_certificates.proofs.plan.keeps_tokens.Given as goal

abbrev pub invariant-loop-index : goal.invariant-loop-index
invariant-loop-index l = (q : ℕ) → q < l.index → IsTokenKept l.told l.number (get_or l.told.net.places q no_place)
