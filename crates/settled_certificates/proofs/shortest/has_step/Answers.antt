use Rattle.std.proofs.Common.{refl}
use Rattle.std.specs.Prelude.{pos}
use Rattle.settled_certificates.proofs.shortest.has_step.Goals as goal

pub returns-in-Any : goal.returns-in-Any
returns-in-Any c = (λ e. (pos 0, rw c.in-Any.is tt), λ h. refl)
