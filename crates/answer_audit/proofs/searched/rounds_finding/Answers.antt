use Rattle.std.proofs.Common.{refl}
use Rattle.round_check.specs.OtherRounds.{TellsOther}
use Rattle.answer_audit.proofs.searched.rounds_finding.Goals as goal

pub returns-in-Some : goal.returns-in-Some
returns-in-Some c =
    let other = c.in-Some.other in
    let told : TellsOther c.args.net.now c.args.text.now other = rw c.in-Some.is at c.in_ok-other.ensures.other in
    let not_shown = rw c.in-Some.is at c.in_ok-other.ensures.not_shown in
    (other, refl, told, λ shown. not_shown refl shown.0 shown.1)
