use Rattle.std.proofs.Common.{rules}
use Rattle.teg_bound.specs.BoundTexts.{IsCause}
use Rattle.teg_pace_commands.proofs.bound.tell_bound.Goals as goal

pub tell_no_number-requires : goal.tell_no_number-requires
tell_no_number-requires c =
    let cause : IsCause c.settling_bound-answer.result = search rules in record { right = rw c.net-2.ensures.net at c.settling_bound-answer.ensures; cause = cause }
