use Rattle.std.proofs.Common.{ap, ◌∙◌, refl, subst}
use Rattle.teg_settle.specs.LimitRefusals.{IsRightSettleRefusal}
use Rattle.teg_date_commands.specs.CommandDates.{too_long_text}
use Rattle.teg_transfer.specs.TimesFromInputs.{TimesSettlePast}
use Rattle.teg_date_commands.proofs.transfer.tell_too_long.Goals as goal

pub returns-in_ok-text-in-TooLong : goal.returns-in_ok-text-in-TooLong
returns-in_ok-text-in-TooLong c =
    let right = subst (IsRightSettleRefusal (TimesSettlePast c.args.net.now c.args.limit) c.args.limit) c.in-TooLong.is c.requires in
    (refl, right.1, c.in_ok-text-in-TooLong.ensures.text ∙ ap too_long_text right.0)
