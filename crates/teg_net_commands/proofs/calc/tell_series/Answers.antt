use Rattle.std.proofs.Common.{inl, inr, refl}
use Rattle.teg_outcome.proofs.Telling.{tells_weaker}
use Rattle.teg_net_commands.proofs.calc.tell_series.Goals as goal

pub returns-in_ok-text-in-Ok : goal.returns-in_ok-text-in-Ok
returns-in_ok-text-in-Ok c = inl (
  refl,
  (
    c.in-Ok.series,
    record { meaning = c.in-Ok.ensures.meaning; series = c.in-Ok.ensures.series; evaluated = c.in-Ok.ensures.answer },
    c.in_ok-text-in-Ok.ensures.text,
  ),
)

pub returns-in-Err : goal.returns-in-Err
returns-in-Err c = tells_weaker _ _ _ (λ verdict text h. inr (c.in-Err.refusal, c.in-Err.ensures.answer, h)) c.refuse_series.ensures
