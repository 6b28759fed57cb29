use Rattle.bound_check.proofs.OneAnswer.{cause_text_not_shown}
use Rattle.bound_check.proofs.bound.invents_cause.Goals as goal

pub returns : goal.returns
returns c = λ yes. record {
  live = c.requires.live;
  not_shown = cause_text_not_shown c.args.net.now c.args.text.now c.args.cause c.requires.bounded (c.tells_cause.ensures.0 yes);
}
