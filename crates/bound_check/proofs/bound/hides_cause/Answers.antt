use Rattle.bound_check.proofs.OneAnswer.{other_text}
use Rattle.bound_check.proofs.bound.hides_cause.Goals as goal

pub returns : goal.returns
returns c = λ yes. record {
  live = c.requires.live;
  not_shown = other_text c.args.net.now c.args.text.now c.args.cause c.requires.cause (c.tells_other.ensures yes);
}
