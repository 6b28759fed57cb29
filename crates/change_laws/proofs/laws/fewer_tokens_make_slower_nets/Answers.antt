use Rattle.change_laws.proofs.Changing.{fewer_tokens}
use Rattle.change_laws.proofs.laws.fewer_tokens_make_slower_nets.Goals as goal

pub returns : goal.returns
returns c = fewer_tokens
