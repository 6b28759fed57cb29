use Rattle.std.proofs.Common.{◌≡◌, take, []}
use Rattle.std.specs.Prelude.{sum_by}
use Rattle.run_laws.specs.Earliest.{tokens_in}
use Rattle.teg_replay.proofs.game.initial_tokens.Given as goal

abbrev pub invariant-loop-place : goal.invariant-loop-place
invariant-loop-place l = l.tokens ≡ sum_by (tokens_in []) (take l.place-index l.net.places)
