use Rattle.std.proofs.Common.{◌≡◌, ◌≤◌, take}
use Rattle.token_shares.specs.KeptCuts.{times_passed}
use Rattle.token_shares.proofs.cuts.times_passed.Given as goal

abbrev pub invariant-loop-id : goal.invariant-loop-id
invariant-loop-id l = (l.times ≡ times_passed l.place (take l.id-index l.path)) × (l.times ≤ l.id-index)
