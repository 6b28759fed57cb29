use Rattle.std.proofs.Common.{◌≡◌, ◌≤◌, length, map, take}
use Rattle.std.specs.Prelude.{All}
use Rattle.token_shares.specs.KeptCuts.{times_passed}
use Rattle.token_shares.proofs.cuts.all_passed.Given as goal

abbrev pub invariant-loop-place : goal.invariant-loop-place
invariant-loop-place l = (l.passes.items ≡ map (λ p. times_passed p l.path) (take l.place-index l.places)) × All (λ n. n ≤ length l.path) l.passes.items
