-- Working definitions of what a search is asked for.
use Rattle.std.specs.Prelude.{ℕ, ◌≤◌, List}
use Rattle.teg_net.specs.Nets.{NetLists}
use Rattle.teg_check.specs.Ranks.{IsRanking}
use Rattle.teg_settle.specs.declared.releases.Releases.{Releases}
use Rattle.teg_settle.specs.ComparedRows.{IsReady}

-- a live net with its ranks, releases of its inputs, and a number that no place's tokens exceed, within the limit of tokens
pub record IsAsked (net : NetLists) (ranks : List ℕ) (r : Releases) (most : ℕ) : Type 0 where
  pub stands : IsRanking net ranks
  pub ready : IsReady net r most
  pub few : most ≤ 1000
