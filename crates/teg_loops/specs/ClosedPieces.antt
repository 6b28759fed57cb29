-- Closed pieces of paths with a multiple of a number of tokens.
use Rattle.std.specs.Prelude.{ℕ, ◌+◌, ◌*◌, ◌<◌, ◌≤◌, ◌≡◌, List, ◌++◌, length}
use Rattle.teg_net.specs.declared.entries.PlaceId.{PlaceId}
use Rattle.teg_net.specs.Nets.{NetLists}
use Rattle.teg_net.specs.Circuits.{IsPathBetween, tokens_of}

-- a closed piece of the path from a to b, within its first `most` places, that has a multiple of m tokens
pub record HasRound (net : NetLists) (a b m most : ℕ) (ps : List PlaceId) : Type 0 where
  pub before : List PlaceId
  pub round : List PlaceId
  pub after : List PlaceId
  pub at : ℕ
  pub times : ℕ
  pub is : ps ≡ before ++ (round ++ after)
  pub first : IsPathBetween net a before at
  pub closed : IsPathBetween net at round at
  pub last : IsPathBetween net at after b
  pub some : 0 < length round
  pub tokens : tokens_of net round ≡ times * m
  pub early : length before + length round ≤ most
