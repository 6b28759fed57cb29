-- Working definitions of what the search for the times of walks from an input finds.
use Rattle.std.specs.Prelude.{ℕ, slice_index}
use Rattle.teg_net.specs.Nets.{NetLists, IsNet}
use Rattle.walk_times.specs.Reached.{IsPartFrom}
use Rattle.teg_settle.specs.declared.limited.WalksFound.{WalksFound}
use Rattle.teg_settle.specs.Alone.{IsReleasedAlone}
use Rattle.teg_settle.specs.ShortestForms.{IsFound}

-- the part of the net that the walks from the input reach, the input alone as its releases, and rows that show the shortest form there
pub record AreWalksFound (net : NetLists) (input : ℕ) (w : WalksFound) : Type 0 where
  pub rules : IsNet net
  pub part : IsPartFrom net input w.part
  pub alone : IsReleasedAlone w.part.net (slice_index w.part.new.items input) w.releases
  pub found : IsFound w.part.net w.releases w.found
