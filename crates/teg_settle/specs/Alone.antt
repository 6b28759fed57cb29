-- Working definitions of releases of one input alone.
use Rattle.std.specs.Prelude.{ℕ, ◌≡◌}
use Rattle.teg_net.specs.Nets.{NetLists}
use Rattle.teg_settle.specs.declared.releases.Tokens.TheVariants.{Absent}
use Rattle.teg_settle.specs.declared.releases.Releases.{Releases}
use Rattle.teg_settle.specs.InitialReleases.{AreWaits, wait_from}
use Rattle.list_spans.specs.Spans.{AreSpans}

-- the releases are the input alone, with from where on lists go on evenly
pub record IsReleasedAlone (net : NetLists) (input : ℕ) (r : Releases) : Type 0 where
  pub tokens : r.tokens ≡ Absent
  pub waits : AreWaits net (wait_from net input) r.waits.items
  pub spans : AreSpans net r.spans.items
