-- What the checkers of slack show of a place is its slack.
use Rattle.std.proofs.Common.{ℕ, ◌<◌, List, length, subst, arith}
use Rattle.std.specs.Prelude.{ℤ, Contains}
use Rattle.teg_net.specs.declared.entries.PlaceId.{PlaceId}
use Rattle.teg_net.specs.Nets.{NetLists}
use Rattle.teg_net.specs.Ratios.{Fraction}
use Rattle.teg_net.specs.Circuits.{IsCircuit}
use Rattle.teg_net.specs.GreatestRatios.{IsGreatestRatio, IsAnyPlace}
use Rattle.teg_net.proofs.PathLaws.{IsPathBetween-in_range}
use Rattle.teg_certificates.specs.SlackWitnesses.{IsRiseShown}
use Rattle.teg_certificates.proofs.SlackShown.{best_greatest, rise_shown, no_circuit_shown}
use Rattle.teg_critical.specs.declared.slacks.Slack.TheVariants.{Rise}
use Rattle.teg_critical.specs.Slacks.{IsSlackOf}
use Rattle.teg_critical.specs.ShownSlacks.{WitnessesTellSlacks}
use Rattle.teg_critical.proofs.Rises.{stays, no_more}

-- a place that a circuit passes is one of the net
place_in : (net : NetLists) (ps : List PlaceId) (p : PlaceId) → IsCircuit net ps → Contains ps p → p.index < length net.places
place_in net ps p c passes =
    subst (λ (q : PlaceId). q.index < length net.places) passes.2 (IsPathBetween-in_range net ps c.closed.0 c.closed.0 c.closed.1 passes.0 p passes.1)

rise_tells : (net : NetLists) (r : Fraction) (p : PlaceId) (by : ℕ) (ps : List PlaceId) (vs : List ℤ) → IsGreatestRatio net IsAnyPlace r → IsRiseShown net r p by ps vs → IsSlackOf net r p (Rise by)
rise_tells net r p by ps vs ratio h =
    let may = rise_shown net r p by vs h.potentials in
    let l = place_in net ps p h.beyond.circuit h.beyond.passes in (
      (ps, h.beyond.circuit, h.beyond.passes),
      λ c. let low = may.below c.0 c.1 c.2 in absurd (omega (arith, c.3)),
      record { same = stays net r p by l ratio may; most = no_more net r p by l ps h.beyond },
    )

pub witnesses_tell : WitnessesTellSlacks
witnesses_tell net answer ends h r e p = record {
  none = λ numbers rises on. no_circuit_shown net numbers p ends rises on.0 on.1 on.2;
  critical = λ ps c. (ps, c.circuit, c.passes, c.attains);
  rise = λ by ps vs shown. rise_tells net r p by ps vs (best_greatest net answer ends h r e) shown;
}
