use Rattle.std.proofs.Common.{ℕ, ◌≡◌, ◌≤◌, ◌<◌, ◌+◌, ◌*◌, get_or}
use Rattle.delay_laws.specs.declared.table.Delay.{Delay}
use Rattle.release_nets.specs.DelaysByNumber.{most_releases}
use Rattle.release_nets.proofs.releases.number_past.Given as goal

abbrev pub invariant-loop-delay : goal.invariant-loop-delay
invariant-loop-delay l = record {
  some : 1 ≤ l.last;
  few : l.last ≤ most_releases;
  past : (k : ℕ) (d : Delay) → k < l.delay-index → (get_or l.planned.table.now.delays.items k d).transition.index ≡ l.transition
      → l.planned.period * (get_or l.planned.table.now.delays.items k d).number + (get_or l.planned.table.now.delays.items k d).by ≤ l.planned.period * l.last;
}
