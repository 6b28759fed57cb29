use Rattle.std.proofs.Common.{◌≡◌, ◌≤◌, ◌+◌, ◌*◌, ◌%◌}
use Rattle.std.specs.Int.RustNames.{unsigned_abs}
use Rattle.series_form.specs.Leads.{IsReach, width_of}
use Rattle.series_form.specs.SeriesLimits.{greatest_moderate}
use Rattle.series_form.proofs.Heights.{IsLedOn}
use Rattle.series_form.proofs.leads.best_on_cycle.Given as goal

abbrev pub invariant-loop-periods : goal.invariant-loop-periods
invariant-loop-periods l =
    IsReach l.first l.second l.periods l.reach.place l.reach.height
    × (unsigned_abs l.reach.height ≤ (l.periods + 1) * greatest_moderate)
    × ((l.reach.place + l.periods * l.first.period) % width_of l.first l.second ≡ l.start)
    × IsLedOn l.first l.second l.start l.periods l.known l.best
