use Rattle.std.proofs.Common.{ℕ, ◌<◌, ◌*◌}
use Rattle.std.specs.Prelude.{◌≤ℤ◌}
use Rattle.series_laws.specs.Needs.{lead_of}
use Rattle.series_form.specs.Leads.{NoGreaterLead}
use Rattle.series_form.proofs.leads.greatest_lead.Given as goal

abbrev pub invariant-loop-start : goal.invariant-loop-start
invariant-loop-start l = (l.best ≤ℤ lead_of l.first l.second) × ((s : ℕ) → s < l.start → NoGreaterLead l.first l.second s (2 * l.turns) l.best)
