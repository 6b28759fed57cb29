use Rattle.steady_series.specs.Leads.{IsLeadTo}
use Rattle.steady_series.proofs.leads.lead_in_list.Given as goal

abbrev pub invariant-loop-shift : goal.invariant-loop-shift
invariant-loop-shift l = IsLeadTo l.first l.second.step l.shift l.lead
