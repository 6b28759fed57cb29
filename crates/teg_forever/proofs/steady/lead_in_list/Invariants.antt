use Rattle.std.specs.Prelude.{◌≡◌}
use Rattle.forever_laws.specs.series_laws.Periodic.{times}
use Rattle.steady_series.specs.Leads.{IsLeadBelow}
use Rattle.teg_forever.proofs.steady.lead_in_list.Given as goal

abbrev pub invariant-loop-place : goal.invariant-loop-place
invariant-loop-place l = record {
  lead : IsLeadBelow l.list l.second.step l.place l.lead;
  gained : l.gained ≡ times l.place l.second.step;
}
