use Rattle.std.proofs.Common.{arith}
use Rattle.teg_net.proofs.PathLaws.{IsPathBetween-in_range}
use Rattle.teg_lines.proofs.Certified.{certificate_told}
use Rattle.teg_report.proofs.SeriesRead.{series_kept}
use Rattle.teg_report.proofs.laws.answers_are_told.Goals as goal

pub returns-clause-sizes : goal.returns-clause-sizes
returns-clause-sizes c net rules =
    let transitions = rules.few_transitions in
    let places = rules.few_places in
    record { keeps_rules = rules; about = tt; kept = (omega arith, omega arith) }

pub returns-clause-circuits : goal.returns-clause-circuits
returns-clause-circuits c net rules circuit h = record {
  keeps_rules = rules;
  about = IsPathBetween-in_range net circuit h.circuit.closed.0 h.circuit.closed.0 h.circuit.closed.1;
  kept = tt;
}

pub returns-clause-certificates : goal.returns-clause-certificates
returns-clause-certificates c net rules answer best h e = record { keeps_rules = rules; about = (certificate_told net answer best h e, tt); kept = tt }

pub returns-clause-series : goal.returns-clause-series
returns-clause-series c series h = record { keeps_rules = tt; about = tt; kept = series_kept series h }
