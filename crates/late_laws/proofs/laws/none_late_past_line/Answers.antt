use Rattle.late_laws.proofs.LateLines.{none_past_line, dues_pass}
use Rattle.late_laws.proofs.laws.none_late_past_line.Goals as goal

pub returns : goal.returns
returns c = record { none = none_past_line; passes = dues_pass }
