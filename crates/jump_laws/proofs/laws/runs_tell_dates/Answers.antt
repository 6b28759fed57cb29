use Rattle.jump_laws.proofs.Runs.{tell_dates, read_off, run_rows_tell}
use Rattle.jump_laws.proofs.laws.runs_tell_dates.Goals as goal

pub returns : goal.returns
returns c = record { tell = tell_dates; read = read_off; rows = run_rows_tell }
