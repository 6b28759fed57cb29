use Rattle.teg_jit.proofs.Excluded.{kept_by_rows}
use Rattle.teg_jit.proofs.laws.dues_are_kept_by_rows.Goals as goal

pub returns : goal.returns
returns c = kept_by_rows
