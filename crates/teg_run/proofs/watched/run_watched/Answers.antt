use Rattle.std.proofs.Common.{refl}
use Rattle.teg_files.specs.declared.status.Status.TheVariants.{NoMemory}
use Rattle.teg_run.proofs.Promises.{lost_runs}
use Rattle.teg_run.proofs.watched.run_watched.Goals as goal

pub returns-in-Err : goal.returns-in-Err
returns-in-Err g c = (NoMemory, lost_runs _ c.in-Err.ensures.unread c.in-Err.ensures.unwritten refl, search)
