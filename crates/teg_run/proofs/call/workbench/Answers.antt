use Rattle.teg_run.proofs.call.workbench.Goals as goal

pub returns : goal.returns
returns g c = rw c.deref_mut.ensures.value at c.serve.ensures.runs
