-- Working definitions of what values of the code mean.
use Rattle.std.specs.Prelude.{ℕ, List, Option, Some, None, Result, Ok, Err, string_bytes}
use Rattle.teg_net.specs.declared.memory.OutOfMemory.{OutOfMemory}
use Rattle.audit_calls.specs.declared.auditing.Told.{Told}
use Rattle.audit_calls.specs.declared.call.Ending.{Ending}
use Rattle.audit_calls.specs.declared.finding.Finding.{Finding}
use Rattle.audit_calls.specs.declared.status.AuditStatus.{AuditStatus}

-- what is told of an answer
abbrev pub told_meant : Option Told → Option (Finding × List ℕ)
told_meant None = None
told_meant (Some told) = Some (told.finding, string_bytes told.text)

-- how the work ends, if memory was found
abbrev pub ending_meant : Result Ending OutOfMemory → Option (AuditStatus × List ℕ)
ending_meant (Ok ending) = Some (ending.status, string_bytes ending.text)
ending_meant (Err e) = None
