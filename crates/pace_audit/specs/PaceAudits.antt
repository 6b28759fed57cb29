-- What is found of the answers that are asked first, by the files that their question names, and whole calls of them.
use Rattle.std.specs.Prelude.{ℕ, ◌≡◌, List, Option, Some, None, String, string_bytes}
use Rattle.std.specs.Global.{Global}
use Rattle.teg_net.specs.Nets.{NetLists}
use Rattle.teg_outside.specs.Shelves.{ShelfState}
use Rattle.teg_outside.specs.Sinks.{SinkState}
use Rattle.audit_calls.specs.AuditCalls.{CallsAudit}
use Rattle.audit_calls.specs.AuditFiles.{SaysText, most_answer_bytes}
use Rattle.audit_calls.specs.AnswerAudits.{FindsByFile, FindsNoChecker}
use Rattle.audit_calls.specs.declared.finding.Finding.{Finding}
use Rattle.audit_calls.specs.declared.kinds.Alone.{Alone}
use Rattle.audit_calls.specs.declared.kinds.Kind.{Kind}
use Rattle.audit_calls.specs.declared.kinds.Kind.TheVariants.{OfNet, OneDate}
use Rattle.audit_calls.specs.declared.question.Beside.{Beside}
use Rattle.audit_calls.specs.declared.question.Beside.TheVariants.{File}
use Rattle.audit_calls.specs.declared.status.AuditStatus.{AuditStatus}
use Rattle.pace_audit.specs.PaceFindings.{IsDateFound, IsFoundAlone}

-- no file is read, and this is found on the net alone
abbrev pub FindsAlone : NetLists → Alone → List ℕ → ShelfState → ShelfState → Option Finding → Type 0
FindsAlone net kind text old new None = ⊥
FindsAlone net kind text old new (Some finding) = (new ≡ old) × IsFoundAlone net kind text finding

-- what is found of one date, by a list of dates
abbrev pub FindsDate : NetLists → Beside → List ℕ → ShelfState → ShelfState → Option Finding → Type 0
FindsDate net (File name) text old new found = FindsByFile SaysText (λ list. IsDateFound net (string_bytes list) text) name most_answer_bytes old new found
FindsDate net beside text old new found = FindsNoChecker old new found

-- what is found of an answer of this kind: of those on the net alone, but for rounds, forms and bounds, and of one date
abbrev pub FindsFirst : NetLists → Beside → Option Kind → List ℕ → ShelfState → ShelfState → Option Finding → Type 0
FindsFirst net beside (Some (OfNet kind)) text old new found = FindsAlone net kind text old new found
FindsFirst net beside (Some OneDate) text old new found = FindsDate net beside text old new found
FindsFirst net beside kind text old new found = FindsNoChecker old new found

-- the call of these words, where this is found of each answer
abbrev pub AuditsFirstWords : List (String Global) → ShelfState → ShelfState → SinkState → SinkState → AuditStatus → Type 0
AuditsFirstWords words shelf shelf' sink sink' status = CallsAudit FindsFirst words shelf shelf' sink sink' status
