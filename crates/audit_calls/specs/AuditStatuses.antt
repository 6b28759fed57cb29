-- How a call ends, and its exit statuses.
use Rattle.std.specs.Prelude.{ℕ, List, codes, nat_lt, if◌then◌else◌}
use Rattle.audit_calls.specs.declared.finding.Finding.{Finding}
use Rattle.audit_calls.specs.declared.finding.Finding.TheVariants.{Shown as FoundShown, Refuted as FoundRefuted, WrongLine as FoundWrongLine, NotShown as FoundNotShown, NoChecker as FoundNoChecker}
use Rattle.audit_calls.specs.declared.status.AuditStatus.{AuditStatus}
use Rattle.audit_calls.specs.declared.status.AuditStatus.TheVariants.{Shown, Refuted, Words, NotShown, NoChecker, NotRead, WriteFault, NoMemory}

-- the word of a finding
abbrev pub finding_word : Finding → List ℕ
finding_word FoundShown = codes "shown"
finding_word FoundRefuted = codes "refuted"
finding_word (FoundWrongLine line) = codes "refuted"
finding_word FoundNotShown = codes "not shown"
finding_word FoundNoChecker = codes "no checker"

-- how a call ends of whose one answer this is found
abbrev pub status_of_finding : Finding → AuditStatus
status_of_finding FoundShown = Shown
status_of_finding FoundRefuted = Refuted
status_of_finding (FoundWrongLine line) = Refuted
status_of_finding FoundNotShown = NotShown
status_of_finding FoundNoChecker = NoChecker

-- the exit status of a program that ends so
abbrev pub audit_code : AuditStatus → ℕ
audit_code Shown = 0
audit_code Refuted = 1
audit_code Words = 2
audit_code NotShown = 3
audit_code NoChecker = 4
audit_code NotRead = 5
audit_code WriteFault = 65
audit_code NoMemory = 70

-- how grave an ending is
abbrev pub gravity : AuditStatus → ℕ
gravity Shown = 0
gravity NoChecker = 1
gravity NotShown = 2
gravity Refuted = 3
gravity NotRead = 4
gravity Words = 5
gravity WriteFault = 6
gravity NoMemory = 7

-- the graver of two endings
abbrev pub graver_of : AuditStatus → AuditStatus → AuditStatus
graver_of one other = if nat_lt (gravity one) (gravity other) then other else one
