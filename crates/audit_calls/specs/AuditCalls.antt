-- A whole call: from the words to what is told of each answer, and its writing.
use Rattle.std.specs.Prelude.{ℕ, zero, suc, ◌≡◌, ◌⊎◌, ◌∷◌, ◌++◌, [], ⊤, List, Option, Some, None, String, string_bytes, codes, length, map, slice_index_or}
use Rattle.std.specs.Global.{Global}
use Rattle.teg_net.specs.Nets.{NetLists}
use Rattle.teg_outside.specs.Causes.{Rose}
use Rattle.teg_outside.specs.Shelves.{ShelfState}
use Rattle.teg_outside.specs.Sinks.{SinkState, BytesGrow, PrefixGrows}
use Rattle.audit_calls.specs.AnswerAudits.{Audits}
use Rattle.audit_calls.specs.AuditStatuses.{graver_of, status_of_finding}
use Rattle.audit_calls.specs.Questions.{question_asked, words_of_questions}
use Rattle.audit_calls.specs.declared.finding.Finding.{Finding}
use Rattle.audit_calls.specs.declared.kinds.Kind.{Kind}
use Rattle.audit_calls.specs.declared.question.Beside.{Beside}
use Rattle.audit_calls.specs.declared.question.Question.{Question}
use Rattle.audit_calls.specs.declared.status.AuditStatus.{AuditStatus}
use Rattle.audit_calls.specs.declared.status.AuditStatus.TheVariants.{Shown, Words, NotRead, WriteFault, NoMemory}

-- the text that tells of an answer: its claims, or that it was not read with its files
abbrev pub audit_text : Question → Option (Finding × List ℕ) → List ℕ
audit_text question None = codes "not read " ++ question.answer ++ 10 ∷ []
audit_text question (Some told) = told.1

-- how a call ends that tells this of its one answer
abbrev pub audit_status : Option (Finding × List ℕ) → AuditStatus
audit_status None = NotRead
audit_status (Some told) = status_of_finding told.0

-- the text is written, the whole of it or a first part before a fault; nothing where no memory was found
abbrev pub WritesAudit : SinkState → SinkState → Option (AuditStatus × List ℕ) → AuditStatus → Type 0
WritesAudit old new None status = (status ≡ NoMemory) × (new ≡ old)
WritesAudit old new (Some ending) status =
    ((status ≡ ending.0) × (new.faults ≡ old.faults) × BytesGrow old.bytes new.bytes ending.1)
    ⊎ ((status ≡ WriteFault) × Rose old.faults new.faults × PrefixGrows old.bytes new.bytes ending.1)

module _ (finds : NetLists → Beside → Option Kind → List ℕ → ShelfState → ShelfState → Option Finding → Type 0) where
  -- what comes of a question; of words that ask none nothing is read and nothing told
  abbrev pub AnswersQuestion : Option Question → ShelfState → ShelfState → AuditStatus → List ℕ → Type 0
  AnswersQuestion None old new status text = (new ≡ old) × (status ≡ Words) × (text ≡ [])
  AnswersQuestion (Some question) old new status text =
      (told : Option (Finding × List ℕ)) × Audits finds question old new told × (status ≡ audit_status told) × (text ≡ audit_text question told)

  -- what comes of the words of one question
  abbrev pub AnswersWords : List (String Global) → ShelfState → ShelfState → AuditStatus → List ℕ → Type 0
  AnswersWords words old new status text = AnswersQuestion (question_asked (map string_bytes words)) old new status text

  -- the same, appended to a text
  abbrev pub AppendsAnswer : List (String Global) → ShelfState → ShelfState → (before after : List ℕ) → AuditStatus → Type 0
  AppendsAnswer words old new before after status = (text : List ℕ) × (after ≡ before ++ text) × AnswersWords words old new status text

  -- what comes of so many of the questions, one after another: the gravest ending, and the texts
  abbrev pub AnswersUpTo : List (List (String Global)) → ℕ → ShelfState → ShelfState → AuditStatus → List ℕ → Type 0
  AnswersUpTo questions zero old new status text = (new ≡ old) × (status ≡ Shown) × (text ≡ [])
  AnswersUpTo questions (suc i) old new status text =
      (mid : ShelfState) × (before : AuditStatus) × (last : AuditStatus) × (first : List ℕ) × (more : List ℕ)
      × AnswersUpTo questions i old mid before first × AnswersWords (slice_index_or questions i []) mid new last more
      × (status ≡ graver_of before last) × (text ≡ first ++ more)

  -- what comes of all questions of the words, where memory is found
  abbrev pub AnswersAll : List (String Global) → ShelfState → ShelfState → Option (AuditStatus × List ℕ) → Type 0
  AnswersAll words old new None = ⊤
  AnswersAll words old new (Some ending) =
      AnswersUpTo (words_of_questions words) (length (words_of_questions words)) old new ending.0 ending.1

  -- the call of these words: what comes of their questions by the files that they name and by what is found of each answer, and its writing
  abbrev pub CallsAudit : List (String Global) → ShelfState → ShelfState → SinkState → SinkState → AuditStatus → Type 0
  CallsAudit words shelf shelf' sink sink' status =
      (ending : Option (AuditStatus × List ℕ)) × AnswersAll words shelf shelf' ending × WritesAudit sink sink' ending status
