-- What is found and told of one answer, by the files that its question names.
use Rattle.std.specs.Prelude.{ℕ, ◌≡◌, List, Option, Some, None, String, string_bytes}
use Rattle.std.specs.Global.{Global}
use Rattle.std.specs.Option.{option_map}
use Rattle.std.specs.Str.Lines.{lines}
use Rattle.csv_records.specs.Records.{most_file_bytes}
use Rattle.teg_net.specs.Nets.{NetLists}
use Rattle.teg_outside.specs.Shelves.{ShelfState}
use Rattle.audit_calls.specs.AnswerWords.{kind_of_text}
use Rattle.audit_calls.specs.AuditFiles.{OpensFileOf, SaysNetOf, SaysText, most_answer_bytes}
use Rattle.audit_calls.specs.Claims.{claims_text}
use Rattle.audit_calls.specs.declared.finding.Finding.{Finding}
use Rattle.audit_calls.specs.declared.finding.Finding.TheVariants.{NoChecker}
use Rattle.audit_calls.specs.declared.kinds.Kind.{Kind}
use Rattle.audit_calls.specs.declared.question.Beside.{Beside}
use Rattle.audit_calls.specs.declared.question.Question.{Question}

-- what is found by what a file gives; nothing where it gives nothing
abbrev pub FollowsFile : {A : Type 0} → (A → Finding → Type 0) → Option A → Option Finding → Type 0
FollowsFile finds None found = found ≡ None
FollowsFile finds (Some file) None = ⊥
FollowsFile finds (Some file) (Some finding) = finds file finding

-- one file is read, and something is found by what it gives
abbrev pub FindsByFile : {A : Type 0} → (List ℕ → A → Type 0) → (A → Finding → Type 0) → (name : List ℕ) → (most : ℕ) →
    ShelfState → ShelfState → Option Finding → Type 0
FindsByFile {A = A} reads finds name most old new found =
    (file : Option A) × OpensFileOf reads name most old new file × FollowsFile finds file found

-- no file is read, and no checker reads the answer
abbrev pub FindsNoChecker : ShelfState → ShelfState → Option Finding → Type 0
FindsNoChecker old new found = (new ≡ old) × (found ≡ Some NoChecker)

-- what is told where this is found of an answer of this kind, and its lines
abbrev pub told_by : Option Kind → List (List ℕ) → Option Finding → Option (Finding × List ℕ)
told_by kind ls found = option_map (λ finding. (finding, claims_text kind finding ls)) found

module _ (finds : NetLists → Beside → Option Kind → List ℕ → ShelfState → ShelfState → Option Finding → Type 0) where
  -- what is told of the text of an answer
  abbrev pub AuditsText : NetLists → Beside → List ℕ → ShelfState → ShelfState → Option (Finding × List ℕ) → Type 0
  AuditsText net beside text old new told =
      (found : Option Finding) × finds net beside (kind_of_text beside text) text old new found × (told ≡ told_by (kind_of_text beside text) (lines text) found)

  -- what is told by what the answer's file gives; nothing, and nothing more is read, where it gives no text
  abbrev pub AuditsAnswer : NetLists → Beside → Option (String Global) → ShelfState → ShelfState → Option (Finding × List ℕ) → Type 0
  AuditsAnswer net beside None old new told = (new ≡ old) × (told ≡ None)
  AuditsAnswer net beside (Some text) old new told = AuditsText net beside (string_bytes text) old new told

  -- what is told by what the net's file gives; nothing, and nothing more is read, where it gives no net
  abbrev pub AuditsNet : Question → Option NetLists → ShelfState → ShelfState → Option (Finding × List ℕ) → Type 0
  AuditsNet question None old new told = (new ≡ old) × (told ≡ None)
  AuditsNet question (Some net) old new told =
      (mid : ShelfState) × (text : Option (String Global)) × OpensFileOf SaysText question.answer most_answer_bytes old mid text
      × AuditsAnswer net question.beside text mid new told

  -- what is told of an answer by its files, each of which is read once: the net, the answer, and what it was asked with; nothing where
  -- one is not read, or does not say what it should
  abbrev pub Audits : Question → ShelfState → ShelfState → Option (Finding × List ℕ) → Type 0
  Audits question old new told =
      (mid : ShelfState) × (net : Option NetLists) × OpensFileOf SaysNetOf question.net most_file_bytes old mid net
      × AuditsNet question net mid new told
