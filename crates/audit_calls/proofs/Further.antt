-- One question more.
use Rattle.std.proofs.Common.{ℕ, suc, ◌+◌, ◌≡◌, ◌++◌, List, [], slice_index_or, Option, String, Global, subst, sym, arith}
use Rattle.teg_net.specs.Nets.{NetLists}
use Rattle.teg_outside.specs.Shelves.{ShelfState}
use Rattle.audit_calls.specs.AuditCalls.{AnswersUpTo, AnswersWords}
use Rattle.audit_calls.specs.AuditStatuses.{graver_of}
use Rattle.audit_calls.specs.declared.finding.Finding.{Finding}
use Rattle.audit_calls.specs.declared.kinds.Kind.{Kind}
use Rattle.audit_calls.specs.declared.question.Beside.{Beside}
use Rattle.audit_calls.specs.declared.status.AuditStatus.{AuditStatus}

-- what comes of a question behind others
pub one_more : (finds : NetLists → Beside → Option Kind → List ℕ → ShelfState → ShelfState → Option Finding → Type 0) →
    (questions : List (List (String Global))) (i : ℕ) (words : List (String Global)) (old mid new : ShelfState) (before last status : AuditStatus) (first more text : List ℕ) →
    slice_index_or questions i [] ≡ words → AnswersUpTo finds questions i old mid before first → AnswersWords finds words mid new last more →
    status ≡ graver_of before last → text ≡ first ++ more → AnswersUpTo finds questions (i + 1) old new status text
one_more finds questions i words old mid new before last status first more text same h k graver told =
    let next : suc i ≡ i + 1 = omega arith in
    let answer : AnswersWords finds (slice_index_or questions i []) mid new last more =
    subst (λ (ws : List (String Global)). AnswersWords finds ws mid new last more) (sym same) k in
    let all : AnswersUpTo finds questions (suc i) old new status text = (mid, before, last, first, more, h, answer, graver, told) in
    subst (λ (n : ℕ). AnswersUpTo finds questions n old new status text) next all
