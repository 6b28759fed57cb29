use Rattle.std.proofs.Common.{map, string_bytes}
use Rattle.audit_calls.specs.AuditCalls.{AnswersUpTo}
use Rattle.audit_calls.proofs.call.answer_each.Given as goal

abbrev pub invariant-loop-index : goal.invariant-loop-index
invariant-loop-index g l =
    AnswersUpTo g.A.Auditor.finds (map (λ x. x.now) l.questions) l.index (g.S.Shelf.state l.initial.shelf) (g.S.Shelf.state l.shelf) l.status (string_bytes l.text)
