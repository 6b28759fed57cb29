use Rattle.endless_laws.proofs.late_rows.none_late_in.Goals as goal

pub returns-then-none_late_between : goal.returns-then-none_late_between
returns-then-none_late_between c =
    let first = c.none_late_between.ensures.0 c.if-none_late_between.true in
    let past = c.none_late_between-then-none_late_between.ensures in
    (λ yes. (first, past.0 yes), λ both. past.1 both.1)
