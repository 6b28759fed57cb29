use Rattle.endless_laws.proofs.KeptForms.{rows_kept}
use Rattle.endless_laws.proofs.kept_rows.keeps_due_rows.Goals as goal

pub returns : goal.returns
returns c =
    let law = rows_kept c.args.net.now c.args.form.now c.requires.form c.args.rows.now c.requires.rows in
    (λ yes. law.0 (c.in_ok-kept.ensures.0 yes), λ meet. c.in_ok-kept.ensures.1 (law.1 meet))
