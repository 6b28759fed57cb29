use Rattle.endless_laws.proofs.KeptForms.{row_kept}
use Rattle.endless_laws.proofs.kept_rows.keeps_row.Goals as goal

pub returns : goal.returns
returns c =
    let law = row_kept c.args._net.now c.args.form.now c.requires.form c.args.row.now c.requires.row c.window_of-window.result c.window_of-window.ensures.window in
    (λ yes. law.1 (c.keeps_window.ensures.0 yes), λ keeps. c.keeps_window.ensures.1 (law.0 keeps))
