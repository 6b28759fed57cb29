use Rattle.teg_forever.proofs.Dividing.{refused_meet}
use Rattle.teg_forever.proofs.Repeated.{met_so_far}
use Rattle.teg_forever.proofs.residuals.met_at.Goals as goal

pub returns-in-Ok-clause-meet : goal.returns-in-Ok-clause-meet
returns-in-Ok-clause-meet c =
    let a = c.args.asked.now in
    met_so_far a.net a.rows a.input.index c.args.place c.args.residual.now c.args.meet c.in-Ok.met c.requires.some c.requires.over c.requires.residual c.in-Ok.ensures.met c.in-Ok.ensures.stays

pub returns-in-Err-clause-refused : goal.returns-in-Err-clause-refused
returns-in-Err-clause-refused c =
    let a = c.args.asked.now in
    rw (c.refusal_at.ensures, c.input.ensures)
    (refused_meet a.net a.rows a.input c.args.place c.row.result.now c.args.residual.now c.args.meet c.in-Err.why c.requires.some c.row.ensures.stands c.requires.over c.requires.residual c.in-Err.ensures.misfit)
