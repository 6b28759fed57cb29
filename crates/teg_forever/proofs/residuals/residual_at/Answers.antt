use Rattle.std.proofs.Common.{refl, subst, sym}
use Rattle.teg_forever.specs.Divisions.{IsAlikeAt}
use Rattle.teg_forever.proofs.Dividing.{residual_found, refused_row}
use Rattle.teg_forever.proofs.residuals.residual_at.Goals as goal

pub divide-requires-clause-rows : goal.divide-requires-clause-rows
divide-requires-clause-rows c = rw c.rows.ensures.value (λ i d l. (c.args.asked.now.net, c.rows.ensures.asked.ends.each i d l))

pub returns-in-Ok-clause-residual : goal.returns-in-Ok-clause-residual
returns-in-Ok-clause-residual c =
    let a = c.args.asked.now in
    let i = c.args.place in
    let alike = subst (IsAlikeAt a.rows i) (sym c.first-due.ensures) (c.requires.divisions.firsts.each i c.requires.place) in
    let kept = rw c.rows.ensures.value at c.in-Ok.ensures.divisions in
    residual_found a.net a.rows a.input.index i c.first-due.result c.row-row.result.now c.row-row.ensures.stands alike
    c.in_ok-walk.walk c.in_ok-walk.ensures c.divide.new.self.list.items c.in-Ok.at kept.each c.in-Ok.ensures.place

pub returns-in-Err-clause-refused : goal.returns-in-Err-clause-refused
returns-in-Err-clause-refused c =
    let a = c.args.asked.now in
    let i = c.args.place in
    let alike = subst (IsAlikeAt a.rows i) (sym c.first-due.ensures) (c.requires.divisions.firsts.each i c.requires.place) in
    let misfit = rw c.rows.ensures.value at c.in-Err.ensures.misfit in
    rw (c.refusal_at.ensures, c.input.ensures)
    (refused_row a.net a.rows a.input.index i c.first-due.result c.row-row.result.now c.row-row.ensures.stands alike
    c.in_ok-walk.walk c.in_ok-walk.ensures a.input c.in-Err.why refl misfit)
