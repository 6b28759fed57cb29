use Rattle.std.proofs.Common.{◌≡◌, ap, ◌∙◌}
use Rattle.teg_sizing.specs.TracedPaths.{last_round}
use Rattle.teg_sizing.proofs.RoundsSettled.{both_settled}
use Rattle.teg_sizing.proofs.potentials.enough_potentials.Goals as goal

pub potentials_of-requires-clause-settled : goal.potentials_of-requires-clause-settled
potentials_of-requires-clause-settled c =
    let a = c.in_ok-from_all.from_all.items in
    let b = c.in_ok-from_end.from_end.items in
    let a_is : c.last_cells-apart.result.now ≡ last_round a = c.last_cells-apart.ensures ∙ ap last_round c.deref.ensures.value in
    let b_is : c.last_cells-back.result.now ≡ last_round b = c.last_cells-back.ensures ∙ ap last_round c.deref-2.ensures.value in
    rw (a_is, b_is)
    (both_settled c.args.net.now c.args.target.now c.args.place c.args.extra c.in_ok-from_all.ensures.rules c.requires.place c.requires.target a b
    c.requires.enough c.in_ok-from_all.ensures.apart c.in_ok-from_end.ensures.back)
