use Rattle.std.proofs.Common.{List, ap, subst, ◌∙◌}
use Rattle.teg_sizing.specs.declared.rounds.ValueCell.{ValueCell}
use Rattle.teg_sizing.specs.TracedPaths.{last_round}
use Rattle.teg_sizing.specs.Surpluses.{NoneIsBetter, IsToldMore}
use Rattle.teg_sizing.proofs.Looping.{none_above}
use Rattle.teg_sizing.proofs.surpluses.above_apart.Goals as goal

pub returns-in_default-clause-none : goal.returns-in_default-clause-none
returns-in_default-clause-none c =
    let h = c.in_ok-all.ensures.apart in
    none_above c.args.net.now c.args.target c.args.place h.first h.told.all c.in_ok-all.ensures.rules h.starts h.told.are h.told.long
    (subst NoneIsBetter (c.last_cells.ensures ∙ ap last_round c.deref.ensures.value ∙ h.told.last) c.in_default.ensures.none)

pub loop_of-requires-clause-better : goal.loop_of-requires-clause-better
loop_of-requires-clause-better c =
    rw c.deref-2.ensures.value (subst (λ (z : List ValueCell). IsToldMore z c.in-Some.end) (c.last_cells.ensures ∙ ap last_round c.deref.ensures.value) c.in-Some.ensures.some)
