use Rattle.std.proofs.Common.{◌-◌, ◌≡◌, Some, None, refl, subst}
use Rattle.teg_sizing.specs.declared.sizing.Sizing.TheVariants.{Enough, Impossible}
use Rattle.teg_certificates.specs.Sizes.{IsEnough, IsFewest, IsNeverEnough}
use Rattle.teg_sizing.specs.Sizings.{IsSizing}
use Rattle.token_bounds.specs.MostTokens.{one_unit}
use Rattle.token_bounds.proofs.Alone.{none_passes, not_never, at_most_long, is_most}
use Rattle.token_bounds.proofs.most.told.Goals as goal

pub overflow_sub-result : goal.overflow_sub-result
overflow_sub-result c =
    let w = c.in-Enough-default-Some in
    let e : c.args.sizing ≡ Enough w.extra (Some w.circuit) = cc in
    let h : IsFewest c.args.changed.now one_unit c.args.place w.extra w.circuit.places.items = subst (IsSizing c.args.changed.now one_unit c.args.place) e c.requires.sizing in
    at_most_long c.args._held.now c.args.changed.now c.args.place c.requires.place c.requires.rules c.requires.changed w.extra w.circuit.places.items h

pub returns-in-Enough-default-Some : goal.returns-in-Enough-default-Some
returns-in-Enough-default-Some c =
    let w = c.in-Enough-default-Some in
    let e : c.args.sizing ≡ Enough w.extra (Some w.circuit) = cc in
    let h : IsFewest c.args.changed.now one_unit c.args.place w.extra w.circuit.places.items = subst (IsSizing c.args.changed.now one_unit c.args.place) e c.requires.sizing in
    is_most c.args._held.now c.args.changed.now c.args.place c.requires.place c.requires.rules c.requires.changed w.extra (record { tokens = 1000000 - w.extra; circuit = w.circuit }) h refl

pub returns-in-Enough-default-None : goal.returns-in-Enough-default-None
returns-in-Enough-default-None c =
    let w = c.in-Enough-default-None in
    let e : c.args.sizing ≡ Enough w.extra None = cc in
    let h : (w.extra ≡ 0) × IsEnough c.args.changed.now one_unit c.args.place 0 = subst (IsSizing c.args.changed.now one_unit c.args.place) e c.requires.sizing in
    none_passes c.args._held.now c.args.changed.now c.args.place c.requires.place c.requires.rules c.requires.changed h.1

pub returns : goal.returns
returns c =
    let w = c.in-Impossible in
    let e : c.args.sizing ≡ Impossible w.circuit = cc in
    let h : IsNeverEnough c.args.changed.now one_unit c.args.place w.circuit.places.items = subst (IsSizing c.args.changed.now one_unit c.args.place) e c.requires.sizing in
    absurd (not_never c.args._held.now c.args.changed.now c.args.place c.requires.place c.requires.rules c.requires.changed w.circuit.places.items h)
