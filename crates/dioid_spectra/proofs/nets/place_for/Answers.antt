use Rattle.std.proofs.Common.{◌+ℤ◌, ◌∙◌, ap, pos, rules, sym, SFits}
use Rattle.std.specs.Int.{w128}
use Rattle.std.proofs.lemmas.Int.{to_z-of_z}
use Rattle.dioid_spectra.proofs.MatrixNetLaws.{place_for_entry}
use Rattle.dioid_spectra.proofs.nets.place_for.Goals as goal

pub returns-clause-place : goal.returns-clause-place
returns-clause-place c =
    let fits : SFits w128 c.in-At.number = search rules in
    let above = rw (to_z-of_z w128 c.args.low c.ranges.low, to_z-of_z w128 c.in-At.number fits) at c.in-Some.ensures.some in
    place_for_entry c.args.a.now c.args.low c.in-At.number c.args.place c.columns-columns.result c.entry.result.now c.in_ok-place.place c.columns-columns.ensures.value
    c.columns-columns.ensures.table.some_columns c.requires.place c.entry.ensures.value c.in-At.is c.in_ok-place.ensures.to c.in_ok-place.ensures.from
    (above ∙ ap (λ h. c.args.low +ℤ pos h) (sym c.in_ok-place.ensures.hold)) c.in_ok-place.ensures.token
