use Rattle.std.proofs.Common.{◌≡◌, ◌+◌, ◌*◌, ◌/◌, ◌%◌, get_or, ap, ◌∙◌, arith}
use Rattle.std.proofs.lemmas.Nat.{div-add-mod'}
use Rattle.dioid.specs.declared.dates.Date.TheVariants.{Early}
use Rattle.dioid_matrix.proofs.Cells.{row_below}
use Rattle.dioid_spectra.proofs.nets.entry_in.Goals as goal

pub entry-requires-clause-row : goal.entry-requires-clause-row
entry-requires-clause-row c =
    let b = row_below c.args.place c.args.a.now.rows c.args.a.now.columns c.columns-columns.ensures.table.some_columns c.requires in
    rw c.columns-columns.ensures.value (omega (arith, b))

pub returns : goal.returns
returns c =
    let same : c.args.place / c.columns-columns.result * c.args.a.now.columns + c.args.place % c.columns-columns.result ≡ c.args.place =
    rw c.columns-columns.ensures.value (div-add-mod' c.args.place c.args.a.now.columns) in
    c.entry.ensures.value ∙ ap (λ k. get_or c.args.a.now.entries k Early) same
