use Rattle.std.proofs.Common.{◌<◌, ◌+◌, ◌*◌, length, subst, sym}
use Rattle.std.proofs.lemmas.List.{get_or_read}
use Rattle.dioid_matrix.proofs.Cells.{place_within}
use Rattle.dioid_matrix.proofs.grid.Matrix.entry.Goals as goal

pub returns-clause-element : goal.returns-clause-element
returns-clause-element g c =
    let d = g.D.Dioid in
    let inside = c.self.inside in
    let row : c.args.row < inside.rows = rw (← c.self.view_is) at c.requires.row in
    let column : c.args.column < inside.columns = rw (← c.self.view_is) at c.requires.column in
    let within : c.args.row * inside.columns + c.args.column < length inside.entries.items = place_within _ _ _ _ _ row column c.self.invariant.filled in
    let read = get_or_read inside.entries.items (c.args.row * inside.columns + c.args.column) c.index.result.now within c.index.ensures d.zero in
    subst (λ (z : g.row.D.Denot). d.is_element z) (sym read) (c.self.invariant.elements (c.args.row * inside.columns + c.args.column))
