use Rattle.std.proofs.Common.{◌≡◌, length, ap, sym, ◌∙◌}
use Rattle.std.proofs.lemmas.List.{with_items_is}
use Rattle.date_rows.specs.LastColumns.{WindowCells}
use Rattle.date_rows.proofs.Columns.{window_has_next}
use Rattle.date_rows.proofs.window.Window.push.Goals as goal

pub returns : goal.returns
returns c =
    let fields = c.self.inside in
    let added = c.add_row-self-inside in
    let w : WindowCells = record { width = fields.width; reach = fields.reach; room = fields.room; at = fields.at; number = fields.number; cells = fields.cells.items } in
    let full : length c.args.row.now ≡ w.width = c.requires.full ∙ sym (ap (λ a. a.width) c.self.view_is) in
    let long = added.ensures.full ∙ c.deref_mut.ensures.len in
    rw (← c.self.view_is, with_items_is fields.cells added.new.cells long)
    (window_has_next w added.new.cells c.args.row.now added.result c.self.invariant full (rw c.deref_mut.ensures.value at added.ensures))
