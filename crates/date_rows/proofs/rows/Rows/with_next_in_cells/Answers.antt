use Rattle.std.proofs.Common.{◌+◌, ◌≡◌, ◌++◌, ◌^◌, ◌<◌, length, map, sym, ap, subst, ◌∙◌, arith}
use Rattle.std.specs.Prelude.{⊤}
use Rattle.std.proofs.lemmas.List.{length-map, with_items_is}
use Rattle.teg_net.specs.Limits.{most_rows}
use Rattle.date_rows.specs.DateTables.{TableDates}
use Rattle.date_rows.specs.Sources.{system_by}
use Rattle.date_rows.specs.DateCells.{date_of_signed_cell}
use Rattle.date_rows.specs.KeptRows.{AreLeastRows}
use Rattle.date_rows.proofs.Earliest.{short_bounds_stay}
use Rattle.date_rows.proofs.NextRow.{can_make_next, rows_with_next}
use Rattle.date_rows.proofs.rows.Rows.with_next_in_cells.Goals as goal

pub invariant_of-past : goal.invariant_of-past
invariant_of-past g c =
    let cells = c.in-Some.cells.now in
    let held : map date_of_signed_cell cells ≡ c.rows.inside.dates = rw c.in-Some.is at c.cells.ensures in
    let kept = c.rows.invariant in
    record { width_in = kept.width_in; count_in = kept.count_in; full = sym (length-map cells date_of_signed_cell) ∙ ap length held ∙ kept.full }

pub new-requires : goal.new-requires
new-requires g c =
    let net = c.args.net.now in
    let s = system_by g.S.Source c.args.source.now net in
    let fields = c.rows.inside in
    let dates = map date_of_signed_cell c.in-Some.cells.now in
    let held : dates ≡ fields.dates = rw c.in-Some.is at c.cells.ensures in
    let table : TableDates = record { width = fields.width; count = fields.count; dates = dates } in
    let few : fields.count < most_rows = omega (arith, c.requires.few, ap (λ a. a.count) c.rows.view_is) in
    let before = subst (AreLeastRows net s) (sym c.rows.view_is) c.requires.rows in
    let rows = subst (λ d. AreLeastRows net s (record { width = fields.width; count = fields.count; dates = d })) (sym held) before in
    rw c.turns.ensures
    (can_make_next net c.args.order.now s (2 ^ 62) ⊤ table c.rules.ensures c.requires.order (λ _ _. tt)
    (short_bounds_stay s (fields.count + 1) c.requires.bounded (omega (arith, ap (λ a. a.count) c.rows.view_is, ap (λ a. a.count) c.self.view_is))) few rows)

pub returns-clause-rows : goal.returns-clause-rows
returns-clause-rows g c =
    let net = c.args.net.now in
    let s = system_by g.S.Source c.args.source.now net in
    let fields = c.rows.inside in
    let made = c.fill.new.row in
    let row = map date_of_signed_cell made in
    let table : TableDates = record { width = fields.width; count = fields.count; dates = fields.dates } in
    let before = subst (AreLeastRows net s) (sym c.rows.view_is) c.requires.rows in
    let full : length made ≡ length net.transitions = rw c.new.ensures at c.fill.ensures.full in
    let long : length made ≡ c.resize.new.self.len = omega (arith, full, c.in_ok-resize.ensures.len, before.width) in
    let cells = c.deref.ensures.value ∙ with_items_is c.resize.new.self made long in
    let is : c.extend_cells.new.self ≡ fields.dates ++ row = c.in_ok-extend_cells.ensures ∙ ap (λ r. fields.dates ++ map date_of_signed_cell r) cells in
    subst (λ d. AreLeastRows net s (record { width = fields.width; count = fields.count + 1; dates = d })) (sym is)
    (rows_with_next net s table row c.rows.invariant before (rw c.new.ensures at c.fill.ensures.least))
