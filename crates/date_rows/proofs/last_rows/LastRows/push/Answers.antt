use Rattle.std.proofs.Common.{◌≡◌, length, refl, ap, ◌∙◌, sym, arith}
use Rattle.date_rows.specs.Streams.{LastDates, AreLastDates}
use Rattle.date_rows.proofs.Keeping.{full_with_row, last_have_next}
use Rattle.date_rows.proofs.last_rows.LastRows.push.Goals as goal

pub invariant_of-self : goal.invariant_of-self
invariant_of-self c =
    let row = c.args.row.now in
    let fields = c.self.inside in
    let last : LastDates = record { width = fields.width; reach = fields.reach; number = fields.number; dates = fields.cells.items } in
    let h : AreLastDates last = c.self.invariant.0 in
    let full : length row ≡ last.width = c.requires.full ∙ sym (ap (λ a. a.width) c.self.view_is) in
    rw (c.extend_from_slice.ensures, c.self.invariant.1)
    (record { width_in = h.width_in; reach_in = h.reach_in; number_in = omega (arith, c.requires.few, ap (λ a. a.number) c.self.view_is); full = full_with_row last row h full }, refl)

pub returns : goal.returns
returns c =
    let row = c.args.row.now in
    let fields = c.self.inside in
    let last : LastDates = record { width = fields.width; reach = fields.reach; number = fields.number; dates = fields.cells.items } in
    let full : length row ≡ last.width = c.requires.full ∙ sym (ap (λ a. a.width) c.self.view_is) in
    rw (← c.self.view_is, c.extend_from_slice.ensures, c.self.invariant.1) (last_have_next last row c.self.invariant.0 full)
