use Rattle.std.proofs.Common.{arith, subst, sym}
use Rattle.std.proofs.lemmas.List.{length-map}
use Rattle.teg_settle.specs.ComparedRows.{IsLeastForm}
use Rattle.teg_settle.proofs.Copying.{copied, copy_kept, own_in}
use Rattle.teg_settle.proofs.Limiting.{found_told, found_form}
use Rattle.teg_settle.proofs.settled.settled_of.Goals as goal

pub table_of-requires : goal.table_of-requires
table_of-requires c =
    let told = found_told c.args.net.now c.args._releases.now c.args.found.now c.requires.found in
    record { width = told.1.window.width; few = omega (arith, told.1.fits) }

pub steps_of-requires : goal.steps_of-requires
steps_of-requires c = record { window = (found_told c.args.net.now c.args._releases.now c.args.found.now c.requires.found).1.window }

pub stored-requires : goal.stored-requires
stored-requires c =
    let net = c.args.net.now in
    let f = c.args.found.now in
    let told = found_told net c.args._releases.now f c.requires.found in
    let table = c.in_ok-table.ensures in
    let steps = c.in_ok-steps.ensures in
    let own = rw c.transitions.ensures.value at c.in_ok-own.ensures in
    let copy = copied net f.rows f.form c.in_ok-table.table.items c.in_ok-steps.steps.items c.in_ok-own.own.items own.count own.each table.rows steps.each in
    record {
      stored = record {
        kept = copy_kept net f.rows f.form _ told.0 c.transitions.ensures.rules copy told.1;
        rows_in = own_in _ c.in_ok-table.table.items c.in_ok-own.own.items table.count own.count own.each;
        steps_count = omega (arith, steps.count, table.count, length-map c.in_ok-table.table.items (λ r. r.items));
      };
    }

pub returns-clause-form : goal.returns-clause-form
returns-clause-form c =
    let net = c.args.net.now in
    let f = c.args.found.now in
    let own = rw c.transitions.ensures.value at c.in_ok-own.ensures in
    subst (IsLeastForm net c.args._releases.now) (sym c.stored.ensures)
    (found_form net c.args._releases.now f c.requires.found _
    (copied net f.rows f.form c.in_ok-table.table.items c.in_ok-steps.steps.items c.in_ok-own.own.items own.count own.each c.in_ok-table.ensures.rows c.in_ok-steps.ensures.each))
