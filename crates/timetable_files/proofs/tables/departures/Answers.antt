use Rattle.std.proofs.Common.{◌<◌, length, None, get_or, ◌∙◌, arith}
use Rattle.timetable_files.specs.declared.entries.TableEntry.{TableEntry}
use Rattle.timetable_files.specs.declared.entries.TableEntry.TheVariants.{Departure}
use Rattle.timetable_files.proofs.Splitting.{departure_more}
use Rattle.timetable_files.proofs.tables.departures.Goals as goal

pub loop-entry-preserved : goal.loop-entry-preserved
loop-entry-preserved c =
    let old = c.loop-entry.invariant in
    let long = old.long in
    let no_entry : TableEntry = Departure (record { index = 0 }) 0 in
    record {
      long = c.take_down.ensures.long ∙ old.long;
      each = λ t lt.
          let within : t < length c.loop-entry.cells.items = omega arith in
          c.take_down.ensures.each t within
          ∙ departure_more c.args.entries.now c.loop-entry.entry-index t no_entry (get_or c.loop-entry.cells.items t None) c.loop-entry-test.true (old.each t lt);
    }
