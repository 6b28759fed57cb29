use Rattle.std.proofs.Common.{◌+◌, ◌≡◌, ◌++◌, ◌∷◌, [], Vec, Global, take, sym, ap, subst, ◌∙◌, append-nil}
use Rattle.delay_laws.specs.declared.table.Delay.{Delay}
use Rattle.timetable_files.specs.declared.entries.TableEntry.{TableEntry}
use Rattle.timetable_files.specs.declared.entries.TableEntry.TheVariants.{Departure}
use Rattle.timetable_files.specs.TimetableFiles.{delays_of}
use Rattle.timetable_files.proofs.Splitting.{delays_more}
use Rattle.timetable_files.proofs.tables.delays.Goals as goal
use Rattle.timetable_files.proofs.tables.delays.Goals.{in-Late+in_ok-push, in_default}

pub loop-entry-preserved : goal.loop-entry-preserved
loop-entry-preserved c =
    let entries = c.args.entries.now in
    let i = c.loop-entry.entry-index in
    let ds = c.loop-entry.delays.items in
    let no_entry : TableEntry = Departure (record { index = 0 }) 0 in
    let more = delays_more entries i no_entry ds c.loop-entry-test.true c.loop-entry.invariant in
    let P : TableEntry → Type 0 = λ e. ds ++ delays_of (e ∷ []) ≡ delays_of (take (i + 1) entries) in
    elim c.match-entry.branch [
      | in-Late+in_ok-push w ↦ ap (λ (v : Vec Delay Global). v.items) w.delays-is ∙ w.in_ok-push.ensures.items ∙ subst P w.in-Late.is more
      | in_default w ↦ ap (λ (v : Vec Delay Global). v.items) w.delays-is ∙ sym (append-nil ds) ∙ subst P w.in_default.is more
    ]
