use Rattle.std.proofs.Common.{ℕ, ◌≡◌, Option, None, get_or, sym, subst, ◌∙◌}
use Rattle.timetable_files.specs.TimetableFiles.{departure_of}
use Rattle.timetable_files.proofs.Splitting.{missing_at}
use Rattle.timetable_files.proofs.tables.firsts.Goals as goal

pub returns-in_default-clause-missing : goal.returns-in_default-clause-missing
returns-in_default-clause-missing c = λ _.
    let cells = c.in_ok-cells.cells.items in
    let t = c.loop-t.t in
    let same : None ≡ get_or cells t None = subst (λ (v : Option ℕ). v ≡ get_or cells t v) c.in_default.is c.index.ensures in
    let none : departure_of c.args.entries.now t ≡ None = sym (c.in_ok-cells.ensures.each t c.loop-t-test.true) ∙ sym same in
    missing_at c.args.entries.now t c.args.width c.loop-t.firsts.items c.loop-t.invariant none c.loop-t-test.true
