use Rattle.std.proofs.Common.{length, All, AllPairs, sym, subst, ap, ◌∙◌, arith}
use Rattle.std.proofs.lemmas.Result.{err_from_is_err_and}
use Rattle.delay_laws.specs.PlannedTimetables.{IsDelayOf}
use Rattle.timetable_files.specs.Entries.{entries_of}
use Rattle.timetable_files.specs.TimetableFiles.{delays_of, firsts_of}
use Rattle.timetable_files.proofs.Refused.{but_for_memory, entries_fine, firsts_fine}
use Rattle.timetable_files.proofs.Splitting.{AreApart, delays_apart, delays_in, firsts_are}
use Rattle.timetable_files.proofs.tables.read_timetable.Goals as goal

pub returns-in_err-entries-clause-about : goal.returns-in_err-entries-clause-about
returns-in_err-entries-clause-about c =
    let p = err_from_is_err_and c.from_residual.result c.from_residual.ensures.1 in
    let net = c.args.net.now in
    rw (p.1, p.2)
    (but_for_memory net (entries_of net c.args.bytes.now) (entries_fine net c.args.bytes.now) c.in_err-entries.field-0.0 c.in_err-entries.ensures.refused)

pub returns-in_err-firsts-clause-about : goal.returns-in_err-firsts-clause-about
returns-in_err-firsts-clause-about c =
    let p = err_from_is_err_and c.from_residual-in_err-firsts.result c.from_residual-in_err-firsts.ensures.1 in
    let net = c.args.net.now in
    let entries = c.in_ok-entries.entries.items in
    let is = rw (c.deref.ensures.value, c.transitions.ensures.value) at c.in_err-firsts.ensures.missing in
    rw (p.1, p.2)
    (but_for_memory net (firsts_of entries (length net.transitions)) (firsts_fine net entries (length net.transitions) (omega arith)) c.in_err-firsts.field-0.0 is)

pub returns-clause-rules : goal.returns-clause-rules
returns-clause-rules c =
    let rules = c.in_ok-entries.ensures.rules in
    let is = rw (c.deref.ensures.value, c.transitions.ensures.value) at c.in_ok-firsts.ensures.firsts in
    let firsts = firsts_are c.args.net.now c.in_ok-entries.entries.items rules.each (length c.args.net.now.transitions) c.in_ok-firsts.firsts.items is in
    let same = c.in_ok-delays.ensures ∙ ap delays_of c.deref-2.ensures.value in
    record {
      one_each = firsts.long;
      firsts_in = firsts.small;
      delays_in = subst (All (IsDelayOf c.args.net.now)) (sym same) (delays_in c.args.net.now c.in_ok-entries.entries.items rules.each);
      one_delay = subst (AllPairs AreApart) (sym same) (delays_apart c.in_ok-entries.entries.items rules.once);
    }
