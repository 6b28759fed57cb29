use Rattle.std.proofs.Common.{◌<◌, length, subst, sym}
use Rattle.endless_due.specs.EndlessRows.{IsEndlessRow}
use Rattle.teg_forever.proofs.Series.{got}
use Rattle.teg_forever.proofs.asked.DueRows.row.Goals as goal

pub returns-clause-stands : goal.returns-clause-stands
returns-clause-stands c =
    let rows = c.self.inside.rows.now in
    let within : c.args.place < length rows = rw (← c.self.view_is) at c.requires in
    rw (← c.self.view_is) (got rows c.args.place c.index-rows-place.result within c.index-rows-place.is)

pub returns-clause-rules : goal.returns-clause-rules
returns-clause-rules c =
    let i = c.self.inside in
    let within : c.args.place < length i.rows.now = rw (← c.self.view_is) at c.requires in
    rw (← c.self.view_is) (subst (IsEndlessRow i.net.now) (sym c.index-rows-place.is) (c.self.invariant.ranked.ends.each c.args.place c.index-rows-place.result within))
