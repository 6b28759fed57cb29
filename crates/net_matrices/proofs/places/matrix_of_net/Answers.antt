use Rattle.std.proofs.Common.{◌≡◌, ◌*◌, ◌++◌, ◌∷◌, [], length, rules}
use Rattle.net_matrices.proofs.EntryTables.{entries_more, entries_all}
use Rattle.net_matrices.proofs.places.matrix_of_net.Goals as goal

pub loop-place-preserved : goal.loop-place-preserved
loop-place-preserved c =
    let items : c.push.new.self.items ≡ c.loop-place.entries.items ++ (c.in_ok-entry.entry ∷ []) = search rules in
    rw items (entries_more c.args.net.now (length c.transitions-width.result.now) c.loop-place.place c.loop-place.entries.items c.in_ok-entry.entry c.loop-place.invariant c.in_ok-entry.ensures)

pub returns : goal.returns
returns c =
    let end : c.loop-place.place ≡ length c.transitions-width.result.now * length c.transitions-width.result.now = search rules in
    let made = rw end at c.loop-place.invariant in
    let answer = c.in-Ok.ensures.answer in
    entries_all c.args.net.now c.loop-place.entries.items c.in-Ok.matrix (rw c.transitions-width.ensures.value at made) (rw c.transitions-width.ensures.value at answer.0) c.in-Ok.ensures.table
