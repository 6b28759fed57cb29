use Rattle.std.proofs.Common.{rules, ◌≡◌, ◌+◌, [], ◌∷◌, ◌++◌}
use Rattle.net_matrices.proofs.PlaceValues.{listed_more, values_are}
use Rattle.net_matrices.proofs.places.values_between.Goals as goal

pub loop-shift-preserved : goal.loop-shift-preserved
loop-shift-preserved c =
    let items : c.push.new.self.items ≡ c.loop-shift.values.items ++ (c.latest_at.result ∷ []) = search rules in
    let latest = rw c.deref-in-loop-shift.ensures.value at c.latest_at.ensures in
    rw items (listed_more c.args.net.now c.args.to c.args.from c.in_ok-ids.ids.items c.in_ok-ids.ensures c.loop-shift.shift c.loop-shift.values.items c.latest_at.result c.loop-shift.invariant latest)

pub returns : goal.returns
returns c =
    let up = rw c.deref.ensures.value at c.most_tokens-count.ensures in
    let end : c.loop-shift.shift ≡ c.most_tokens-count.result + 1 = search rules in
    values_are c.args.net.now c.args.to c.args.from c.in_ok-ids.ids.items c.in_ok-ids.ensures c.most_tokens-count.result up c.loop-shift.values.items (rw end at c.loop-shift.invariant)
