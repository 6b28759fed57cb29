use Rattle.std.proofs.Common.{ℕ, ◌≡◌, ◌*◌, ◌%◌, ◌<◌, length, rules, arith, mod-lt}
use Rattle.std.proofs.lemmas.List.{get_or_read}
use Rattle.teg_form.proofs.Merging.{entries_same, entries_added, of_turn, entries_are, no_mark, mark_at}
use Rattle.teg_form.proofs.entries.entries_of.Goals as goal
use Rattle.teg_form.proofs.entries.entries_of.Goals.{in-Some+in_ok-add, in_default}

some_order : (n m t : ℕ) → t < n * m → 0 < m
some_order n m t l = grind arith

pub loop-turn-preserved : goal.loop-turn-preserved
loop-turn-preserved c =
    let net = c.args.net.now in
    let ok = c.transitions.ensures.rules in
    let order = c.in_ok-order.order.items in
    let turn = c.loop-turn.turn in
    let l : turn < length c.transitions.result.now * length order = search rules in
    let some : 0 < length order = some_order (length c.transitions.result.now) (length order) turn l in
    let mark : c.index-marked.result.now ≡ mark_at order (turn % length order) = get_or_read order (turn % length order) c.index-marked.result.now (mod-lt turn some) (search rules) no_mark in
    let len : c.len-in-loop-turn.result ≡ length order = search rules in
    elim c.match-entry_of.branch [
      | in-Some+in_ok-add w ↦
          let place = w.in-Some.ensures.place in
          let to = w.in-Some.ensures.to in
          let time = w.in-Some.ensures.time in
          let of = of_turn net order turn w.in-Some.entry ok c.in_ok-order.ensures some (rw len at to) (rw mark at place) (rw (mark, len) at time) in
          rw w.entries-is (entries_added net order c.loop-turn.entries.items _ turn w.in-Some.entry c.in_ok-order.ensures some c.loop-turn.invariant of w.in_ok-add.ensures)
      | in_default w ↦ rw w.entries-is (entries_same net order c.loop-turn.entries.items turn some c.loop-turn.invariant (let n = w.in_default.ensures.none in rw (mark, len) at n))
    ]

pub returns : goal.returns
returns c =
    let net = c.args.net.now in
    let order = c.in_ok-order.order.items in
    let end : c.loop-turn.turn ≡ length c.transitions.result.now * length order = search rules in
    let whole : c.loop-turn.turn ≡ length net.transitions * length order = rw c.transitions.ensures.value at end in
    entries_are net order c.loop-turn.entries.items c.transitions.ensures.rules c.in_ok-order.ensures (rw whole at c.loop-turn.invariant)
