use Rattle.std.proofs.Common.{arith}
use Rattle.forever_laws.specs.settled_laws.SettledForms.{settled_date}
use Rattle.teg_forever.proofs.LateTurns.{soon, none_at_all}
use Rattle.teg_forever.proofs.KeptApart.{none_both, none_map, some_map}
use Rattle.teg_forever.proofs.late.late_in_row.Goals as goal

pub returns-in-Some-late_listed-clause-some : goal.returns-in-Some-late_listed-clause-some
returns-in-Some-late_listed-clause-some c =
    let a = c.args.row.now in
    let late = c.in-Some-late_listed.late in
    soon a.settled a.row c.settled.ensures.told c.late_is_soon.ensures late.number late.due late.least c.in-Some-late_listed.ensures.some

pub returns-then-turn-clause-none : goal.returns-then-turn-clause-none
returns-then-turn-clause-none c =
    let a = c.args.row.now in
    let t = c.turn_of-turn.result in
    none_at_all a.settled a.row c.settled.ensures.told c.turns_tell_late.ensures.turns t.past t.firings t.rise t.fall
    c.turn_of-turn.ensures.turn c.in_default-late_listed.ensures.none c.if-turn.true

pub returns-in-Some-clause-none : goal.returns-in-Some-clause-none
returns-in-Some-clause-none c =
    let a = c.args.row.now in
    let last = c.in-Some.last in
    none_map c.late_listed.result (λ low. none_both (settled_date a.settled) a.row last low c.in-Some.ensures.none) c.late_listed.ensures.none

pub returns-in-Some-clause-some : goal.returns-in-Some-clause-some
returns-in-Some-clause-some c =
    let a = c.args.row.now in
    some_map c.late_listed.result (λ l late. soon a.settled a.row c.settled.ensures.told c.late_is_soon.ensures l.number l.due l.least late) c.late_listed.ensures.some

pub soonest_late-best-requires : goal.soonest_late-best-requires
soonest_late-best-requires c = record {
  common = c.turn_of-turn.ensures.turn;
  last = omega arith;
  steep = omega arith;
  in_time = c.in_default-late_listed.ensures.none;
}

pub none_late_past-requires-clause-cycle : goal.none_late_past-requires-clause-cycle
none_late_past-requires-clause-cycle c = let h = c.own_cycle-cycle.ensures in record { some = h.some; few = h.firings; low = h.rise; rises = h.rises }

pub turn_of-turn-requires : goal.turn_of-turn-requires
turn_of-turn-requires c = let h = c.own_cycle-cycle.ensures in record { some = h.some; few = h.firings; low = h.rise; rises = h.rises }
