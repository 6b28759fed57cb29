use Rattle.std.proofs.Common.{rules, arith}
use Rattle.pace_check.proofs.PathSums.{are_members}
use Rattle.pace_check.proofs.pace.is_told_from_lowest.Goals as goal

pub are_greatest-requires-clause-start : goal.are_greatest-requires-clause-start
are_greatest-requires-clause-start c =
    let h = c.requires.certificate in
    let first = h.inside 0 (record { index = 0 }) h.circuit.not_empty in
    omega (arith, first.from_member.in_range, c.requires.count, c.first_of.ensures)

pub are_greatest-requires-clause-told : goal.are_greatest-requires-clause-told
are_greatest-requires-clause-told c = λ i d l.
    let m = are_members c.args.part_of.now c.args.told.now.number c.args.told.now.potentials.now c.requires.certificate.members i d l in
    omega (arith, m.in_range, c.requires.count)

pub returns : goal.returns
returns c = λ yes. record { lowest_first = search rules; sums = rw c.first_of.ensures at (c.in_ok-greatest.ensures yes) }
