use Rattle.std.proofs.Common.{◌≡◌, rules, length, ◌∙◌}
use Rattle.teg_net.specs.Certificates.{potential_at}
use Rattle.teg_net.proofs.PathLaws.{IsPathBetween-in_range}
use Rattle.dioid_spectra.proofs.CircuitSums.{critical_circuit}
use Rattle.dioid_spectra.proofs.MatrixNetLaws.{eigen_of, irreducible, live, member_of, reducible}
use Rattle.dioid_spectra.proofs.spectra.eigen.Goals as goal

pub returns-then-count-ne1-clause-refused : goal.returns-then-count-ne1-clause-refused
returns-then-count-ne1-clause-refused c =
    let square : c.args.a.now.rows ≡ c.args.a.now.columns = search rules in
    reducible c.args.a.now _ c.in_ok-net.net c.in_ok-net.ensures.net square c.rows.ensures.table.some_rows c.in_ok-parts.parts c.in_ok-parts.ensures
    (rw c.count.ensures.value at c.if-count-ne1.true)

pub tight_potentials-requires-clause-live : goal.tight_potentials-requires-clause-live
tight_potentials-requires-clause-live c = live c.args.a.now _ c.in_ok-net.net c.in_ok-net.ensures.net

pub returns-clause-eigen : goal.returns-clause-eigen
returns-clause-eigen c =
    let square : c.args.a.now.rows ≡ c.args.a.now.columns = search rules in
    let one : length c.in_ok-parts.parts.inner ≡ 1 = search rules in
    let numbers = rw c.deref.ensures.value at c.in_ok-vector.ensures.numbers in
    eigen_of c.args.a.now _ c.in_ok-net.net c.in_ok-net.ensures.net square c.in_ok-parts.parts.part_of
    (member_of c.args.a.now _ c.in_ok-net.net c.in_ok-net.ensures.net c.in_ok-parts.parts c.in_ok-parts.ensures one)
    c.in_ok-ratio.ratio (potential_at c.in_ok-ratio.potentials.items) c.in_ok-ratio.ensures.tight c.in_ok-vector.vector.items
    (λ i l. numbers i (rw c.rows-2.ensures.value l)) c.value_of.result c.value_of.ensures.time c.value_of.ensures.steps c.in_ok-ratio.ensures.ratio.some
    (c.in_ok-vector.ensures.count ∙ c.rows-2.ensures.value)

pub returns-clause-irreducible : goal.returns-clause-irreducible
returns-clause-irreducible c =
    let one : length c.in_ok-parts.parts.inner ≡ 1 = search rules in
    irreducible c.args.a.now _ c.in_ok-net.net c.in_ok-net.ensures.net c.in_ok-parts.parts c.in_ok-parts.ensures one

pub returns-clause-critical : goal.returns-clause-critical
returns-clause-critical c =
    let square : c.args.a.now.rows ≡ c.args.a.now.columns = search rules in
    rw c.in_ok-circuit.ensures (critical_circuit c.args.a.now _ c.in_ok-net.net c.in_ok-net.ensures.net square c.in_ok-ratio.ratio c.in_ok-ratio.circuit.places.items c.in_ok-ratio.ensures.circuit c.value_of.result c.value_of.ensures.time c.value_of.ensures.steps)

pub rows_of-requires : goal.rows_of-requires
rows_of-requires c =
    let closed = c.in_ok-ratio.ensures.circuit.circuit.closed in
    IsPathBetween-in_range c.in_ok-net.net c.in_ok-ratio.circuit.places.items closed.0 closed.0 closed.1
