use Rattle.std.proofs.Common.{◌≡◌, get_or, sym, ◌∙◌}
use Rattle.std.proofs.lemmas.List.{get_or_read}
use Rattle.teg_net.specs.declared.answers.PartAnswer.TheVariants.{NoCircuit, Best}
use Rattle.pace_check.proofs.pace.is_part_told.Goals as goal

pub is_told_from_lowest-requires-clause-certificate : goal.is_told_from_lowest-requires-clause-certificate
is_told_from_lowest-requires-clause-certificate c =
    let answers = c.args.answer.now.parts.items in
    let n = c.args.number in
    let item = get_or_read answers n c.index.result.now c.requires.number c.index.ensures NoCircuit in
    let read : get_or answers n NoCircuit ≡ Best c.in-Best.ratio c.in-Best.circuit c.in-Best.potentials = sym item ∙ c.in-Best.is in
    rw (c.deref-in-Best-2.ensures.value, c.deref.ensures.value, c.deref-in-Best.ensures.value) (rw read at (c.requires.certificate.parts n c.requires.number))

pub returns-in-NoCircuit : goal.returns-in-NoCircuit
returns-in-NoCircuit c = λ yes.
    let answers = c.args.answer.now.parts.items in
    let n = c.args.number in
    let item = get_or_read answers n c.index.result.now c.requires.number c.index.ensures NoCircuit in
    let read : get_or answers n NoCircuit ≡ NoCircuit = sym item ∙ c.in-NoCircuit.is in
    rw read (rw read at (c.certificates_tell.ensures.parts c.args.net.now c.args.answer.now c.requires.certificate n c.requires.number))

pub returns-in_ok-from_lowest-in-Best : goal.returns-in_ok-from_lowest-in-Best
returns-in_ok-from_lowest-in-Best c = λ yes.
    let answers = c.args.answer.now.parts.items in
    let n = c.args.number in
    let item = get_or_read answers n c.index.result.now c.requires.number c.index.ensures NoCircuit in
    let read : get_or answers n NoCircuit ≡ Best c.in-Best.ratio c.in-Best.circuit c.in-Best.potentials = sym item ∙ c.in-Best.is in
    let h = rw read at (c.requires.certificate.parts n c.requires.number) in
    let tells = rw read at (c.certificates_tell.ensures.parts c.args.net.now c.args.answer.now c.requires.certificate n c.requires.number) in
    let low = rw (c.deref-in-Best-2.ensures.value, c.deref.ensures.value, c.deref-in-Best.ensures.value) at (c.in_ok-from_lowest-in-Best.ensures yes) in
    rw read
    (record {
      greatest = tells;
      terms = h.terms;
      circuit = h.circuit;
      inside = h.inside;
      attains = h.attains;
      token = h.token;
      lowest_first = low.lowest_first;
      members = h.members;
      sums = low.sums;
    })
