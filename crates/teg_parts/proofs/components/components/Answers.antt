use Rattle.std.proofs.Common.{ℕ, ◌≡◌, ◌≢◌, ◌<◌, ◌≤◌, None, length, ap, subst, arith, rules, ⊎_elim}
use Rattle.std.proofs.lemmas.Bool.{cases_lt}
use lib.ListN.{replicate}
use Rattle.teg_parts.specs.Components.{HasFound, found_at}
use Rattle.teg_net.proofs.Reading.{written_back}
use Rattle.teg_parts.proofs.Rooted.{found_none, are_components}
use Rattle.teg_parts.proofs.components.components.Goals as goal

pub loop-root-init : goal.loop-root-init
loop-root-init c =
    let n : ℕ = length c.transitions-count.result.now in
    let filled : c.in_ok-found.found.items ≡ replicate n None = c.in_ok-found.ensures.items_if_clones_equal (search rules) in
    record { found = rw filled (found_none c.args.net.now n (ap length c.transitions-count.ensures.value)); all = λ t l. absurd (omega arith) }

pub loop-root-preserved : goal.loop-root-preserved
loop-root-preserved c =
    let net = c.args.net.now in
    let root = c.loop-root.root in
    let old = c.loop-root.found.items in
    let new = c.find_part.new.found in
    let ok = c.loop-root.found.ok in
    let long : length new ≡ c.loop-root.found.len = omega (arith, c.find_part.auto.found, ok.0, ap length c.deref_mut.ensures.value) in
    let back = written_back new old c.loop-root.found.len long in
    let has : HasFound net root old new = rw c.deref_mut.ensures.value at c.in_ok-find_part.ensures in
    rw back
    (record {
      found = has.found;
      all = λ t l.
          ⊎_elim
          (λ (q : t < root). has.kept t (c.loop-root.invariant.all t q))
          (λ (q : root ≤ t). let e : root ≡ t = omega arith in subst (λ x. found_at new x ≢ None) e has.numbered)
          (cases_lt t root);
    })

pub numbers_of-requires : goal.numbers_of-requires
numbers_of-requires c =
    let count = c.loop-root.invariant.found.count in
    let same : length c.transitions-count.result.now ≡ length c.args.net.now.transitions = ap length c.transitions-count.ensures.value in
    rw c.deref.ensures.value (λ t l. c.loop-root.invariant.all t (omega (arith, c.loop-root-test.false)))

pub returns : goal.returns
returns c = are_components c.args.net.now c.loop-root.found.items c.in_ok-numbers.numbers.items c.loop-root.invariant.found (rw c.deref.ensures.value at c.in_ok-numbers.ensures)
