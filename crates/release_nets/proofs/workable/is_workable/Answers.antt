use Rattle.std.proofs.Common.{ℕ, List, subst, ◌≤◌, ◌<◌, ◌≡◌, ◌+◌, ◌*◌, length, get_or, ⊎_elim, arith}
use Rattle.std.proofs.lemmas.List.{get_or_read}
use Rattle.release_nets.proofs.Planning.{not_ready}
use Rattle.release_nets.proofs.workable.is_workable.Goals as goal

pub returns-then-from-place-clause-fails : goal.returns-then-from-place-clause-fails
returns-then-from-place-clause-fails c = λ e h.
    let p = c.args.place.now in
    let t = c.args.table.now in
    let late = subst (λ (xs : List ℕ). (k : ℕ) × (k < length xs) × (c.index-to.result.now + c.args.period * k < get_or xs k 0)) c.as_slice.ensures (c.is_ready.ensures.late e) in
    let to_in = c.requires.place.to_in in
    let each = c.requires.table.one_each in
    let within : p.to.index < length t.firsts.items = omega arith in
    let to = get_or_read t.firsts.items p.to.index c.index-to.result.now within c.index-to.ensures 0 in
    let few : length p.ready ≤ p.tokens = ⊎_elim (λ (z : length p.ready ≡ 0). omega arith) (λ (s : length p.ready ≡ p.tokens). omega arith) c.requires.place.ready_all in
    not_ready c.args.period t p late.0 late.1 few (omega (arith, late.2)) h
