use Rattle.std.proofs.Common.{ℕ, List, Bool, ◌≡◌, ◌<◌, Option, Some, None, get_or, length, is_some, true, sym, ap, subst, ◌∙◌, arith, not}
use Rattle.std.proofs.lemmas.List.{get_or_read}
use Rattle.teg_net.specs.Circuits.{from_of}
use Rattle.teg_timetable.specs.WaysBack.{TopDelays}
use Rattle.teg_timetable.proofs.Trail.{circuit_of_trail, trail_more}
use Rattle.teg_timetable.proofs.circuits.KeptDelay.fed_circuit.Goals as goal

-- what is read of a transition that has no mark yet, and of one that has
none_read : (xs : List (Option ℕ)) (n i : ℕ) (o : Option ℕ) (b : Bool) → length xs ≡ n → i < n → o ≡ get_or xs i o → is_some o ≡ not b → b ≡ true → get_or xs i None ≡ None
none_read xs n i None b long l e s t = sym (get_or_read xs i None (omega arith) e None)
none_read xs n i (Some x) b long l e s t = cc

some_read : (xs : List (Option ℕ)) (n i : ℕ) (o : Option ℕ) (x : ℕ) → length xs ≡ n → i < n → o ≡ get_or xs i o → o ≡ Some x → get_or xs i None ≡ Some x
some_read xs n i o x long l e s = sym (get_or_read xs i o (omega arith) e None) ∙ s

pub feeder_at-feeder-requires : goal.feeder_at-feeder-requires
feeder_at-feeder-requires c = c.requires.some c.walk.at c.walk.invariant.at_in c.walk.invariant.is_most

pub ends-at-requires : goal.ends-at-requires
ends-at-requires c =
    subst (λ (s : TopDelays). c.feeder_at-feeder.result.index < length s.net.places) (sym c.self.view_is)
    (c.requires.sound c.walk.at c.feeder_at-feeder.result c.feeder_at-feeder.ensures).feeds.in_range

pub walk-preserved : goal.walk-preserved
walk-preserved c =
    let h = c.walk.invariant in
    let s = c.args.self.now in
    let none = none_read c.walk.left.items (length s.net.transitions) c.walk.at c.index.result.now c.is_none.result h.count h.at_in c.index.ensures c.is_none.ensures c.walk-test.true in
    let long : c.len.result ≡ length c.walk.trail.items = omega (arith, c.len.ensures, c.walk.trail.ok.0) in
    let feeder = c.requires.sound c.walk.at c.feeder_at-feeder.result c.feeder_at-feeder.ensures in
    let from : c.ends-at.result.0 ≡ from_of s.net c.feeder_at-feeder.result = c.ends-at.ensures.from ∙ ap (λ (z : TopDelays). from_of z.net c.feeder_at-feeder.result) c.self.view_is in
    let from_in : from_of s.net c.feeder_at-feeder.result < length s.net.transitions =
    subst (λ (n : ℕ). n < length s.net.transitions) from (subst (λ (z : TopDelays). c.ends-at.result.0 < length z.net.transitions) c.self.view_is c.ends-at.ensures.from_in) in
    rw (c.in_ok-insert.ensures.items, from, long)
    (trail_more s c.walk.left.items c.walk.trail.items c.walk.at h c.feeder_at-feeder.result none feeder from_in)

pub overflow_sub-len : goal.overflow_sub-len
overflow_sub-len c =
    let h = c.walk.invariant in
    let first = some_read c.walk.left.items (length c.args.self.now.net.transitions) c.walk.at c.index-2.result.now c.unwrap-first.result h.count h.at_in c.index-2.ensures c.unwrap-first.ensures in
    let mark = h.marks c.walk.at c.unwrap-first.result first in
    omega (arith, mark.0, c.len-2.ensures, c.walk.trail.ok.0)

pub returns : goal.returns
returns c =
    let h = c.walk.invariant in
    let first = some_read c.walk.left.items (length c.args.self.now.net.transitions) c.walk.at c.index-2.result.now c.unwrap-first.result h.count h.at_in c.index-2.ensures c.unwrap-first.ensures in
    let long : c.len-2.result ≡ length c.walk.trail.items = omega (arith, c.len-2.ensures, c.walk.trail.ok.0) in
    rw (c.truncate.ensures.items, long)
    (circuit_of_trail c.args.self.now c.walk.left.items c.walk.trail.items c.walk.at c.unwrap-first.result h first)
