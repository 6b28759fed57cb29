use Rattle.std.proofs.Common.{ℕ, ◌≡◌, ◌-◌, List, length, sym, subst, ◌∙◌, arith}
use Rattle.teg_net.specs.declared.entries.PlaceId.{PlaceId}
use Rattle.teg_net.specs.Nets.{NetLists, IsNet}
use Rattle.teg_net.specs.Ratios.{Fraction}
use Rattle.teg_sizing.specs.declared.rounds.ValueCell.{ValueCell}
use Rattle.teg_sizing.specs.TracedPaths.{trace_of, last_round}
use Rattle.teg_sizing.specs.Surpluses.{IsToldMore, AreRoundsApart}
use Rattle.teg_sizing.proofs.Looping.{IsLongPath, long_path, above_found}
use Rattle.teg_sizing.proofs.surpluses.loop_of.Goals as goal

-- the path that is traced
long_of : (net : NetLists) (r : Fraction) (p : PlaceId) (rounds : List (List ValueCell)) (ok : IsNet net)
    (h : AreRoundsApart net r p rounds) (t : ℕ) (path : List PlaceId) → IsToldMore (last_round rounds) t → path ≡ trace_of net rounds (length rounds) t
    → IsLongPath net r p h.first h.told.all ok h.starts h.told.are h.told.long path t
long_of net r p rounds ok h t path better is =
    let far = long_path net r p h.first h.told.all ok h.starts h.told.are h.told.long t (subst (λ (z : List ValueCell). IsToldMore z t) h.told.last better) in
    subst (λ (z : List PlaceId). IsLongPath net r p h.first h.told.all ok h.starts h.told.are h.told.long z t) (sym (is ∙ h.told.paths t)) far

pub trace-requires-clause-rounds : goal.trace-requires-clause-rounds
trace-requires-clause-rounds c = c.requires.apart.of_net

pub trace-requires-clause-end : goal.trace-requires-clause-end
trace-requires-clause-end c =
    let h = c.requires.apart in
    let some = h.told.some in
    let count = h.of_net.counts (length c.args.all.now - 1) (omega arith) in
    let low = c.requires.better.in_range in
    omega arith

pub first_loop-requires-clause-path : goal.first_loop-requires-clause-path
first_loop-requires-clause-path c =
    let w = long_of c.args.asked.now.net.now c.args.asked.now.target c.args.asked.now.place c.args.all.now c.requires.rules c.requires.apart c.args.end
    c.deref.result.now c.requires.better (c.deref.ensures.value ∙ c.in_ok-path.ensures) in
    (w.from, c.args.end, w.path)

pub first_loop-requires-clause-long : goal.first_loop-requires-clause-long
first_loop-requires-clause-long c =
    let w = long_of c.args.asked.now.net.now c.args.asked.now.target c.args.asked.now.place c.args.all.now c.requires.rules c.requires.apart c.args.end
    c.deref.result.now c.requires.better (c.deref.ensures.value ∙ c.in_ok-path.ensures) in
    let size = w.size in
    omega arith

pub returns : goal.returns
returns c =
    let h = c.requires.apart in
    let w = long_of c.args.asked.now.net.now c.args.asked.now.target c.args.asked.now.place c.args.all.now c.requires.rules h c.args.end
    c.deref.result.now c.requires.better (c.deref.ensures.value ∙ c.in_ok-path.ensures) in
    above_found c.args.asked.now.net.now c.args.asked.now.target c.args.asked.now.place h.first h.told.all c.requires.rules
    h.starts h.told.are h.told.long c.deref.result.now c.in_ok-own.own.items c.args.end w c.in_ok-own.ensures
