use Rattle.std.proofs.Common.{ℕ, ◌<◌, ◌≤◌, ◌≡◌, length, inl, inr, sym, ◌∙◌, arith}
use Rattle.std.specs.Prelude.{◌⊎◌}
use Rattle.teg_timetable.specs.Spreads.{delay_left}
use Rattle.teg_timetable.proofs.Feeding.{feeders_go_back, kept, recovered}
use Rattle.teg_timetable.proofs.outcomes.outcome_by.Goals as goal

last_as : (count width : ℕ) (delay : ℕ → ℕ → ℕ) (last : ℕ) → count ≡ width → (last ≡ 0) ⊎ ((i : ℕ) × (i < count) × (1 ≤ delay i last))
    → (last ≡ 0) ⊎ ((i : ℕ) × (i < width) × (1 ≤ delay i last))
last_as count width delay last e (inl z) = inl z
last_as count width delay last e (inr h) = inr (h.0, omega (arith, h.1), h.2)

pub returns-then-most-eq0 : goal.returns-then-most-eq0
returns-then-most-eq0 c =
    let d = c.args.left.now in
    recovered c.args.kept.now d c.requires.settled c.requires.tops (sym c.most.ensures ∙ c.if-most-eq0.true) c.last_late.result
    (λ i k l a b. c.last_late.ensures.none i k (omega (arith, l, c.requires.width)) a b)
    (last_as (length d.firsts) (length c.args.kept.now.net.transitions) (delay_left d) c.last_late.result c.requires.width c.last_late.ensures.last)

pub circuit-requires : goal.circuit-requires
circuit-requires c =
    rw c.deref.ensures.value
    (feeders_go_back c.args.kept.now c.args.left.now c.requires.settled c.requires.tops (omega (arith, c.if-most-eq0.false, c.most.ensures))
    c.in_ok-feeders.feeders.items c.in_ok-feeders.ensures)

pub returns : goal.returns
returns c =
    let told = c.in_ok-circuit.ensures in
    kept c.args.kept.now c.args.left.now c.requires.settled c.requires.tops (omega (arith, c.if-most-eq0.false, c.most.ensures))
    c.in_ok-circuit.circuit.places.items told.circuit told.lowest told.good
