use Rattle.std.proofs.Common.{ℕ, ◌<◌, ◌≤◌, ◌≡◌, List, length, get_or, sym, ap, subst, ◌∙◌, arith}
use Rattle.std.specs.Prelude.{All}
use Rattle.delay_laws.specs.declared.table.Timetable.{Timetable}
use Rattle.teg_net.specs.Nets.{NetLists}
use Rattle.release_nets.specs.PlannedNets.{IsPlannedNet}
use Rattle.teg_timetable.specs.Spreads.{LeftDelays}
use Rattle.release_nets.specs.ReleaseNetsBuilt.{AreBuilt}
use Rattle.teg_timetable.specs.WaysBack.{AreTopsOf, IsTop, top_delays}
use Rattle.teg_timetable.proofs.outcomes.outcome.Goals as goal

-- the greatest delays as they are made, and the position of a greatest as it is found in them
are_tops : (net : NetLists) (period : ℕ) (t : Timetable) → IsPlannedNet net period t → (d : LeftDelays) → length d.firsts ≡ length net.transitions → (tops seen : List ℕ)
    (start : ℕ) → AreBuilt (IsTop d) (length d.firsts) tops → seen ≡ tops → start < length seen → All (λ top. top ≤ get_or seen start 0) seen
    → AreTopsOf d (top_delays net period t tops start)
are_tops net period t h d width tops seen start made same start_in high =
    let built = subst (λ (n : ℕ). AreBuilt (IsTop d) n tops) width made in
    let within : start < length tops = subst (λ (xs : List ℕ). start < length xs) same start_in in
    let long = built.long in
    record {
      top = record { planned = h; count = built.long; start_in = omega (arith, within) };
      built = built;
      high = subst (λ (xs : List ℕ). All (λ top. top ≤ get_or xs start 0) xs) same high;
    }

pub highest-start-requires : goal.highest-start-requires
highest-start-requires c =
    let some = c.args.planned.now.kept.some_transition in
    let long = c.in_ok-tops.ensures.long in
    rw c.deref.ensures.value (omega (arith, some, long, c.requires.width))

pub outcome_by-requires-clause-tops : goal.outcome_by-requires-clause-tops
outcome_by-requires-clause-tops c =
    let p = c.args.planned.now in
    let tops = c.in_ok-tops.tops.items in
    let start = c.highest-start in
    let same = c.new-kept.ensures ∙ ap (λ (xs : List ℕ). top_delays p.net.now p.period p.table.now xs start.result) c.deref-2.ensures.value in
    subst (AreTopsOf c.args.left.now) (sym same)
    (are_tops p.net.now p.period p.table.now p.kept c.args.left.now c.requires.width tops c.deref.result.now start.result c.in_ok-tops.ensures c.deref.ensures.value
    start.ensures.in_range start.ensures.greatest)
