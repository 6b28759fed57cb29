use Rattle.std.proofs.Common.{ℕ, ◌*◌, ◌≡◌, ◌≤◌, List, length, sym, ap, subst, ◌∙◌, arith}
use Rattle.teg_net.specs.declared.entries.Transition.{Transition}
use Rattle.teg_net.specs.Limits.{greatest_hold, greatest_input_date}
use Rattle.timetable_calls.specs.Departures.{AreUpTo, IsRoundUpTo, AreRounded}
use Rattle.teg_net.proofs.NetRules.{net_ends}
use Rattle.teg_loops.proofs.Ends.{ends_below}
use Rattle.timetable_calls.proofs.Rounding.{rounded_first, rounded_more, small_enough, earliest}
use Rattle.timetable_calls.proofs.rounds.earliest_firsts.Goals as goal

pub loop-number-init : goal.loop-number-init
loop-number-init c =
    rounded_first c.args.net.now c.args.scale c.args.period greatest_input_date greatest_hold (ends_below c.args.net.now (net_ends c.args.net.now c.in_ok-firsts.ensures.rules))
    c.in_ok-firsts.firsts.items c.in_ok-firsts.ensures.starts

pub loop-number-preserved : goal.loop-number-preserved
loop-number-preserved c =
    let net = c.args.net.now in
    let after : List ℕ = c.in_ok-firsts-2.firsts.items in
    let own = c.in_ok-firsts-2.ensures in
    let ok = c.in_ok-firsts.ensures.rules in
    rounded_more net c.args.scale c.args.period greatest_input_date greatest_hold (ends_below net (net_ends net ok)) c.loop-number._number c.loop-number.firsts.items after
    (λ i d l. (ok.each_place i d l).hold_in) c.loop-number.invariant
    (subst (λ (z : List ℕ). IsRoundUpTo net c.args.scale c.args.period z (length net.places) after) c.deref.ensures.value own)

pub round-requires : goal.round-requires
round-requires c =
    let net = c.args.net.now in
    let value = c.deref.ensures.value in
    let all = ap (λ (z : List Transition). length z) c.transitions-number-end.ensures.value in
    let few : c.loop-number._number ≤ length net.transitions = omega (arith, c.loop-number.auto._number-end) in
    let small = small_enough net c.args.scale c.args.period c.loop-number._number c.loop-number.firsts.items c.in_ok-firsts.ensures.rules few c.loop-number.invariant in
    record {
      parts = c.requires.parts;
      count = ap (λ (z : List ℕ). length z) value ∙ c.loop-number.invariant.count;
      small = subst (λ (z : List ℕ). AreUpTo (c.args.scale * 10000000000000) z) (sym value) small;
    }

pub returns : goal.returns
returns c =
    let net = c.args.net.now in
    let all = ap (λ (z : List Transition). length z) c.transitions-number-end.ensures.value in
    let end : c.loop-number._number ≡ length net.transitions = omega (arith, c.loop-number-test.false, c.loop-number.auto._number-end) in
    earliest net c.args.scale c.args.period greatest_input_date greatest_hold (ends_below net (net_ends net c.in_ok-firsts.ensures.rules)) c.requires.time c.loop-number.firsts.items
    (subst (λ (k : ℕ). AreRounded net c.args.scale c.args.period greatest_input_date greatest_hold k c.loop-number.firsts.items) end c.loop-number.invariant)
