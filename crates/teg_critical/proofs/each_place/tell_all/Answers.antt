use Rattle.std.proofs.Common.{ℕ, List, ◌≡◌, ◌<◌, ◌≤◌, length, get_or, arith, rules}
use Rattle.std.proofs.lemmas.List.{get_or_default, take_rest, length-drop}
use Rattle.std.proofs.lemmas.List.Elements.{All-take}
use Rattle.teg_critical.specs.declared.endings.Ending.{Ending}
use Rattle.teg_critical.specs.LossEndings.{IsEnding}
use Rattle.teg_critical.proofs.Ending.{no_ending, end_in, same_end}
use Rattle.teg_critical.proofs.EachPlace.{told_begin, told_group, told_end}
use Rattle.teg_critical.proofs.each_place.tell_all.Goals as goal

pub tell-init : goal.tell-init
tell-init c = (
  rw c.as_slice-rest.ensures.value (told_begin c.args.known.now.net.now c.args.best c.args.known.now.losses.now c.requires.can c.args.slacks.now c.requires.untold
      c.in_ok-order.order.items c.in_ok-order.ensures),
  omega arith,
)

pub least_losses-requires-clause-end : goal.least_losses-requires-clause-end
least_losses-requires-clause-end c =
    let rest : List Ending = c.tell.rest.now in
    let some : 0 < length rest = omega (arith, c.group_length-count.ensures.some, c.group_length-count.ensures.bound) in
    end_in c.args.known.now.net.now c.requires.can.rules (get_or rest 0 no_ending) (c.tell.invariant.0.known 0 no_ending some)

pub least_losses-requires-clause-wanted : goal.least_losses-requires-clause-wanted
least_losses-requires-clause-wanted c =
    let rest : List Ending = c.tell.rest.now in
    let some : 0 < length rest = omega (arith, c.group_length-count.ensures.some, c.group_length-count.ensures.bound) in
    let first : Ending = get_or rest 0 no_ending in
    same_end c.args.known.now.net.now rest c.group_length-count.result first c.tell.invariant.0.known c.group_length-count.ensures.ends some (get_or_default rest 0 no_ending first some)

pub tell_places-requires-clause-endings : goal.tell_places-requires-clause-endings
tell_places-requires-clause-endings c = All-take (IsEnding c.args.known.now.net.now) c.group_length-count.result c.tell.rest.now c.tell.invariant.0.known

pub offset_bounds-rest-count : goal.offset_bounds-rest-count
offset_bounds-rest-count c =
    let few : length c.tell.rest.now ≤ length c.as_slice-rest.result.now = c.tell.invariant.1 in
    let listed = c.in_ok-order.ensures.few in
    let net = c.requires.can.rules.few_places in
    omega (arith, c.group_length-count.ensures.bound, c.as_slice-rest.ensures.len, c.in_ok-order.order.ok.0)

pub tell-preserved : goal.tell-preserved
tell-preserved c =
    let rest : List Ending = c.tell.rest.now in
    let k : ℕ = c.group_length-count.result in
    let told = told_group c.args.known.now.net.now c.args.best c.tell.slacks c.tell_places.new.slacks rest k c.tell.invariant.0 c.tell_places.ensures in
    let few : length rest ≤ length c.as_slice-rest.result.now = c.tell.invariant.1 in
    rw (take_rest rest k) (told, omega (arith, length-drop k rest))

pub returns : goal.returns
returns c =
    let none : length c.tell.rest.now ≡ 0 = search rules in
    told_end c.args.known.now.net.now c.args.best c.tell.slacks c.tell.rest.now c.tell.invariant.0 none
