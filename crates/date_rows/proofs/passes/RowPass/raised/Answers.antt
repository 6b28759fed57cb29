use Rattle.std.proofs.Common.{◌≡◌, length, map, get_or, ap, sym, ◌∙◌, arith}
use Rattle.dioid.specs.declared.dates.Date.TheVariants.{Early}
use Rattle.dioid.specs.Dates.{delayed, later_of}
use Rattle.teg_net.specs.Circuits.{no_place}
use Rattle.date_rows.specs.PlaceOrder.{IsOrderedPlaceOf}
use Rattle.date_rows.proofs.Bounded.{initial_within}
use Rattle.date_rows.proofs.Raising.{turn_in, held_read, taken_here, within_here, taken_before, within_before, taken_first}
use Rattle.date_rows.proofs.passes.RowPass.raised.Goals as goal

pub offset_bounds-row-place : goal.offset_bounds-row-place
offset_bounds-row-place g c =
    let place : IsOrderedPlaceOf c.self.inside.net.now c.args.place = rw (← c.self.view_is) at c.requires.place in
    let full : length c.args.row.now ≡ length c.self.inside.net.now.transitions = rw (← c.self.view_is) at c.requires.full in
    let turn = turn_in c.self.inside.net.now c.args.place c.self.invariant.rules place in
    omega (arith, full, turn.to_in)

pub bounds-row-place : goal.bounds-row-place
bounds-row-place g c =
    let place : IsOrderedPlaceOf c.self.inside.net.now c.args.place = rw (← c.self.view_is) at c.requires.place in
    let full : length c.args.row.now ≡ length c.self.inside.net.now.transitions = rw (← c.self.view_is) at c.requires.full in
    let turn = turn_in c.self.inside.net.now c.args.place c.self.invariant.rules place in
    rw full turn.to_in

pub offset_bounds-row-place-then-tokens-eq0 : goal.offset_bounds-row-place-then-tokens-eq0
offset_bounds-row-place-then-tokens-eq0 g c =
    let place : IsOrderedPlaceOf c.self.inside.net.now c.args.place = rw (← c.self.view_is) at c.requires.place in
    let full : length c.args.row.now ≡ length c.self.inside.net.now.transitions = rw (← c.self.view_is) at c.requires.full in
    let turn = turn_in c.self.inside.net.now c.args.place c.self.invariant.rules place in
    omega (arith, full, turn.from_in)

pub bounds-row-place-then-tokens-eq0 : goal.bounds-row-place-then-tokens-eq0
bounds-row-place-then-tokens-eq0 g c =
    let place : IsOrderedPlaceOf c.self.inside.net.now c.args.place = rw (← c.self.view_is) at c.requires.place in
    let full : length c.args.row.now ≡ length c.self.inside.net.now.transitions = rw (← c.self.view_is) at c.requires.full in
    let turn = turn_in c.self.inside.net.now c.args.place c.self.invariant.rules place in
    rw full turn.from_in

pub delayed-requires-clause-within : goal.delayed-requires-clause-within
delayed-requires-clause-within g c =
    let place : IsOrderedPlaceOf c.self.inside.net.now c.args.place = rw (← c.self.view_is) at c.requires.place in
    let full : length c.args.row.now ≡ length c.self.inside.net.now.transitions = rw (← c.self.view_is) at c.requires.full in
    let within = rw (← c.self.view_is) at c.requires.within in
    let turn = turn_in c.self.inside.net.now c.args.place c.self.invariant.rules place in
    let from = held_read g.C.DateCell.held c.args.row.now c.args.place.from.index _ (rw full turn.from_in) c.index-row-place-then-tokens-eq0.is in
    rw from (within_here c.self.inside.net.now (g.S.Source.initial c.self.inside.source.now) (g.P.Past.rows c.self.inside.past.now).back
    (map g.C.DateCell.held c.args.row.now) c.self.inside.number c.args.place place g.C.DateCell.most c.if-tokens-eq0.true
    c.self.invariant.one within)

pub delayed-requires-clause-hold : goal.delayed-requires-clause-hold
delayed-requires-clause-hold g c =
    let place : IsOrderedPlaceOf c.self.inside.net.now c.args.place = rw (← c.self.view_is) at c.requires.place in
    (turn_in c.self.inside.net.now c.args.place c.self.invariant.rules place).hold_in

pub back-requires-clause-transition : goal.back-requires-clause-transition
back-requires-clause-transition g c =
    let place : IsOrderedPlaceOf c.self.inside.net.now c.args.place = rw (← c.self.view_is) at c.requires.place in
    let turn = turn_in c.self.inside.net.now c.args.place c.self.invariant.rules place in
    rw c.self.invariant.reach.width turn.from_in

pub back-requires-clause-first : goal.back-requires-clause-first
back-requires-clause-first g c =
    omega arith

pub back-requires-clause-last : goal.back-requires-clause-last
back-requires-clause-last g c =
    let place : IsOrderedPlaceOf c.self.inside.net.now c.args.place = rw (← c.self.view_is) at c.requires.place in
    let enough = c.self.invariant.reach.tokens c.args.place.place.index no_place place.in_range in
    rw place.tokens (enough (omega (arith, place.tokens)))

pub delayed-requires-then-tokens-number-clause-within : goal.delayed-requires-then-tokens-number-clause-within
delayed-requires-then-tokens-number-clause-within g c =
    let place : IsOrderedPlaceOf c.self.inside.net.now c.args.place = rw (← c.self.view_is) at c.requires.place in
    let within = rw (← c.self.view_is) at c.requires.within in
    rw c.back.ensures (within_before c.self.inside.net.now (g.S.Source.initial c.self.inside.source.now) (g.P.Past.rows c.self.inside.past.now).back
    (map g.C.DateCell.held c.args.row.now) c.self.inside.number c.args.place place g.C.DateCell.most
    (omega arith) c.if-tokens-number.true within)

pub delayed-requires-then-tokens-number-clause-hold : goal.delayed-requires-then-tokens-number-clause-hold
delayed-requires-then-tokens-number-clause-hold g c =
    let place : IsOrderedPlaceOf c.self.inside.net.now c.args.place = rw (← c.self.view_is) at c.requires.place in
    (turn_in c.self.inside.net.now c.args.place c.self.invariant.rules place).hold_in

pub initial-requires-clause-last : goal.initial-requires-clause-last
initial-requires-clause-last g c =
    let place : IsOrderedPlaceOf c.self.inside.net.now c.args.place = rw (← c.self.view_is) at c.requires.place in
    omega (arith, place.tokens)

pub later_date-requires : goal.later_date-requires
later_date-requires g c =
    let place : IsOrderedPlaceOf c.self.inside.net.now c.args.place = rw (← c.self.view_is) at c.requires.place in
    rw c.initial.ensures (initial_within c.self.inside.net.now (g.S.Source.initial c.self.inside.source.now)
    (g.S.Source.release c.self.inside.source.now c.self.inside.net.now) g.C.DateCell.most c.self.inside.number c.args.place.place c.self.invariant.bounded
    place.in_range c.self.invariant.one (omega (arith, place.tokens)))

pub returns-then-tokens-eq0 : goal.returns-then-tokens-eq0
returns-then-tokens-eq0 g c =
    let place : IsOrderedPlaceOf c.self.inside.net.now c.args.place = rw (← c.self.view_is) at c.requires.place in
    let full : length c.args.row.now ≡ length c.self.inside.net.now.transitions = rw (← c.self.view_is) at c.requires.full in
    let turn = turn_in c.self.inside.net.now c.args.place c.self.invariant.rules place in
    let to = held_read g.C.DateCell.held c.args.row.now c.args.place.to.index _ (rw full turn.to_in) c.index-row-place.is in
    let from = held_read g.C.DateCell.held c.args.row.now c.args.place.from.index _ (rw full turn.from_in) c.index-row-place-then-tokens-eq0.is in
    rw (← c.self.view_is) (
    c.later.ensures ∙ ap (λ z. later_of z (g.C.DateCell.held c.delayed.result)) to
    ∙ ap (later_of (get_or (map g.C.DateCell.held c.args.row.now) c.args.place.to.index Early))
    (c.delayed.ensures ∙ ap (delayed c.args.place.hold) from
    ∙ sym (taken_here c.self.inside.net.now (g.S.Source.initial c.self.inside.source.now) (g.P.Past.rows c.self.inside.past.now).back
    (map g.C.DateCell.held c.args.row.now) c.self.inside.number c.args.place place c.if-tokens-eq0.true c.self.invariant.one)))

pub returns-then-tokens-number : goal.returns-then-tokens-number
returns-then-tokens-number g c =
    let place : IsOrderedPlaceOf c.self.inside.net.now c.args.place = rw (← c.self.view_is) at c.requires.place in
    let full : length c.args.row.now ≡ length c.self.inside.net.now.transitions = rw (← c.self.view_is) at c.requires.full in
    let turn = turn_in c.self.inside.net.now c.args.place c.self.invariant.rules place in
    let to = held_read g.C.DateCell.held c.args.row.now c.args.place.to.index _ (rw full turn.to_in) c.index-row-place.is in
    rw (← c.self.view_is) (
    c.later-then-tokens-number.ensures ∙ ap (λ z. later_of z (g.C.DateCell.held c.delayed-then-tokens-number.result)) to
    ∙ ap (later_of (get_or (map g.C.DateCell.held c.args.row.now) c.args.place.to.index Early))
    (c.delayed-then-tokens-number.ensures ∙ ap (delayed c.args.place.hold) c.back.ensures
    ∙ sym (taken_before c.self.inside.net.now (g.S.Source.initial c.self.inside.source.now) (g.P.Past.rows c.self.inside.past.now).back
    (map g.C.DateCell.held c.args.row.now) c.self.inside.number c.args.place place (omega arith) c.if-tokens-number.true)))

pub returns-else-tokens-number : goal.returns-else-tokens-number
returns-else-tokens-number g c =
    let place : IsOrderedPlaceOf c.self.inside.net.now c.args.place = rw (← c.self.view_is) at c.requires.place in
    let full : length c.args.row.now ≡ length c.self.inside.net.now.transitions = rw (← c.self.view_is) at c.requires.full in
    let turn = turn_in c.self.inside.net.now c.args.place c.self.invariant.rules place in
    let to = held_read g.C.DateCell.held c.args.row.now c.args.place.to.index _ (rw full turn.to_in) c.index-row-place.is in
    rw (← c.self.view_is) (
    c.later_date.ensures ∙ ap (λ z. later_of z c.initial.result) to
    ∙ ap (later_of (get_or (map g.C.DateCell.held c.args.row.now) c.args.place.to.index Early))
    (c.initial.ensures ∙ sym (taken_first c.self.inside.net.now (g.S.Source.initial c.self.inside.source.now) (g.P.Past.rows c.self.inside.past.now).back
    (map g.C.DateCell.held c.args.row.now) c.self.inside.number c.args.place place c.if-tokens-number.false)))
