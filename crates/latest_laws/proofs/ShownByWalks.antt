-- A walk bounds the dates of feasible datings at its ends.
use Rattle.std.proofs.Common.{ℕ, ◌<◌, ◌≤◌, length, arith, sym}
use Rattle.std.specs.Prelude.{pos}
use Rattle.std.proofs.lemmas.Int.{ints}
use Rattle.teg_model.specs.dioid.declared.dates.Date.TheVariants.{At}
use Rattle.teg_model.specs.dioid.Dates.{delayed}
use Rattle.teg_model.proofs.dioid_proofs.DateOrder.{at_most_trans, delayed_rises}
use Rattle.teg_model.specs.teg_net.ReadyDates.{start_date}
use Rattle.teg_model.specs.teg_net.Walks.{walk_time}
use Rattle.teg_model.proofs.WalkSteps.{walk_below}
use Rattle.teg_model.proofs.GreatestWalks.{not_before_ready}
use Rattle.teg_model.proofs.DateFunctions.{Dating}
use Rattle.latest_laws.specs.ShownByWalks.{TightWalksBound, LateWalksBound, LateWalksRefuse}
use Rattle.due_laws.specs.LatestDates.{IsDateToDue}
use Rattle.due_laws.proofs.LatestDates.{feasible_keeps, walk_ends_in}
use Rattle.latest_laws.proofs.BackwardEquations.{below_walk}

pub tight_walks_bound : TightWalksBound
tight_walks_bound net ok due t k date w h u x f keeps =
    let ends = ok in
    let here : t < length net.transitions = rw h.from at h.is_walk.start_in in
    let one : 1 ≤ k = rw h.number at h.is_walk.number_in in
    let d = h.leads in
    let to : IsDateToDue net due t k date = record { to = d.0; number = d.1; due_date = d.2; steps = w.steps.items; walk = d.3; is_due = d.4; is = d.5 } in
    below_walk net due x ends (feasible_keeps net u x f) keeps t k date here one to

pub late_walks_bound : LateWalksBound
late_walks_bound net ok t k start date w h u x f =
    let ends = ok in
    let a : ℕ = w.start.index in
    let s : ℕ = w.number in
    let time : ℕ = walk_time net w.steps.items in
    let first : ℕ = start_date net a s in
    let in' = h.is_walk.start_in in
    let one = h.is_walk.number_in in
    let along = walk_below net x ends (feasible_keeps net u x f) w.steps.items a s t k in' one h.ends in
    let begun = delayed_rises time (At (pos first)) (x a s) (not_before_ready net u x f a s in' one) in
    let low = at_most_trans (delayed time (At (pos first))) (delayed time (x a s)) (x t k) begun along in
    rw (sym h.takes, h.starts) low

pub late_walks_refuse : LateWalksRefuse
late_walks_refuse net ok due t k start date d w h is_due past v meets =
    let x : Dating = meets.0 in
    let end = walk_ends_in net ok w.steps.items w.start.index w.number t k h.is_walk.start_in h.is_walk.number_in h.ends in
    let low = late_walks_bound net ok t k start date w h v x meets.1.feasible in
    let both = at_most_trans (At (pos date)) (x t k) (At (pos d)) low (meets.2 t k d end.0 end.1 is_due) in
    absurd (omega (arith, ints, both, past))
