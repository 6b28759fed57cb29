use Rattle.std.proofs.Common.{ℕ, ◌≡◌, List, length, subst, arith}
use Rattle.teg_net.specs.declared.entries.Place.{Place}
use Rattle.teg_bound.proofs.Greatest.{IsMostUpTo, at_some}
use Rattle.teg_bound.proofs.readings.greatest_hold.Goals as goal

pub returns : goal.returns
returns c =
    let places = c.args.net.now.places in
    let own = c.places-place-items.result.now in
    let same : own ≡ places = c.places-place-items.ensures.value in
    let hold = λ (p : Place). p.hold in
    let most = c.loop-place.greatest in
    let up = c.loop-place.invariant in
    let end : c.loop-place.place-index ≡ length own = omega arith in
    let whole : IsMostUpTo hold own 0 (length own) most = subst (λ (i : ℕ). IsMostUpTo hold own 0 i most) end up in
    let h : IsMostUpTo hold places 0 (length places) most = subst (λ (ps : List Place). IsMostUpTo hold ps 0 (length ps) most) same whole in
    record { attained = at_some hold places most c.requires h; greatest = λ k d l. h.greatest k d l }
