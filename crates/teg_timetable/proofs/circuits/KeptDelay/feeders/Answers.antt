use Rattle.std.proofs.Common.{ℕ, ◌<◌, ◌≡◌, length, refl, ap, subst, ◌∙◌}
use Rattle.teg_net.specs.declared.entries.PlaceId.{PlaceId}
use Rattle.teg_net.specs.Parts.{to_of}
use Rattle.teg_timetable.specs.WaysBack.{TopDelays}
use Rattle.teg_timetable.proofs.Feeding.{feeders_same, feeders_set}
use Rattle.teg_timetable.proofs.circuits.KeptDelay.feeders.Goals as goal
use Rattle.teg_timetable.proofs.circuits.KeptDelay.feeders.Goals.{then-feeds, else-feeds}

pub loop-index-preserved : goal.loop-index-preserved
loop-index-preserved c =
    let s = c.args.self.now in
    let k = c.loop-index.index in
    let id : PlaceId = record { index = k } in
    let old = c.loop-index.invariant in
    elim c.if-feeds.branch [
      | then-feeds w ↦
          let to : w.ends.result.1 ≡ to_of s.net id = w.ends.ensures.to ∙ ap (λ (z : TopDelays). to_of z.net id) c.self.view_is in
          let to_in : to_of s.net id < length s.net.transitions =
          subst (λ (n : ℕ). n < length s.net.transitions) to (subst (λ (z : TopDelays). w.ends.result.1 < length z.net.transitions) c.self.view_is w.ends.ensures.to_in) in
          rw (w.feeders-is, to) (feeders_set s k c.loop-index.feeders.items id refl old to_in (c.feeds.ensures.yes w.if-feeds.true))
      | else-feeds w ↦
          rw w.feeders-is (feeders_same s k c.loop-index.feeders.items id refl old (c.feeds.ensures.no w.if-feeds.false))
    ]
