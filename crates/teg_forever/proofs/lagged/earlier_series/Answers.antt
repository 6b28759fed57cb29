use Rattle.std.proofs.Common.{◌≡◌, ◌∷◌, [], ◌∙◌, pos, ap, to_z, of_z}
use Rattle.std.specs.Int.{w128}
use Rattle.std.proofs.lemmas.Int.{to_z-of_z}
use Rattle.dioid.specs.declared.dates.Date.TheVariants.{At}
use Rattle.forever_laws.specs.series_laws.SeriesForms.{form_with}
use Rattle.teg_forever.proofs.LaggedReleases.{earlier_ok}
use Rattle.teg_forever.proofs.lagged.earlier_series.Goals as goal

pub returns : goal.returns
returns c =
    let lag = c.args.lag in
    let known : to_z w128 (of_z w128 lag) ≡ lag = to_z-of_z w128 lag (record { sfits = c.ranges.lag.sfits }) in
    earlier_ok lag c.in_ok-delay.delay c.args.series.now _ _ c.left.result (c.in_ok-delay.ensures.0 ∙ ap (λ z. form_with (At z ∷ []) 1 (pos 0)) known) c.left.ensures.right c.left.ensures.answer
