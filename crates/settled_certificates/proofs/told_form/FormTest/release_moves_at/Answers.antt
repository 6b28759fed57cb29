use Rattle.std.proofs.Common.{◌+◌, ◌≡◌, sym, ap, ◌∙◌}
use Rattle.dioid.specs.declared.dates.Date.TheVariants.{Early}
use Rattle.dioid.specs.Dates.{move}
use Rattle.teg_model.specs.Datings.{at_input, listed_releases}
use Rattle.teg_model.proofs.OfNet.{at_input_is}
use Rattle.settled_certificates.specs.ToldForms.{step_told}
use Rattle.settled_certificates.proofs.told_form.FormTest.release_moves_at.Goals as goal

pub returns : goal.returns
returns c =
    let f = c.args.self.now in
    let net = f.told.net in
    let t = c.args.transition.index in
    let k = c.args.number in
    let early : c.release-early.result ≡ at_input net t (listed_releases net t k) Early = rw c.net-net.ensures at c.release-early.ensures in
    let late : c.release-late.result ≡ at_input net t (listed_releases net t (k + f.period)) Early = rw (c.net-net.ensures, c.numbers-period.ensures.period) at c.release-late.ensures in
    let first = early ∙ at_input_is net t (listed_releases net t k) Early c.requires.input in
    let second = late ∙ at_input_is net t (listed_releases net t (k + f.period)) Early c.requires.input in
    let moved = rw c.index.ensures at c.has_moved.ensures in (
      λ yes. sym second ∙ (moved.0 yes ∙ ap (move (step_told f t)) first),
      λ h. moved.1 (second ∙ (h ∙ ap (move (step_told f t)) (sym first))),
    )
