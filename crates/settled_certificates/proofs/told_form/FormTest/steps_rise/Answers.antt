use Rattle.std.proofs.Common.{◌≡◌, ◌<◌, ◌≤◌, length, refl, sym, ap, arith, ⊎_elim}
use Rattle.std.proofs.lemmas.Bool.{cases_lt}
use Rattle.std.proofs.lemmas.List.{get_or_default}
use Rattle.teg_net.specs.Circuits.{no_place}
use Rattle.settled_certificates.proofs.told_form.FormTest.steps_rise.Goals as goal

pub loop-index-preserved : goal.loop-index-preserved
loop-index-preserved c = λ q l. ⊎_elim
    (λ (m : q < c.loop-index.index). c.loop-index.invariant q m)
    (λ (m : c.loop-index.index ≤ q).
    let is : q ≡ c.loop-index.index = omega (arith, m, l) in
    let new_is : c.new.result.index ≡ c.loop-index.index = c.new.ensures in
    rw is (rw new_is at (c.rises_along.ensures.0 c.if-not-rises_along.false)))
    (cases_lt q c.loop-index.index)

pub returns : goal.returns
returns c = (
  λ yes k d l.
      let places = c.args.self.now.told.net.places in
      let told : places ≡ c.self.inside.rows.now.net.places = sym (ap (λ f. f.told.net.places) c.self.view_is) in
      let end : length places ≤ c.loop-index.index = rw (c.places-index-end.ensures.value, ← told) at c.loop-index-test.false in
      rw (get_or_default places k d no_place l) (c.loop-index.invariant k (omega (arith, l, end))),
  λ h. refl,
)
