use Rattle.std.proofs.Common.{◌<◌, ◌≤◌, ◌≡◌, length, get_or, sym, subst, ◌∙◌, arith, ⊎_elim}
use Rattle.std.proofs.lemmas.Bool.{cases_lt}
use Rattle.std.proofs.lemmas.List.{get_or_default}
use Rattle.own_periods.specs.OwnRows.{KeepsOwnSlack}
use Rattle.own_periods.proofs.slack.all_keep_slack.Goals as goal

pub loop-place-preserved : goal.loop-place-preserved
loop-place-preserved c = λ i d l.
    let n = c.loop-place.place-index in
    let items = c.places-place-items.result.now in
    ⊎_elim
    (λ (q : i < n). c.loop-place.invariant i d q)
    (λ (q : n ≤ i).
    let is : n ≡ i = omega (arith, q, l) in
    let same : get_or items n d ≡ c.place-item.result = get_or_default items n d c.place-item.result c.loop-place-test.true ∙ sym c.place-item.is in
    subst (λ j. KeepsOwnSlack c.args.of.now.rows.now c.args.of.now.pace c.args.of.now.owns.now (get_or items j d)) is
    (subst (KeepsOwnSlack c.args.of.now.rows.now c.args.of.now.pace c.args.of.now.owns.now) (sym same) (c.keeps_slack.ensures c.if-not-keeps_slack.false)))
    (cases_lt i n)

pub returns : goal.returns
returns c = λ yes i d l.
    let own = c.places-place-items.result.now in
    let same : own ≡ c.args.of.now.net.now.places = c.places-place-items.ensures.value in
    let end : c.loop-place.place-index ≡ length own = omega arith in
    let there : i < length own = rw same l in
    subst (λ ps. KeepsOwnSlack c.args.of.now.rows.now c.args.of.now.pace c.args.of.now.owns.now (get_or ps i d)) same (c.loop-place.invariant i d (omega (arith, there, end)))
