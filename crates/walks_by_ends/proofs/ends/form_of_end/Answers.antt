use Rattle.std.proofs.Common.{ℕ, List, ◌≡◌, ◌∙◌, get_or, sym, ap, subst}
use Rattle.std.proofs.lemmas.List.{get_or_default}
use Rattle.teg_net.specs.declared.entries.Place.{Place}
use Rattle.teg_net.specs.Circuits.{no_place, place_at}
use Rattle.teg_net.specs.Nets.{NetLists}
use Rattle.teg_settle.specs.walk_times.Transfers.{IsTransferOf}
use Rattle.end_laws.specs.Ends.{net_led_to}
use Rattle.walks_by_ends.proofs.FormsOfEnds.{form_of_end}
use Rattle.walks_by_ends.proofs.ends.form_of_end.Goals as goal

pub returns-then-period-eq1 : goal.returns-then-period-eq1
returns-then-period-eq1 c =
    let net = c.args.net.now in
    let p = c.args.place in
    let read = c.index-places-place.result in
    let is : read ≡ place_at net p =
    c.index-places-place.is ∙ (ap (λ (ps : List Place). get_or ps p.index read) c.places.ensures.value ∙ get_or_default net.places p.index read no_place c.requires.place) in
    let f = c.in-Ok.form in
    let led = subst (λ (n : NetLists). IsTransferOf n read.from.index f) c.in_ok-led.ensures.led c.in-Ok.ensures.form in
    let here = subst (λ (x : Place). IsTransferOf (net_led_to net x.from.index x.to.index) x.from.index f) is led in
    form_of_end c.ends_are_asked.ensures.times net c.places.ensures.rules p c.requires.place c.requires.input f here c.period.ensures.kept (sym c.period.ensures.value ∙ c.if-period-eq1.true)
