use Rattle.std.proofs.Common.{◌≡◌, ◌≤◌, sym, subst}
use Rattle.teg_net.specs.Limits.{greatest_input_date}
use Rattle.teg_net.specs.ReadyDates.{start_date, IsStartDate}
use Rattle.teg_net.proofs.StartDates.{start_date-whole, IsStartDate-start_date, start_date-most}
use Rattle.teg_net.proofs.net.Net.start_date.Goals as goal

pub returns-clause-meaning : goal.returns-clause-meaning
returns-clause-meaning c =
    let is : c.loop-place.start ≡ start_date c.args.self.now c.args.transition.index c.args.number =
    start_date-whole c.args.self.now _ _ _ _ _ c.loop-place.invariant c.places-place-items.ensures.value c.loop-place-test.false in
    subst (IsStartDate c.args.self.now c.args.transition.index c.args.number) (sym is) (IsStartDate-start_date c.args.self.now c.args.transition.index c.args.number)

pub returns-clause-most : goal.returns-clause-most
returns-clause-most c =
    let is : c.loop-place.start ≡ start_date c.args.self.now c.args.transition.index c.args.number =
    start_date-whole c.args.self.now _ _ _ _ _ c.loop-place.invariant c.places-place-items.ensures.value c.loop-place-test.false in
    subst (λ n. n ≤ greatest_input_date) (sym is) (start_date-most c.args.self.now c.args.transition.index c.args.number c.places-place-items.ensures.rules)
