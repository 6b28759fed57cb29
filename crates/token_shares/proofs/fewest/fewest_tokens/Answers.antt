use Rattle.std.proofs.Common.{◌≡◌, ◌+◌, sym, subst}
use Rattle.teg_net.specs.Nets.{NetLists}
use Rattle.token_shares.specs.BareNets.{bare}
use Rattle.token_shares.specs.KeptCuts.{AreAsked}
use Rattle.token_shares.specs.TokenShares.{AreFewest, NoneIsEnoughBelow, SomeAreEnough}
use Rattle.token_shares.proofs.Apart.{bare_range}
use Rattle.token_shares.proofs.BareLaws.{bare_ranking, fewest_of, below_of, no_dates}
use Rattle.token_shares.proofs.fewest.fewest_tokens.Goals as goal

pub first_shares-requires-clause-asked : goal.first_shares-requires-clause-asked
first_shares-requires-clause-asked c =
    let held = c.args.held.now in
    let is : c.in_ok-plain.plain ≡ bare held = rw c.net.ensures.net at c.in_ok-plain.ensures in
    subst (λ (n : NetLists). AreAsked n c.live.result.now c.args.places.now c.args.target.now) (sym is) (record {
      ranking = bare_ranking held c.live.result.now c.live.ensures;
      no_dates = no_dates held;
      some = c.requires.some;
      few = c.requires.few;
      in_range = bare_range held c.args.places.now c.requires.places;
      target = c.requires.target;
    })

pub returns-in-Some-2 : goal.returns-in-Some-2
returns-in-Some-2 c =
    let held = c.args.held.now in
    let is : c.in_ok-plain.plain ≡ bare held = rw c.net.ensures.net at c.in_ok-plain.ensures in
    let found : AreFewest c.in_ok-plain.plain c.args.target.now c.args.places.now c.args.most c.in-Some-2.extra.items = rw c.in-Some-2.is at c.in_ok-extra.ensures.some in
    fewest_of held c.args.target.now c.args.places.now c.args.most c.in-Some-2.extra.items (rw is at found)

pub returns : goal.returns
returns c =
    let held = c.args.held.now in
    let r = c.args.target.now in
    let places = c.args.places.now in
    let is : c.in_ok-plain.plain ≡ bare held = rw c.net.ensures.net at c.in_ok-plain.ensures in
    let some : SomeAreEnough held r places = rw c.in_default.is at c.in_ok-circuit.ensures.none in
    let none : NoneIsEnoughBelow c.in_ok-plain.plain r places (c.args.most + 1) = rw c.in-None.is at c.in_ok-extra.ensures.none in
    (some, below_of held r places (c.args.most + 1) (rw is at none))
