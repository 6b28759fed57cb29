use Rattle.std.proofs.Common.{◌≡◌, List, arith, sym, subst}
use Rattle.std.specs.Prelude.{All}
use Rattle.std.proofs.lemmas.List.Elements.{All-push}
use Rattle.teg_net.specs.Nets.{NetLists}
use Rattle.teg_check.specs.Ranks.{IsRanking}
use Rattle.token_shares.specs.declared.cuts.Cut.{Cut}
use Rattle.token_shares.specs.KeptCuts.{IsCut}
use Rattle.token_shares.specs.TokenShares.{IsAbove, with_further}
use Rattle.token_shares.proofs.Further.{circuit_forth, count_further, ranking_further}
use Rattle.token_shares.proofs.budgets.are_shares.Goals as goal

pub above-requires-clause-live : goal.above-requires-clause-live
above-requires-clause-live c =
    let net = c.args.asked.now.plain.now in
    let places = c.args.asked.now.places.now in
    let is : c.in-Some.trial ≡ with_further net places c.args.numbers.now = rw c.in-Some.is at c.in_ok-trial.ensures.some in
    subst (λ (n : NetLists). IsRanking n c.args.asked.now.live.now) (sym is)
    (ranking_further net c.args.asked.now.live.now places c.args.numbers.now c.requires.asked.in_range c.requires.asked.ranking)

pub above-requires-clause-place : goal.above-requires-clause-place
above-requires-clause-place c =
    let net = c.args.asked.now.plain.now in
    let places = c.args.asked.now.places.now in
    let is : c.in-Some.trial ≡ with_further net places c.args.numbers.now = rw c.in-Some.is at c.in_ok-trial.ensures.some in
    let first = c.requires.asked.in_range 0 (record { index = 0 }) (omega (arith, c.requires.asked.some)) in
    rw (is, count_further net places c.args.numbers.now) first

pub cut_of-requires : goal.cut_of-requires
cut_of-requires c =
    let net = c.args.asked.now.plain.now in
    let places = c.args.asked.now.places.now in
    let ps = c.in-Some-2.circuit.places.items in
    let is : c.in-Some.trial ≡ with_further net places c.args.numbers.now = rw c.in-Some.is at c.in_ok-trial.ensures.some in
    let above : IsAbove c.in-Some.trial c.args.asked.now.target ps = rw c.in-Some-2.is at c.in_ok-circuit.ensures.some in
    let there : IsAbove (with_further net places c.args.numbers.now) c.args.asked.now.target ps = subst (λ (n : NetLists). IsAbove n c.args.asked.now.target ps) is above in
    circuit_forth net places c.args.numbers.now ps there.circuit

pub returns-clause-cuts : goal.returns-clause-cuts
returns-clause-cuts c =
    let net = c.args.asked.now.plain.now in
    let places = c.args.asked.now.places.now in
    subst (All (IsCut net places)) (sym {A = List Cut} c.in_ok-push.ensures.items)
    (All-push (IsCut net places) c.args.cuts.now.items c.in_ok-cut_of.field-0 c.requires.cuts c.in_ok-cut_of.ensures)
