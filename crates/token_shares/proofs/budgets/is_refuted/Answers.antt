use Rattle.std.proofs.Common.{rules, sym, subst}
use Rattle.token_shares.specs.KeptCuts.{IsCut}
use Rattle.token_shares.proofs.Cutting.{refuted}
use Rattle.token_shares.proofs.budgets.is_refuted.Goals as goal

pub returns-then-is_above : goal.returns-then-is_above
returns-then-is_above c =
    let net = c.args.asked.now.plain.now in
    let places = c.args.asked.now.places.now in
    let cut : IsCut net places c.cut-item.result =
    subst (IsCut net places) (sym c.cut-item.is) (c.requires.cuts c.loop-cut.cut-index c.cut-item.result c.loop-cut-test.true) in
    λ _ enough. refuted net c.args.asked.now.target places c.args.numbers.now c.cut-item.result c.requires.asked.in_range cut (c.is_above.ensures.0 (search rules)) enough
