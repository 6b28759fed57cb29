use Rattle.std.proofs.Common.{◌≡◌, ◌≤◌, ◌∷◌, ◌++◌, [], length, sym, subst, ◌∙◌}
use Rattle.std.specs.Prelude.{All}
use Rattle.std.proofs.lemmas.List.Elements.{All-push}
use Rattle.token_shares.specs.KeptCuts.{times_passed}
use Rattle.token_shares.proofs.Cutting.{passed_more}
use Rattle.token_shares.proofs.cuts.all_passed.Goals as goal

pub loop-place-preserved : goal.loop-place-preserved
loop-place-preserved c =
    let path = c.args.path.now in
    let h = c.loop-place.invariant in
    let n = c.times_passed.result in
    let items : c.push.new.self.items ≡ c.loop-place.passes.items ++ n ∷ [] = c.in_ok-push.ensures.items in (
      items ∙ passed_more (λ p. times_passed p path) c.args.places.now c.loop-place.passes.items c.loop-place.place-index (record { index = 0 }) n c.loop-place-test.true h.0 c.times_passed.ensures.times,
      subst (All (λ m. m ≤ length path)) (sym items) (All-push (λ m. m ≤ length path) c.loop-place.passes.items n h.1 c.times_passed.ensures.most),
    )
