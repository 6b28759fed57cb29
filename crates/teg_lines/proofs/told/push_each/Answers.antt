use Rattle.std.proofs.Common.{[], ◌++◌, List, ℕ, refl, subst, sym, ap, ◌∙◌, string_bytes, arith}
use Rattle.std.proofs.lemmas.List.{take_all}
use Rattle.teg_text.specs.Lines.{line_then}
use Rattle.teg_text.proofs.Joining.{lines_end}
use Rattle.teg_text.proofs.Listing.{all_items, more_items}
use Rattle.teg_lines.proofs.told.push_each.Goals as goal

pub push-requires : goal.push-requires
push-requires g c =
    subst (g.L.LineOf.is_there c.args.net.now) (sym c.item-item.is) (c.requires c.loop-item.item-index c.item-item.result c.loop-item-test.true)

pub loop-item-preserved : goal.loop-item-preserved
loop-item-preserved g c =
    let items = c.args.items.now in
    let item = c.item-item.result in
    let i = c.loop-item.item-index in
    let text = string_bytes c.loop-item.text in
    let line : _ → List ℕ = λ x. line_then (g.L.LineOf.line c.args.net.now x) [] in (
      more_items line (string_bytes c.args.text.now) text _ items items i item refl c.loop-item-test.true
          (c.in_ok-push.ensures.text ∙ ap (λ x. text ++ line_then (g.L.LineOf.line c.args.net.now x) []) c.item-item.is) c.loop-item.invariant.0,
      all_items g.L.LineOf.is_kept items items i item refl c.loop-item-test.true (subst g.L.LineOf.is_kept c.item-item.is c.in_ok-push.ensures.kept) c.loop-item.invariant.1,
    )

pub returns-clause-text : goal.returns-clause-text
returns-clause-text g c =
    let all = take_all c.loop-item.item-index c.args.items.now (omega (arith, c.loop-item-test.false)) in
    lines_end (g.L.LineOf.line c.args.net.now) c.args.items.now (string_bytes c.args.text.now) _ (rw all at c.loop-item.invariant.0)

pub returns-clause-kept : goal.returns-clause-kept
returns-clause-kept g c =
    let all = take_all c.loop-item.item-index c.args.items.now (omega (arith, c.loop-item-test.false)) in
    rw all at c.loop-item.invariant.1
