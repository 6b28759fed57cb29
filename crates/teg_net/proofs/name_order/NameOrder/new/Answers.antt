use Rattle.std.proofs.Common.{rules, ◌≡◌, ◌∙◌, ◌<◌, List, length, get_or, false, Result, Ok, Err, sym, refl, ap, subst, arith}
use Rattle.std.specs.Prelude.{OnOk}
use Rattle.std.specs.Result.{is_err}
use Rattle.std.proofs.lemmas.List.{take_all}
use Rattle.teg_net.specs.declared.entries.Transition.{Transition}
use Rattle.teg_net.specs.NameOrders.{HasNames}
use Rattle.teg_net.proofs.NameOrderLaws.{has_more}
use Rattle.teg_net.proofs.name_order.NameOrder.new.Goals as goal

on_ok : {X E : Type 0} (r : Result X E) (P : Type 0) → is_err r ≡ false → OnOk r P → P
on_ok (Ok x) P h p = p
on_ok (Err e) P h p = cc h

pub loop-index-init : goal.loop-index-init
loop-index-init c = record {
  sound = λ name. rw c.new-ids.ensures.empty tt;
  whole = λ k d below. absurd (omega (arith, below));
}

pub loop-index-preserved : goal.loop-index-preserved
loop-index-preserved c =
    let ts = c.args.net.now.transitions in
    let items = c.transitions-transition-items.ensures.value in
    let lt : c.loop-index.index < length ts = rw (sym items) (search rules) in
    let named : c.as_bytes-name.result.now ≡ (get_or ts c.loop-index.index c.transition-item.result).name =
    c.as_bytes-name.ensures.value ∙ c.as_str.ensures.text
    ∙ ap (λ (t : Transition). t.name) (c.transition-item.is ∙ ap (λ (xs : List Transition). get_or xs c.loop-index.index c.transition-item.result) items) in
    has_more ts c.loop-index.index c.transition-item.result c.loop-index.ids c.insert.new.self c.as_bytes-name.result.now _ lt c.loop-index.invariant named refl
    (on_ok c.insert.result _ (sym c.is_err.ensures.value ∙ c.if-is_err.false) c.insert.ensures.updates)

pub invariant_of-result : goal.invariant_of-result
invariant_of-result c =
    let ts = c.args.net.now.transitions in
    subst (λ xs. HasNames ts xs c.loop-index.ids) (take_all c.loop-index.index ts (rw (sym c.transitions-transition-items.ensures.value) c.loop-index-test.false)) c.loop-index.invariant
