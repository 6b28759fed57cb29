use Rattle.std.proofs.Common.{ℕ, List, Bool, ◌≡◌, ◌<◌, Option, Some, None, get_or, length, is_some, true, sym, ◌∙◌, arith, not}
use Rattle.std.proofs.lemmas.List.{get_or_read}
use Rattle.std.proofs.lemmas.Result.{IfOk-weaker}
use Rattle.teg_check.specs.Exits.{IsUnranked, IsExit}
use Rattle.teg_check.proofs.Ranking.{unranked_in}
use Rattle.teg_check.proofs.Trail.{trail_more, circuit_of_trail, no_tokens_of_trail}
use Rattle.teg_check.proofs.exits.circuit_from.Goals as goal

none_read : (xs : List (Option ℕ)) (i : ℕ) (o : Option ℕ) (b : Bool) → i < length xs → o ≡ get_or xs i o → is_some o ≡ not b → b ≡ true → get_or xs i None ≡ None
none_read xs i o b l e s t = grind (arith, get_or_read xs i o l e None)

some_read : (ranked : List Bool) (left : List (Option ℕ)) (at : ℕ) (o : Option ℕ) (x : ℕ) → IsUnranked ranked at
    → length left ≡ length ranked → o ≡ get_or left at o → o ≡ Some x → get_or left at None ≡ Some x
some_read ranked left at o x f e r s =
    let in' : at < length left = omega (arith, unranked_in ranked at f, e) in
    sym (get_or_read left at o in' r None) ∙ s

pub walk-preserved : goal.walk-preserved
walk-preserved c =
    let h = c.walk.invariant.0 in
    let in' : c.walk.at < length c.walk.left.items = omega (arith, unranked_in c.args.ranked.now c.walk.at h.goes_on, h.count) in
    let none = none_read c.walk.left.items c.walk.at c.index.result.now c.is_none.result in' c.index.ensures c.is_none.ensures c.walk-test.true in
    let long : c.len.result ≡ length c.walk.trail.items = omega (arith, c.len.ensures, c.walk.trail.ok.0) in
    let exit : IsExit c.args.net.now c.args.ranked.now c.walk.at c.unwrap-exit.result = rw c.unwrap-exit.ensures at c.last_exit.ensures.exit in (
      rw (c.in_ok-push.ensures.items, c.place.ensures, long)
          (trail_more c.args.net.now c.args.ranked.now c.args.start c.walk.left.items c.walk.trail.items c.walk.at c.unwrap-exit.result exit h in' none),
      c.last_exit.ensures.exits,
    )

pub split_off-requires : goal.split_off-requires
split_off-requires c = let h = c.walk.invariant.0 in let m = h.marks c.walk.at c.unwrap-first.result
    (some_read c.args.ranked.now c.walk.left.items c.walk.at c.index-2.result.now c.unwrap-first.result h.goes_on
    h.count c.index-2.ensures c.unwrap-first.ensures) in let ok = c.walk.trail.ok in omega (arith, m.0, ok.0)

pub returns-clause-circuit : goal.returns-clause-circuit
returns-clause-circuit c = let h = c.walk.invariant.0 in
    IfOk-weaker c.split_off.result _ _ (λ w e.
    rw e (circuit_of_trail c.args.net.now c.args.ranked.now c.args.start c.walk.left.items c.walk.trail.items c.walk.at
    c.unwrap-first.result h (some_read c.args.ranked.now c.walk.left.items c.walk.at c.index-2.result.now
    c.unwrap-first.result h.goes_on h.count c.index-2.ensures c.unwrap-first.ensures))) c.split_off.ensures.tail

pub returns-clause-no_tokens : goal.returns-clause-no_tokens
returns-clause-no_tokens c =
    IfOk-weaker c.split_off.result _ _ (λ w e. rw e (no_tokens_of_trail c.args.net.now c.walk.trail.items c.unwrap-first.result c.walk.invariant.0.no_tokens)) c.split_off.ensures.tail
