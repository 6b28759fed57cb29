use Rattle.std.proofs.Common.{ℕ, ◌+◌, ◌-◌, ◌≡◌, List, [], length, length-set, Bool, true, get_or, set, subst, ◌∙◌, arith, rules}
use Rattle.std.proofs.lemmas.Grind.{common_steps}
use Rattle.teg_net.specs.declared.entries.PlaceId.{PlaceId}
use Rattle.teg_net.specs.Nets.{NetLists}
use Rattle.teg_net.specs.Circuits.{place_at}
use Rattle.teg_check.specs.Exits.{IsUnranked, AreExitsLeft}
use Rattle.teg_check.proofs.Liveness.{ranking_is_live}
use Rattle.teg_check.proofs.Ranking.{Ranked, ranked_more, ranking, some_unranked}
use Rattle.teg_check.proofs.elimination.check.Goals as goal

pub unwrap-start-requires : goal.unwrap-start-requires
unwrap-start-requires c =
    let h = c.loop-rank.invariant.0 in
    let some = some_unranked c.loop-rank.ranked.items (omega (arith, c.loop-rank-test.true, h.left, h.count_ranked)) in
    let none = rw c.deref-in_default.ensures.value at c.first_unranked.ensures.none in
    search rules

pub loop-rank-init : goal.loop-rank-init
loop-rank-init c =
    let h : Ranked c.args.net.now c.in_ok-ranks.ranks.items c.in_ok-ranked.ranked.items (length c.transitions-count.result.now) = grind (arith, common_steps) in
    (h, c.in_ok-exits.ensures c.in_ok-ranked.ranked.items h.count_ranked)

-- what is unranked still was so before
still : (ranked : List Bool) (t s : ℕ) → IsUnranked (set ranked t true) s → IsUnranked ranked s
still ranked t s f = grind (arith, common_steps)

-- a transition is ranked
sink_ranked :
    (net : NetLists) (ranked : List Bool) (lists : List (List PlaceId)) (passed : List ℕ) (t : ℕ)
    → AreExitsLeft net ranked lists passed → AreExitsLeft net (set ranked t true) lists passed
sink_ranked net ranked lists passed t h = record {
  leaving = h.leaving;
  count_ranked = length-set ranked t true ∙ h.count_ranked;
  count = h.count;
  no_exits = λ s i d l m x.
      h.no_exits s i d l m (record {
        in_range = x.in_range;
        begins = x.begins;
        no_tokens = x.no_tokens;
        ends_unranked = still ranked t (place_at net (get_or (get_or lists s []) i d)).to.index x.ends_unranked;
      });
}

pub loop-rank-preserved : goal.loop-rank-preserved
loop-rank-preserved c =
    let net = c.args.net.now in
    let ranked = c.loop-rank.ranked.items in
    let rank : ℕ = c.loop-rank.rank - 1 in
    let sink = c.in-Some.sink in
    let next : c.loop-rank.rank ≡ rank + 1 = omega (arith, c.loop-rank-test.true) in
    let h : Ranked net c.loop-rank.ranks.items ranked (rank + 1) = subst (λ n. Ranked net c.loop-rank.ranks.items ranked n) next c.loop-rank.invariant.0 in
    let left = rw c.deref.ensures.value at c.in-Some.ensures.exits in
    let unranked = rw c.deref.ensures.value at c.in-Some.ensures.unranked in
    let no_exit = rw c.deref.ensures.value at c.in-Some.ensures.no_exit in
    (ranked_more net c.loop-rank.ranks.items ranked rank sink c.transitions-count.ensures.rules h unranked no_exit, sink_ranked net ranked _ _ sink left)

pub returns-clause-ranks : goal.returns-clause-ranks
returns-clause-ranks c =
    let zero_is : c.loop-rank.rank ≡ 0 = omega (arith, c.loop-rank-test.false) in
    rw c.new-2.ensures (ranking c.args.net.now c.loop-rank.ranks.items c.loop-rank.ranked.items (rw zero_is at c.loop-rank.invariant.0))

pub returns-clause-live : goal.returns-clause-live
returns-clause-live c =
    let zero_is : c.loop-rank.rank ≡ 0 = omega (arith, c.loop-rank-test.false) in
    ranking_is_live c.args.net.now c.loop-rank.ranks.items (ranking c.args.net.now c.loop-rank.ranks.items c.loop-rank.ranked.items (rw zero_is at c.loop-rank.invariant.0))
