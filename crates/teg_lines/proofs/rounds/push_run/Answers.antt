use Rattle.std.proofs.Common.{rules, ◌≡◌, ◌<◌, ◌^◌, ◌++◌, List, ℕ, length, map, slice_index_or, ap, sym, subst, ◌∙◌, string_bytes, arith}
use Rattle.std.proofs.lemmas.List.{get_or-map, length-map, take_all}
use Rattle.std.proofs.lemmas.List.Elements.{All-more}
use Rattle.std.specs.List.{range_with_len}
use Rattle.teg_lines.specs.RoundLines.{IsRoundKept, RoundLists, IsRoundIn, no_round, round_lines}
use Rattle.teg_lines.specs.CycleMeanings.{round_lists}
use Rattle.teg_text.specs.Lines.{written}
use Rattle.teg_text.proofs.Joining.{written_flat_map}
use Rattle.teg_text.proofs.Listing.{more_after}
use Rattle.teg_lines.proofs.rounds.push_run.Goals as goal

pub push_round-requires-clause-round : goal.push_round-requires-clause-round
push_round-requires-clause-round c =
    let rounds = c.args.rounds.now in
    let k = c.loop-turn.turn in
    let within : k < length rounds = c.loop-turn-test.true in
    let same : slice_index_or (map round_lists rounds) k no_round ≡ round_lists c.index-rounds-turn.result =
    get_or-map round_lists rounds k c.index-rounds-turn.result no_round within ∙ ap round_lists (sym c.index-rounds-turn.is) in
    subst (IsRoundIn c.args.net.now) same (c.requires.rounds.each k no_round (omega (arith, within, length-map rounds round_lists)))

pub loop-turn-preserved : goal.loop-turn-preserved
loop-turn-preserved c =
    let net = c.args.net.now in
    let rounds = c.args.rounds.now in
    let k = c.loop-turn.turn in
    let within : k < length rounds = c.loop-turn-test.true in
    let same : round_lists c.index-rounds-turn.result ≡ slice_index_or (map round_lists rounds) k no_round =
    ap round_lists c.index-rounds-turn.is ∙ sym (get_or-map round_lists rounds k c.index-rounds-turn.result no_round within) in (
      more_after (λ j. written (round_lines net c.args.part j (slice_index_or (map round_lists rounds) j no_round))) _ _ _ _ 0 k k (omega arith) c.in_ok-push_round.ensures.text
          (ap (λ (r : RoundLists). written (round_lines net c.args.part k r)) same) c.loop-turn.invariant.0,
      All-more IsRoundKept (map round_lists rounds) k no_round (omega (arith, within, length-map rounds round_lists)) c.loop-turn.invariant.1 (subst IsRoundKept same c.in_ok-push_round.ensures.kept),
    )

pub returns-clause-text : goal.returns-clause-text
returns-clause-text c =
    let net = c.args.net.now in
    let rounds = map round_lists c.args.rounds.now in
    let lines : ℕ → List (List (List ℕ)) = λ k. round_lines net c.args.part k (slice_index_or rounds k no_round) in
    let all : c.loop-turn.turn ≡ length rounds = omega (arith, c.loop-turn-test.false, c.loop-turn.auto.turn-end, length-map c.args.rounds.now round_lists) in
    rw all at c.loop-turn.invariant.0 ∙ ap (λ (l : List ℕ). string_bytes c.args.text.now ++ l) (sym (written_flat_map lines (range_with_len 0 (length rounds))))

pub returns-clause-kept : goal.returns-clause-kept
returns-clause-kept c =
    let rounds = map round_lists c.args.rounds.now in
    let all = take_all c.loop-turn.turn rounds (omega (arith, c.loop-turn-test.false, length-map c.args.rounds.now round_lists)) in
    let few : length c.args.rounds.now < 2 ^ 63 = search rules in
    record { count = omega (arith, few, length-map c.args.rounds.now round_lists); each = rw all at c.loop-turn.invariant.1 }
