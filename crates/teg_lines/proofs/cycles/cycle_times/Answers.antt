use Rattle.std.proofs.Common.{◌≡◌, ◌<◌, ◌++◌, List, ℕ, length, map, ap, sym, subst, ◌∙◌, arith}
use Rattle.std.proofs.lemmas.List.{get_or-map, length-map}
use Rattle.std.specs.List.{flat_map, range_with_len}
use Rattle.teg_lines.specs.CycleLines.{ToldPart, NoCircuitIn, IsPartTold, best_lines, best_of, members_from, told_part_at, part_lines}
use Rattle.teg_lines.specs.CycleMeanings.{cycle_lists, part_lists}
use Rattle.teg_text.specs.Lines.{written}
use Rattle.teg_text.proofs.Joining.{written_append, written_flat_map}
use Rattle.teg_text.proofs.Listing.{more_after}
use Rattle.teg_lines.proofs.cycles.cycle_times.Goals as goal

pub push_part-requires-clause-part : goal.push_part-requires-clause-part
push_part-requires-clause-part c =
    let net = c.args.net.now in
    let parts = c.args.answer.now.parts.items in
    let n = c.loop-number.number in
    let told = c.index.result.now in
    let within : n < length parts = omega (arith, c.loop-number-test.true, c.len-number-end.ensures) in
    let same : told_part_at (map part_lists parts) n ≡ part_lists told = get_or-map part_lists parts n told NoCircuitIn within ∙ ap part_lists (sym c.index.ensures) in
    subst (λ (ps : List ℕ). IsPartTold net (members_from 0 ps n) (part_lists told)) (sym c.deref.ensures.value)
    (subst (IsPartTold net (members_from 0 c.args.answer.now.part_of.items n)) same (c.requires.parts n (omega (arith, within, length-map parts part_lists))))

pub loop-number-preserved : goal.loop-number-preserved
loop-number-preserved c =
    let net = c.args.net.now in
    let parts = c.args.answer.now.parts.items in
    let part_of = c.args.answer.now.part_of.items in
    let n = c.loop-number.number in
    let told = c.index.result.now in
    let within : n < length parts = omega (arith, c.loop-number-test.true, c.len-number-end.ensures) in
    let same : part_lists told ≡ told_part_at (map part_lists parts) n = ap part_lists c.index.ensures ∙ sym (get_or-map part_lists parts n told NoCircuitIn within) in
    more_after (λ k. written (part_lines net part_of k (told_part_at (map part_lists parts) k))) _ _ _ _ 0 n n (omega arith) c.in_ok-push_part.ensures
    (ap (λ (ps : List ℕ). written (part_lines net ps n (part_lists told))) c.deref.ensures.value ∙ ap (λ (p : ToldPart). written (part_lines net part_of n p)) same)
    c.loop-number.invariant

pub returns : goal.returns
returns c =
    let net = c.args.net.now in
    let answer = cycle_lists c.args.answer.now in
    let parts = c.args.answer.now.parts.items in
    let lines : ℕ → List (List (List ℕ)) = λ k. part_lines net answer.part_of k (told_part_at answer.parts k) in
    let head = best_lines net (best_of answer.parts answer.best) in
    let all : c.loop-number.number ≡ length answer.parts = omega (arith, c.loop-number-test.false, c.loop-number.auto.number-end, c.len-number-end.ensures, length-map parts part_lists) in
    rw all at c.loop-number.invariant
    ∙ (ap (λ (l : List ℕ). l ++ flat_map (λ k. written (lines k)) (range_with_len 0 (length answer.parts))) c.in_ok-text.ensures
    ∙ (ap (λ (l : List ℕ). written head ++ l) (sym (written_flat_map lines (range_with_len 0 (length answer.parts))))
    ∙ sym (written_append head (flat_map lines (range_with_len 0 (length answer.parts))))))
