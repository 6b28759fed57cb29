use Rattle.std.proofs.Common.{[], ◌++◌, List, ℕ, take, eq-eqb, ne_eqb, ap, sym, ◌∙◌, string_bytes, arith}
use Rattle.std.proofs.lemmas.List.{flat_map_more, take_all}
use Rattle.std.specs.List.{flat_map}
use Rattle.teg_net.specs.declared.entries.TransitionId.{TransitionId}
use Rattle.teg_lines.specs.CycleLines.{member_line, members_from}
use Rattle.teg_text.specs.Lines.{line_then}
use Rattle.teg_text.proofs.Joining.{lines_end}
use Rattle.teg_lines.proofs.Members.{one_more, no_more}
use Rattle.teg_lines.proofs.cycles.push_members.Goals.{then-part_of-index+in_ok-push_member, else-part_of-index}
use Rattle.teg_lines.proofs.cycles.push_members.Goals as goal

pub loop-index-preserved : goal.loop-index-preserved
loop-index-preserved c =
    let line : TransitionId → List ℕ = λ t. line_then (member_line c.args.net.now t) [] in
    let before = string_bytes c.args.text.now in
    let i = c.loop-index.index in
    elim c.if-part_of-index.branch [
      | then-part_of-index+in_ok-push_member w ↦ ap string_bytes w.text-is ∙ (w.in_ok-push_member.ensures
          ∙ (ap (λ (l : List ℕ). l ++ line (record { index = i })) c.loop-index.invariant
          ∙ (flat_map_more line before (members_from 0 (take i c.args.part_of.now) c.args.part) (record { index = i })
          ∙ ap (λ (ts : List TransitionId). before ++ flat_map line ts) (sym (one_more c.args.part_of.now i c.args.part c.loop-index-test.true (eq-eqb _ c.args.part w.if-part_of-index.true))))))
      | else-part_of-index w ↦ ap string_bytes w.text-is ∙ (c.loop-index.invariant
          ∙ ap (λ (ts : List TransitionId). before ++ flat_map line ts) (sym (no_more c.args.part_of.now i c.args.part c.loop-index-test.true (ne_eqb _ c.args.part w.if-part_of-index.false))))
    ]

pub returns : goal.returns
returns c =
    let all = take_all c.loop-index.index c.args.part_of.now (omega (arith, c.loop-index-test.false)) in
    lines_end (member_line c.args.net.now) (members_from 0 c.args.part_of.now c.args.part) (string_bytes c.args.text.now) _ (rw all at c.loop-index.invariant)
