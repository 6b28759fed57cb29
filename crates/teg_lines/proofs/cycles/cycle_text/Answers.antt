use Rattle.std.proofs.Common.{rules, ◌≡◌, ◌++◌, List, ℕ, Option, Some, None, refl, append-nil, map, ap, sym, ◌∙◌, string_bytes}
use Rattle.std.specs.Option.{option_copied, option_map}
use Rattle.teg_net.specs.declared.answers.PartAnswer.{PartAnswer}
use Rattle.teg_lines.specs.CycleLines.{cycle_lines}
use Rattle.teg_lines.specs.CycleMeanings.{cycle_lists, part_lists, runs_lists}
use Rattle.teg_lines.specs.RoundLines.{RoundLists, runs_from, runs_lines, told_runs}
use Rattle.teg_text.specs.Lines.{written}
use Rattle.teg_text.proofs.Joining.{written_append}
use Rattle.teg_lines.proofs.cycles.cycle_text.Goals.{in-Some+in_ok-push_runs-in-Some, in-None}
use Rattle.teg_lines.proofs.cycles.cycle_text.Goals as goal

pub returns-clause-text : goal.returns-clause-text
returns-clause-text c =
    let net = c.args.net.now in
    let lines = cycle_lines net (cycle_lists c.args.answer.now) in
    let parts = map part_lists c.args.answer.now.parts.items in
    let bytes : c.into_bytes.result.items ≡ string_bytes c.match-rounds.text = search rules in
    bytes ∙ elim c.match-rounds.branch [
      | in-Some+in_ok-push_runs-in-Some w ↦
          let told = runs_lines net (runs_from 0 (map part_lists w.deref.result.now) (runs_lists w.in-Some.runs.now)) in
          let given : option_map runs_lists (option_copied c.args.rounds) ≡ Some (runs_lists w.in-Some.runs.now) = rw w.in-Some.is refl in
          ap string_bytes w.text-is ∙ (w.in_ok-push_runs-in-Some.ensures.text
          ∙ (ap (λ (l : List ℕ). l ++ written told) c.in_ok-text.ensures
          ∙ (sym (written_append lines told)
          ∙ (ap (λ (ps : List PartAnswer). written (lines ++ runs_lines net (runs_from 0 (map part_lists ps) (runs_lists w.in-Some.runs.now)))) w.deref.ensures.value
          ∙ ap (λ (r : Option (List (List RoundLists))). written (lines ++ runs_lines net (told_runs parts r))) (sym given)))))
      | in-None w ↦
          let given : option_map runs_lists (option_copied c.args.rounds) ≡ None = rw w.in-None.is refl in
          ap string_bytes w.text-is ∙ (c.in_ok-text.ensures
          ∙ (ap written (sym (append-nil lines))
          ∙ ap (λ (r : Option (List (List RoundLists))). written (lines ++ runs_lines net (told_runs parts r))) (sym given)))
    ]
