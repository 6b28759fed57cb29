use Rattle.std.proofs.Common.{[], ◌++◌, List, ℕ, length, map, ap, ◌∙◌, append_assoc, codes, string_bytes, arith}
use Rattle.std.specs.Fmt.{decimal}
use Rattle.std.proofs.lemmas.List.{take_all}
use Rattle.teg_net.specs.declared.entries.Transition.{Transition}
use Rattle.teg_text.specs.Lines.{further_then}
use Rattle.teg_text.proofs.Joining.{line_ends}
use Rattle.answer_check.proofs.list.head.Goals as goal

pub returns : goal.returns
unfolding lib.Utf8.encode
returns c =
    let all = take_all c.loop-transition.transition-index c.args.net.now.transitions (omega (arith, c.loop-transition-test.false, ap length c.transitions-transition-items.ensures.value)) in
    line_ends (λ (t : Transition). t.name) c.args.net.now.transitions (string_bytes c.in_ok-text.text) (string_bytes c.loop-transition.text) _
    (rw all at c.loop-transition.invariant) c.in_ok-push-2.ensures.bytes
    ∙ (ap (λ (l : List ℕ). l ++ further_then (map (λ (t : Transition). t.name) c.args.net.now.transitions) []) c.in_ok-text.ensures.ok
    ∙ ap (λ (l : List ℕ). codes "dates of " ++ l)
    (append_assoc (decimal c.args.count) (codes " firings\ntransition") (further_then (map (λ (t : Transition). t.name) c.args.net.now.transitions) [])))
