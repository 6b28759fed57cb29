use Rattle.std.proofs.Common.{◌≡◌, List, slice_index_or, ap, ◌∙◌}
use Rattle.std.proofs.lemmas.List.{get_or_default}
use Rattle.teg_net.specs.declared.entries.Transition.{Transition}
use Rattle.teg_text.specs.WordsOfNames.{name_of_transition, no_transition}
use Rattle.settled_check.proofs.settled.begin_form_line.Goals as goal

pub returns : goal.returns
returns c =
    let net = c.args.net.now in
    let i = c.args.index in
    let listed : c.transitions.result.now ≡ net.transitions = c.transitions.ensures.value in
    let name : c.as_str-name.result.now ≡ name_of_transition net (record { index = i }) =
    c.as_str-name.ensures.text
    ∙ (ap (λ (ts : List Transition). (slice_index_or ts i c.index-transitions-index.result).name) listed
    ∙ ap (λ (t : Transition). t.name) (get_or_default net.transitions i c.index-transitions-index.result no_transition c.requires)) in
    rw name at c.write.ensures.bytes
