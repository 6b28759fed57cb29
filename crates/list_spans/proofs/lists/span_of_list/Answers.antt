use Rattle.std.proofs.Common.{◌≡◌, ◌∙◌, Some, ap, sym, subst}
use Rattle.std.specs.Prelude.{slice_get}
use Rattle.teg_net.specs.Nets.{IsInputOf}
use Rattle.std.proofs.lemmas.Option.{slice_get-get_or}
use Rattle.list_spans.proofs.Spanning.{span_list}
use Rattle.list_spans.proofs.lists.span_of_list.Goals as goal

pub returns-in-Some-again : goal.returns-in-Some-again
returns-in-Some-again c =
    let net = c.args.net.now in
    let l = c.in-Some.list.now in
    let read = rw c.inputs.ensures.value at c.in-Some.ensures.lookup in
    let at : slice_get net.inputs c.args.list ≡ Some l = slice_get-get_or net.inputs c.args.list l read.3.0 ∙ ap Some (sym (read.3.1 l)) in
    let rules : IsInputOf net l = subst (IsInputOf net) (sym (read.3.1 l)) (c.inputs.ensures.rules.each_input c.args.list l read.3.0) in
    rw c.as_slice.ensures (span_list net c.args.list l (Some c.in-Some-again.again) at rules.few rules.again c.in-Some-again.is)
