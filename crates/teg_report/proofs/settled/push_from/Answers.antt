use Rattle.std.proofs.Common.{◌<◌, [], ◌++◌, List, ℕ, All, length, map, sym, subst, ap, ◌∙◌, append_assoc, string_bytes, arith}
use Rattle.std.proofs.lemmas.List.{get_or-map, length-map}
use Rattle.std.proofs.lemmas.List.Elements.{All-map}
use Rattle.std.proofs.lemmas.Simd.{map-map}
use Rattle.teg_report.specs.declared.answer.TransferLine.{TransferLine}
use Rattle.teg_report.specs.AnswerMeanings.{times_from, times_to}
use Rattle.teg_report.specs.SettledTexts.{AreTimesToKept, TimesTo, from_line, to_line}
use Rattle.teg_text.specs.Lines.{line_then, written}
use Rattle.teg_text.proofs.Joining.{line_append}
use Rattle.teg_report.proofs.settled.push_from.Goals as goal

pub push_each-requires : goal.push_each-requires
push_each-requires c =
    let net = c.args.net.now in
    let lines = c.args.from.now.lines.items in
    subst (λ (ls : List TransferLine). All (λ l. l.to.index < length net.transitions) ls) (sym c.deref.ensures.value)
    (λ i d l. subst (λ (t : TimesTo). t.to.index < length net.transitions) (get_or-map times_to lines i d (times_to d) l)
    (c.requires.lines i (times_to d) (omega (arith, l, length-map lines times_to))))

pub returns-clause-text : goal.returns-clause-text
returns-clause-text c =
    let net = c.args.net.now in
    let lines = c.args.from.now.lines.items in
    let before = string_bytes c.args.text.now in
    let first = from_line net (times_from c.args.from.now) in
    let told = map (to_line net) (map times_to lines) in
    c.in_ok-push_each.ensures.text
    ∙ (ap (λ (ls : List TransferLine). string_bytes c.push_from_line.new.text ++ written (map (λ l. to_line net (times_to l)) ls)) c.deref.ensures.value
    ∙ (ap (λ (ls : List (List (List ℕ))). string_bytes c.push_from_line.new.text ++ written ls) (sym (map-map (to_line net) times_to lines))
    ∙ (ap (λ (l : List ℕ). l ++ written told) c.in_ok-push_from_line.ensures.text
    ∙ (append_assoc before (line_then first []) (written told) ∙ ap (λ (l : List ℕ). before ++ l) (sym (line_append first (written told)))))))

pub returns-clause-kept : goal.returns-clause-kept
returns-clause-kept c = record {
  after = c.in_ok-push_from_line.ensures.after;
  period = c.in_ok-push_from_line.ensures.period;
  lines = All-map AreTimesToKept times_to c.args.from.now.lines.items
      (subst (λ (ls : List TransferLine). All (λ l. AreTimesToKept (times_to l)) ls) c.deref.ensures.value c.in_ok-push_each.ensures.kept);
}
