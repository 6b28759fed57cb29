use Rattle.std.proofs.Common.{take, ◌≡◌, string_bytes, ap, ◌∙◌, ◌++◌, List, [], arith}
use Rattle.std.specs.List.{flat_map}
use Rattle.std.proofs.lemmas.List.{take_all}
use Rattle.teg_net.specs.declared.entries.InputList.{InputList}
use Rattle.teg_text.specs.Lines.{line_then}
use Rattle.teg_text.proofs.Joining.{lines_end}
use Rattle.forever_check.specs.ShownReleases.{release_line}
use Rattle.forever_check.proofs.texts.push_releases.Goals as goal

pub returns : goal.returns
returns c =
    let net = c.args.net.now in
    let lists : List InputList = c.args.lists.now in
    let all : take c.loop-list.list-index lists ≡ lists = take_all c.loop-list.list-index lists (omega (arith, c.loop-list-test.false)) in
    lines_end (release_line net) lists (string_bytes c.args.text.now) (string_bytes c.loop-list.text)
    (c.loop-list.invariant ∙ ap (λ (l : List InputList). string_bytes c.args.text.now ++ flat_map (λ x. line_then (release_line net x) []) l) all)
